-- The bytes of a part.
use Rattle.std.proofs.Common.{◌≡◌, ℕ, ◌+◌, ◌-◌, ◌<◌, ◌≤◌, zero, suc, List, [], ◌∷◌, length, take, drop, slice_get, Some, refl, sym, ◌∙◌, ap, arith, length-drop}
use Rattle.std.proofs.lemmas.List.{length-take-le}
use Rattle.std.proofs.lemmas.Option.{same_Some}
use Rattle.byte_range.specs.declared.span.Span.TheVariants.{Part}
use Rattle.byte_range.specs.Span.{part_of}

get_taken : (n i : ℕ) (xs : List ℕ) → i < n → slice_get (take n xs) i ≡ slice_get xs i
get_taken zero i xs below = absurd (omega arith)
get_taken (suc n) i [] below = refl
get_taken (suc n) zero (x ∷ xs) below = refl
get_taken (suc n) (suc i) (x ∷ xs) below = get_taken n i xs (omega arith)

get_dropped : (n i : ℕ) (xs : List ℕ) → slice_get (drop n xs) i ≡ slice_get xs (n + i)
get_dropped zero i xs = ap (slice_get xs) (let e : i ≡ 0 + i = omega arith in e)
get_dropped (suc n) i [] = refl
get_dropped (suc n) i (x ∷ xs) = get_dropped n i xs ∙ ap (slice_get (x ∷ xs)) (let e : suc (n + i) ≡ suc n + i = omega arith in e)

part_len : (body : List ℕ) (first last : ℕ) → first ≤ last → last < length body → length (take (last + 1 - first) (drop first body)) + first ≡ last + 1
part_len body first last least most =
    let rest = length-drop first body in
    let fits : last + 1 - first ≤ length (drop first body) = omega (arith, rest) in
    let taken = length-take-le (last + 1 - first) (drop first body) fits in
    omega (arith, taken)

pub len_of_part : (body part : List ℕ) (first last : ℕ) → first ≤ last → last < length body → part_of body (Part first last) ≡ Some part → length part + first ≡ last + 1
len_of_part body part first last least most is =
    ap (λ (xs : List ℕ). length xs + first) (sym (same_Some _ _ is)) ∙ part_len body first last least most

pub byte_of_part : (body part : List ℕ) (first last i : ℕ) → first ≤ last → last < length body → part_of body (Part first last) ≡ Some part
    → i < length part → slice_get part i ≡ slice_get body (first + i)
byte_of_part body part first last i least most is below =
    let len = len_of_part body part first last least most is in
    ap (λ (xs : List ℕ). slice_get xs i) (sym (same_Some _ _ is))
    ∙ get_taken (last + 1 - first) i (drop first body) (omega (arith, len))
    ∙ get_dropped first i body
