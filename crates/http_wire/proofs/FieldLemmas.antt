-- The values of the header fields of one name.
use Rattle.std.proofs.Common.{◌≡◌, ℕ, ◌+◌, ◌≤◌, true, false, List, [], ◌∷◌, ◌++◌, length, map, take, drop, refl, sym, ◌∙◌, ap, subst, arith, Option, None, Some, MatchOption, Bor, append-nil, length-append}
use Rattle.std.specs.List.{filter, slice_get}
use Rattle.std.specs.Char.{to_ascii_lowercase}
use Rattle.std.proofs.lemmas.Bool.{false_from_ne_true}
use Rattle.std.proofs.lemmas.List.{take_more, map-append, take-append-drop}
use Rattle.std.proofs.lemmas.List.Elements.{filter-append}
use Rattle.std.proofs.lemmas.Option.{get_or_from_slice_get, slice_get_within}
use Rattle.std.proofs.lemmas.Slice.Eq.{bytes_eq-Decides}
use Rattle.http_wire.specs.Fields.{is_name, values_of}

values_of-append : (name : List ℕ) (xs ys : List (List ℕ × List ℕ)) → values_of name (xs ++ ys) ≡ values_of name xs ++ values_of name ys
values_of-append name xs ys = ap (map (λ header. header.1)) (filter-append (is_name name) xs ys) ∙ map-append (λ header. header.1) (filter (is_name name) xs) (filter (is_name name) ys)

take_next : (headers : List (List ℕ × List ℕ)) (i : ℕ) (header : List ℕ × List ℕ) → slice_get headers i ≡ Some header
    → take (i + 1) headers ≡ take i headers ++ header ∷ []
take_next headers i header is =
    take_more headers i header (slice_get_within headers i header is) ∙ ap (λ h. take i headers ++ h ∷ []) (get_or_from_slice_get headers i header header is)

name_of : (name : List ℕ) (header : List ℕ × List ℕ) → map to_ascii_lowercase header.0 ≡ map to_ascii_lowercase name → is_name name header ≡ true
name_of name header same = (bytes_eq-Decides _ _).1 same

no_name_of : (name : List ℕ) (header : List ℕ × List ℕ) → (map to_ascii_lowercase header.0 ≡ map to_ascii_lowercase name → ⊥) → is_name name header ≡ false
no_name_of name header other = false_from_ne_true _ (λ is. other ((bytes_eq-Decides _ _).0 is))

one_value : (name : List ℕ) (header : List ℕ × List ℕ) → is_name name header ≡ true → values_of name (header ∷ []) ≡ header.1 ∷ []
one_value name header is = rw is refl

no_value : (name : List ℕ) (header : List ℕ × List ℕ) → is_name name header ≡ false → values_of name (header ∷ []) ≡ []
no_value name header is = rw is refl

-- a header field with the name adds its value
pub value_added : (name : List ℕ) (headers : List (List ℕ × List ℕ)) (i : ℕ) (header : List ℕ × List ℕ) → slice_get headers i ≡ Some header
    → map to_ascii_lowercase header.0 ≡ map to_ascii_lowercase name
    → values_of name (take (i + 1) headers) ≡ values_of name (take i headers) ++ header.1 ∷ []
value_added name headers i header is same =
    ap (values_of name) (take_next headers i header is) ∙ values_of-append name (take i headers) (header ∷ [])
    ∙ ap (λ more. values_of name (take i headers) ++ more) (one_value name header (name_of name header same))

-- another one adds none
pub value_kept : (name : List ℕ) (headers : List (List ℕ × List ℕ)) (i : ℕ) (header : List ℕ × List ℕ) → slice_get headers i ≡ Some header
    → (map to_ascii_lowercase header.0 ≡ map to_ascii_lowercase name → ⊥)
    → values_of name (take (i + 1) headers) ≡ values_of name (take i headers)
value_kept name headers i header is other =
    ap (values_of name) (take_next headers i header is) ∙ values_of-append name (take i headers) (header ∷ [])
    ∙ ap (λ more. values_of name (take i headers) ++ more) (no_value name header (no_name_of name header other)) ∙ append-nil (values_of name (take i headers))

-- two values so far are two values
pub several : (name : List ℕ) (headers : List (List ℕ × List ℕ)) (n : ℕ) → 2 ≤ length (values_of name (take n headers)) → 2 ≤ length (values_of name headers)
several name headers n two =
    let whole = ap (λ all. length (values_of name all)) (sym (take-append-drop n headers)) ∙ ap length (values_of-append name (take n headers) (drop n headers)) ∙ length-append (values_of name (take n headers)) (values_of name (drop n headers)) in
    omega (arith, whole)

-- the value that was found so far
abbrev pub SoFar : List (List ℕ) → Option (Bor (List ℕ)) → Type 0
SoFar values found = MatchOption found (values ≡ []) (λ value. values ≡ value.now ∷ [])

pub so_far_first : (name : List ℕ) (headers : List (List ℕ × List ℕ)) (i : ℕ) (header : List ℕ) (value : Bor (List ℕ)) (old new : Option (Bor (List ℕ)))
    → slice_get headers i ≡ Some (header, value.now) → map to_ascii_lowercase header ≡ map to_ascii_lowercase name → old ≡ None → new ≡ Some value
    → SoFar (values_of name (take i headers)) old → SoFar (values_of name (take (i + 1) headers)) new
so_far_first name headers i header value old new is same none some before =
    let empty : values_of name (take i headers) ≡ [] = subst (SoFar (values_of name (take i headers))) none before in
    subst (SoFar (values_of name (take (i + 1) headers))) (sym some) (value_added name headers i (header, value.now) is same ∙ ap (λ front. front ++ value.now ∷ []) empty)

pub so_far_kept : (name : List ℕ) (headers : List (List ℕ × List ℕ)) (i : ℕ) (header value : List ℕ) (old new : Option (Bor (List ℕ)))
    → slice_get headers i ≡ Some (header, value) → (map to_ascii_lowercase header ≡ map to_ascii_lowercase name → ⊥) → new ≡ old
    → SoFar (values_of name (take i headers)) old → SoFar (values_of name (take (i + 1) headers)) new
so_far_kept name headers i header value old new is other kept before =
    subst (SoFar (values_of name (take (i + 1) headers))) (sym kept) (subst (λ (values : List (List ℕ)). SoFar values old) (sym (value_kept name headers i (header, value) is other)) before)

pub so_far_several : (name : List ℕ) (headers : List (List ℕ × List ℕ)) (i : ℕ) (header value : List ℕ) (first : Bor (List ℕ)) (old : Option (Bor (List ℕ)))
    → slice_get headers i ≡ Some (header, value) → map to_ascii_lowercase header ≡ map to_ascii_lowercase name → old ≡ Some first
    → SoFar (values_of name (take i headers)) old → 2 ≤ length (values_of name headers)
so_far_several name headers i header value first old is same some before =
    let one : values_of name (take i headers) ≡ first.now ∷ [] = subst (SoFar (values_of name (take i headers))) some before in
    let two = value_added name headers i (header, value) is same ∙ ap (λ front. front ++ value ∷ []) one in
    several name headers (i + 1) (omega (arith, ap length two))
