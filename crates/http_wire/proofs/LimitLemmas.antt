-- How many line feeds stand in bytes.
use Rattle.std.proofs.Common.{◌≡◌, ℕ, ◌+◌, ◌<◌, ◌≤◌, Bool, ltb, List, [], ◌∷◌, ◌++◌, length, take, drop, refl, sym, ◌∙◌, ap, subst, arith, cond, Option, Some, None, ⊎_elim, inl, inr, append_assoc, length-append, length-drop}
use Rattle.std.specs.Prelude.{◌==◌}
use Rattle.std.specs.List.{flat_map, count_by, position_or_len}
use Rattle.std.specs.Option.{option_map}
use Rattle.std.proofs.lemmas.Bool.{cases_Bool, cases_lt, cond-true, cond-false, ltb-true, ltb-false}
use Rattle.std.proofs.lemmas.List.Splits.{slice_split_first, slice_split_none, length-slice_split}
use Rattle.std.proofs.lemmas.List.{take-append-drop, drop-append-le}
use Rattle.std.proofs.lemmas.List.Sums.{sum_by-append, count_by-le-length, fails_before_first}
use Rattle.httparse.specs.Grammar.{LineEnd, crlf, lf, print_end, Field, print_field, print_section}
use Rattle.listing.specs.Word.{parts_at}
use Rattle.http_wire.specs.Limits.{feeds}
use Rattle.http_wire.specs.declared.limits.TheConstants.{FEEDS_MAX}

pub feeds-append : (xs ys : List ℕ) → feeds (xs ++ ys) ≡ feeds xs + feeds ys
unfolding feeds
feeds-append xs ys = sum_by-append (λ byte. cond (byte == 10) 1 0) xs ys

pub feeds-take : (n : ℕ) (xs : List ℕ) → feeds (take n xs) ≤ feeds xs
feeds-take n xs = omega (arith, ap feeds (sym (take-append-drop n xs)), feeds-append (take n xs) (drop n xs))

pub feeds-le-length : (xs : List ℕ) → feeds xs ≤ length xs
unfolding feeds
feeds-le-length xs = count_by-le-length (λ byte. byte == 10) xs

pub few_feeds : (xs : List ℕ) → (FEEDS_MAX < feeds xs → ⊥) → feeds xs ≤ FEEDS_MAX
few_feeds xs never = elim (cases_lt FEEDS_MAX (feeds xs)) [
  | inl many ↦ absurd (never many)
  | inr few ↦ few
]

abbrev is_feed : ℕ → Bool
is_feed byte = byte == 10

abbrev parts_at_place : List ℕ → Option ℕ → Option (List ℕ × List ℕ)
parts_at_place text place = option_map (λ i. (take i text, drop (i + 1) text)) place

-- behind the first line feed there is one fewer
pub feeds_cut : (text line others : List ℕ) → Some (line, others) ≡ parts_at 10 text → (feeds text ≡ feeds others + 1) × (length others < length text)
unfolding parts_at feeds
feeds_cut text line others e =
    let n = position_or_len is_feed text in
    ⊎_elim (λ found.
    let at : parts_at 10 text ≡ Some (take n text, drop (n + 1) text) = ap (parts_at_place text) (cond-true (ltb n (length text)) (Some n) None found) in
    let pair : (line, others) ≡ (take n text, drop (n + 1) text) = some_same _ _ (e ∙ at) in
    let within = ltb-true _ _ found in
    let rest : others ≡ drop (n + 1) text = ap (λ p. p.1) pair in
    let split = ap length (slice_split_first is_feed text 0 within) in
    (omega (arith, split, length-slice_split is_feed text, length-slice_split is_feed (drop (n + 1) text), ap (count_by is_feed) rest), omega (arith, within, ap length rest, length-drop (n + 1) text)))
    (λ none. absurd (some_none (e ∙ ap (parts_at_place text) (cond-false (ltb n (length text)) (Some n) None none))))
    (cases_Bool (ltb n (length text)))
  where
    some_same : {A : Type 0} (a b : A) → Some a ≡ Some b → a ≡ b
    some_same a b h = cc

    some_none : {A : Type 0} {a : A} → Some a ≡ None → ⊥
    some_none h = cc

-- without a line feed there are none
pub feeds_none : (text : List ℕ) → None ≡ parts_at 10 text → feeds text ≡ 0
unfolding parts_at feeds
feeds_none text e =
    let n = position_or_len is_feed text in
    ⊎_elim (λ found. absurd (none_some (e ∙ ap (parts_at_place text) (cond-true (ltb n (length text)) (Some n) None found))))
    (λ none.
    let past = ltb-false _ _ none in
    let split = ap length (slice_split_none is_feed text (λ k d below. fails_before_first is_feed text k d (omega (arith, below, past)))) in
    omega (arith, split, length-slice_split is_feed text)) (cases_Bool (ltb n (length text)))
  where
    none_some : {A : Type 0} {a : A} → None ≡ Some a → ⊥
    none_some h = cc

pub feeds-end : (end : LineEnd) → feeds (print_end end) ≡ 1
unfolding feeds
feeds-end crlf = refl
feeds-end lf = refl

last_feed : (front : List ℕ) (n : ℕ) → n < length (front ++ 10 ∷ []) → 1 ≤ feeds (drop n (front ++ 10 ∷ []))
last_feed front n inside =
    let short : n ≤ length front = omega (arith, length-append front (10 ∷ [])) in
    omega (arith, ap feeds (drop-append-le n front (10 ∷ []) short), feeds-append (drop n front) (10 ∷ []), feeds-end lf)

-- the last byte of a line end is a line feed
pub feeds-behind : (end : LineEnd) (front : List ℕ) (n : ℕ) → n < length (front ++ print_end end) → 1 ≤ feeds (drop n (front ++ print_end end))
feeds-behind lf front n inside = last_feed front n inside
feeds-behind crlf front n inside =
    let P : List ℕ → Type 0 = λ text. n < length text → 1 ≤ feeds (drop n text) in
    subst P (append_assoc front (13 ∷ []) (10 ∷ [])) (last_feed (front ++ 13 ∷ []) n) inside

feeds-field : (field : Field) → 1 ≤ feeds (print_field field)
feeds-field field = omega (arith, feeds-append (field.name ++ 58 ∷ field.raw) (print_end field.end), feeds-end field.end)

pub feeds-fields : (fields : List Field) → length fields ≤ feeds (flat_map print_field fields)
feeds-fields [] = omega arith
feeds-fields (field ∷ fields) =
    omega (arith, feeds-append (print_field field) (flat_map print_field fields), feeds-field field, feeds-fields fields)

-- a start line and a section have a line feed for each line
pub feeds-lines : (start : List ℕ) (end : LineEnd) (fields : List Field) (last : LineEnd)
    → length fields + 2 ≤ feeds ((start ++ print_end end) ++ print_section fields last)
feeds-lines start end fields last =
    omega (
      arith,
      feeds-append (start ++ print_end end) (print_section fields last),
      feeds-append start (print_end end),
      feeds-end end,
      feeds-append (flat_map print_field fields) (print_end last),
      feeds-end last,
      feeds-fields fields,
    )

pub lines-end : (start : List ℕ) (end : LineEnd) (fields : List Field) (last : LineEnd) (n : ℕ)
    → n < length ((start ++ print_end end) ++ print_section fields last)
    → 1 ≤ feeds (drop n ((start ++ print_end end) ++ print_section fields last))
lines-end start end fields last n =
    let front = start ++ print_end end in
    let P : List ℕ → Type 0 = λ text. n < length text → 1 ≤ feeds (drop n text) in
    subst P (append_assoc front (flat_map print_field fields) (print_end last)) (feeds-behind last (front ++ flat_map print_field fields) n)
