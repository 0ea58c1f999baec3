-- Items of lists, one after the other.
use Rattle.std.proofs.Common.{◌≡◌, ℕ, ◌+◌, ◌<◌, ◌≤◌, Bool, true, false, ◌&&◌, List, [], ◌∷◌, ◌++◌, length, map, take, drop, refl, ◌∙◌, ap, arith, inl, inr, Some, None, append-nil}
use Rattle.std.specs.List.{fold, list_all, slice_get, slice_split, position, position_or_len, flat_map}
use Rattle.std.specs.Char.{to_ascii_lowercase}
use Rattle.std.proofs.lemmas.Bool.{cases_lt, cond-true, lt-ltb}
use Rattle.std.proofs.lemmas.List.Sums.{fold-append, position_or_len_is, fails_before_first}
use Rattle.std.proofs.lemmas.List.Splits.{slice_split_first, slice_split_none}
use Rattle.std.proofs.lemmas.List.Quantifiers.{position-Some}
use Rattle.std.proofs.lemmas.Grind.{flat_map-append}
use Rattle.http_wire.specs.Fields.{values_of}
use Rattle.http_wire.proofs.FieldLemmas.{value_added}
use Rattle.field_list.specs.List.{is_comma, trimmed, items_in, items_of}

-- the first comma is within the text
pub comma_within : (text : List ℕ) (at : ℕ) → position is_comma text ≡ Some at → at < length text
comma_within text at e = (position-Some is_comma text at 0 e).0

-- the item before the first comma, and the others
pub items_first : (text : List ℕ) (at : ℕ) → position is_comma text ≡ Some at → items_in text ≡ trimmed (take at text) ∷ items_in (drop (at + 1) text)
items_first text at e =
    let w = position-Some is_comma text at 0 e in
    let is = position_or_len_is is_comma text at 0 (omega (arith, w.0)) w.2 (λ within. w.1) in
    ap (map trimmed) (slice_split_first is_comma text 0 (omega (arith, is, w.0)) ∙ ap (λ k. take k text ∷ slice_split is_comma (drop (k + 1) text)) is)

some_is_none : (text : List ℕ) → position_or_len is_comma text < length text → position is_comma text ≡ None → ⊥
some_is_none text below e =
    let n = position_or_len is_comma text in
    let is : position is_comma text ≡ Some n = cond-true _ _ _ (lt-ltb n (length text) below) in
    cc

none_within : (text : List ℕ) → position is_comma text ≡ None → length text ≤ position_or_len is_comma text
none_within text e = elim (cases_lt (position_or_len is_comma text) (length text)) [
  | inl below ↦ absurd (some_is_none text below e)
  | inr past ↦ past
]

-- the only item where there is no comma
pub items_last : (text : List ℕ) → position is_comma text ≡ None → items_in text ≡ trimmed text ∷ []
items_last text e =
    ap (map trimmed) (slice_split_none is_comma text (λ k d below. fails_before_first is_comma text k d (omega (arith, below, none_within text e))))

-- a header field more
pub told_added : {B : Type 0} (f : B → List ℕ → B) (a : B) (name : List ℕ) (headers : List (List ℕ × List ℕ)) (i : ℕ) (header : List ℕ × List ℕ) → slice_get headers i ≡ Some header
    → map to_ascii_lowercase header.0 ≡ map to_ascii_lowercase name
    → fold f a (items_of name (take (i + 1) headers)) ≡ fold f (fold f a (items_of name (take i headers))) (items_in header.1)
told_added f a name headers i header is same =
    let before = values_of name (take i headers) in
    ap (λ values. fold f a (flat_map items_in values)) (value_added name headers i header is same)
    ∙ ap (fold f a) (flat_map-append items_in before (header.1 ∷ []) ∙ ap (λ x. flat_map items_in before ++ x) (append-nil (items_in header.1)))
    ∙ fold-append f a (flat_map items_in before) (items_in header.1)

and_true : (b : Bool) → b ≡ (b && true)
and_true true = refl
and_true false = refl

and_assoc : (a b c : Bool) → ((a && b) && c) ≡ (a && (b && c))
and_assoc true b c = refl
and_assoc false b c = refl

-- a test of each item, one after the other
pub all_by_fold : (q : List ℕ → Bool) (items : List (List ℕ)) (b : Bool) → fold (λ told item. told && q item) b items ≡ (b && list_all q items)
all_by_fold q [] b = and_true b
all_by_fold q (item ∷ items) b = all_by_fold q items (b && q item) ∙ and_assoc b (q item) (list_all q items)
