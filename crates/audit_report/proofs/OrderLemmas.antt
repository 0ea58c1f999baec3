-- The printed values, put back into the order of the file's fields, are those of the record.
use Rattle.std.proofs.Common.{◌≡◌, ℕ, suc, ◌+◌, ◌↔◌, IsTrue, ◌&&◌, ◌||◌, Bool, true, false, true≢false, not, cond, List, [], ◌∷◌, ◌++◌, All, length, map, get_or, refl, sym, ◌∙◌, ap, ap₂, inl, inr, ◌⊎◌, arith, append_assoc, ◌<◌}
use Rattle.std.specs.List.{filter, list_any, position_or_len}
use Rattle.std.proofs.lemmas.Bool.{cases_Bool, cond-true, cond-false, and_parts, and_from, both_ways, not-true, or_left, or_right, or_parts, or_cases}
use Rattle.std.proofs.lemmas.List.Elements.{All-cons, All-head, All-nil, All-tail, All-weaker}
use Rattle.std.proofs.lemmas.List.Folds.{list_any_at}
use Rattle.std.proofs.lemmas.Slice.Eq.{bytes_eq-Decides}
use Rattle.cdni_log.proofs.TableLemmas.{same_field}
use Rattle.cdni_log.specs.Field.{field_name, is_header}
use Rattle.cdni_log.specs.FieldList.{are_apart, default_fields, is_same}
use Rattle.cdni_log.specs.declared.field.Field.{Field}
use Rattle.cdni_log.specs.declared.field.Field.TheVariants as field
use Rattle.audit_report.specs.Report.{is_field_of, place_of, printed_order, put_into, value_at}

-- ---- one field

pub one_field : (f g : Field) → is_same f g ≡ true → f ≡ g
one_field f g is = same_field f g ((bytes_eq-Decides (field_name f) (field_name g)).0 is)

pub same_itself : (f : Field) → is_same f f ≡ true
same_itself f = (bytes_eq-Decides (field_name f) (field_name f)).1 refl

same_bool : (a b : Bool) → (a ≡ true → b ≡ true) → (b ≡ true → a ≡ true) → a ≡ b
same_bool true b to from = sym (to refl)
same_bool false true to from = from refl
same_bool false false to from = refl

-- the test of two fields
pub same_is : (found : Bool) (f g : Field) → (IsTrue found ↔ (f ≡ g)) → found ≡ is_same f g
same_is found f g is = same_bool found (is_same f g) (λ yes. ap (is_same f) (sym (is.0 yes)) ∙ same_itself f) (λ same. is.1 (one_field f g same))

turned : (f g : Field) → is_same f g ≡ false → is_same g f ≡ false
turned f g other = elim (cases_Bool (is_same g f)) [
  | inl same ↦ absurd (both_ways (is_same f g) other (ap (λ x. is_same x g) (sym (one_field g f same)) ∙ same_itself g))
  | inr free ↦ free
]

-- ---- the place of a field

pub place_here : (f x : Field) (xs : List Field) → is_same f x ≡ true → place_of (x ∷ xs) f ≡ 0
place_here f x xs is = ap (λ b. cond (not b) (1 + position_or_len (is_same f) xs) 0) is

one_more : (n : ℕ) → 1 + n ≡ suc n
one_more n = omega arith

pub place_behind : (f x : Field) (xs : List Field) → is_same f x ≡ false → place_of (x ∷ xs) f ≡ suc (place_of xs f)
place_behind f x xs is = ap (λ b. cond (not b) (1 + position_or_len (is_same f) xs) 0) is ∙ one_more (place_of xs f)

-- what is told of a field that is there
there : (g : Field → List ℕ) (f : Field) (xs : List Field) → list_any (is_same f) xs ≡ true → value_at (map g xs) (place_of xs f) ≡ g f
there g f [] is = absurd (true≢false (sym is))
there g f (x ∷ xs) is = elim (cases_Bool (is_same f x)) [
  | inl same ↦ ap (value_at (map g (x ∷ xs))) (place_here f x xs same) ∙ ap g (sym (one_field f x same))
  | inr other ↦ ap (value_at (map g (x ∷ xs))) (place_behind f x xs other) ∙ there g f xs (sym (ap (λ b. b || list_any (is_same f) xs) other) ∙ is)
]

map_same : {A B : Type 0} (g h : A → B) (xs : List A) → All (λ x. g x ≡ h x) xs → map g xs ≡ map h xs
map_same g h [] all = refl
map_same g h (x ∷ xs) all = ap₂ (λ y ys. y ∷ ys) (All-head (λ x. g x ≡ h x) x xs all) (map_same g h xs (All-tail (λ x. g x ≡ h x) x xs all))

-- what is put into an order, field by field
fused : (fields : List Field) (values : List (List ℕ)) (order : List Field) → put_into fields values order ≡ map (λ f. value_at values (place_of fields f)) order
fused fields values [] = refl
fused fields values (f ∷ order) = ap (λ vs. value_at values (place_of fields f) ∷ vs) (fused fields values order)

-- ---- the fields themselves

none_same : (f : Field) (xs : List Field) → list_any (is_same f) xs ≡ false → All (λ x. is_same x f ≡ false) xs
none_same f [] is = All-nil (λ x. is_same x f ≡ false)
none_same f (x ∷ xs) is =
    let parts = or_parts (is_same f x) (list_any (is_same f) xs) is in
    All-cons (λ x. is_same x f ≡ false) x xs (turned f x parts.0) (none_same f xs parts.1)

-- each value stands at the place of its field
own : (fields : List Field) (values : List (List ℕ)) → are_apart fields ≡ true → length values ≡ length fields → map (λ f. value_at values (place_of fields f)) fields ≡ values
own [] [] apart long = refl
own [] (v ∷ vs) apart long = absurd (omega (arith, long))
own (f ∷ fs) [] apart long = absurd (omega (arith, long))
own (f ∷ fs) (v ∷ vs) apart long =
    let parts = and_parts (not (list_any (is_same f) fs)) (are_apart fs) apart in
    let behind = map_same (λ x. value_at (v ∷ vs) (place_of (f ∷ fs) x)) (λ x. value_at vs (place_of fs x)) fs
    (All-weaker (λ x. is_same x f ≡ false) (λ x. value_at (v ∷ vs) (place_of (f ∷ fs) x) ≡ value_at vs (place_of fs x)) (λ x other. ap (value_at (v ∷ vs)) (place_behind x f fs other)) fs
    (none_same f fs (not-true (list_any (is_same f) fs) parts.0))) in
    ap₂ (λ y ys. y ∷ ys) (ap (value_at (v ∷ vs)) (place_here f f fs (same_itself f))) (behind ∙ own fs vs parts.1 (omega (arith, long)))

-- ---- all fields are printed

any_filter : (t p : Field → Bool) (xs : List Field) → list_any (λ x. t x && p x) xs ≡ true → list_any t (filter p xs) ≡ true
any_filter t p [] is = absurd (true≢false (sym is))
any_filter t p (x ∷ xs) is = elim (cases_Bool (p x)) [
  | inl passes ↦
      let more : list_any t (filter p (x ∷ xs)) ≡ (t x || list_any t (filter p xs)) = ap (list_any t) (cond-true (p x) (x ∷ filter p xs) (filter p xs) passes) in
      elim (or_cases (t x && p x) (list_any (λ y. t y && p y) xs) is) [
        | inl here ↦ more ∙ or_left (t x) (list_any t (filter p xs)) (and_parts (t x) (p x) here).0
        | inr behind ↦ more ∙ or_right (t x) (list_any t (filter p xs)) (any_filter t p xs behind)
      ]
  | inr fails ↦
      let less : list_any t (filter p (x ∷ xs)) ≡ list_any t (filter p xs) = ap (list_any t) (cond-false (p x) (x ∷ filter p xs) (filter p xs) fails) in
      elim (or_cases (t x && p x) (list_any (λ y. t y && p y) xs) is) [
        | inl here ↦ absurd (both_ways (p x) fails (and_parts (t x) (p x) here).1)
        | inr behind ↦ less ∙ any_filter t p xs behind
      ]
]

any_append : (t : Field → Bool) (xs ys : List Field) → (list_any t xs ≡ true) ⊎ (list_any t ys ≡ true) → list_any t (xs ++ ys) ≡ true
any_append t [] ys (inl is) = absurd (true≢false (sym is))
any_append t [] ys (inr is) = is
any_append t (x ∷ xs) ys (inl is) = elim (or_cases (t x) (list_any t xs) is) [
  | inl here ↦ or_left (t x) (list_any t (xs ++ ys)) here
  | inr behind ↦ or_right (t x) (list_any t (xs ++ ys)) (any_append t xs ys (inl behind))
]
any_append t (x ∷ xs) ys (inr is) = or_right (t x) (list_any t (xs ++ ys)) (any_append t xs ys (inr is))

at_place : (p : Field → Bool) (f : Field) (k : ℕ) → k < length default_fields → get_or default_fields k field.Date ≡ f → p f ≡ true → list_any (λ x. is_same f x && p x) default_fields ≡ true
at_place p f k below at is = list_any_at (λ x. is_same f x && p x) default_fields k field.Date below
    (and_from (is_same f (get_or default_fields k field.Date)) (p (get_or default_fields k field.Date)) (ap (is_same f) at ∙ same_itself f) (ap p at ∙ is))

-- a field that is no header is one of the thirteen
listed : (p : Field → Bool) (f : Field) → is_header f ≡ false → p f ≡ true → list_any (λ x. is_same f x && p x) default_fields ≡ true
listed p field.Date plain is = at_place p field.Date 0 (omega arith) refl is
listed p field.Time plain is = at_place p field.Time 1 (omega arith) refl is
listed p field.TimeTaken plain is = at_place p field.TimeTaken 2 (omega arith) refl is
listed p field.GroupId plain is = at_place p field.GroupId 3 (omega arith) refl is
listed p field.Method plain is = at_place p field.Method 4 (omega arith) refl is
listed p field.CsUri plain is = at_place p field.CsUri 5 (omega arith) refl is
listed p field.UUri plain is = at_place p field.UUri 6 (omega arith) refl is
listed p field.Protocol plain is = at_place p field.Protocol 7 (omega arith) refl is
listed p field.Status plain is = at_place p field.Status 8 (omega arith) refl is
listed p field.TotalBytes plain is = at_place p field.TotalBytes 9 (omega arith) refl is
listed p field.EntityBytes plain is = at_place p field.EntityBytes 10 (omega arith) refl is
listed p field.Ccid plain is = at_place p field.Ccid 11 (omega arith) refl is
listed p field.Cached plain is = at_place p field.Cached 12 (omega arith) refl is
listed p (field.Header header) plain is = absurd (true≢false plain)

-- among the fields is each of them
among : (f : Field) (p : Field → Bool) (before behind : List Field) → p f ≡ true → list_any (λ x. is_same f x && p x) (before ++ f ∷ behind) ≡ true
among f p [] behind is = or_left (is_same f f && p f) (list_any (λ x. is_same f x && p x) behind) (and_from (is_same f f) (p f) (same_itself f) is)
among f p (x ∷ before) behind is = or_right (is_same f x && p x) (list_any (λ x. is_same f x && p x) (before ++ f ∷ behind)) (among f p before behind is)

has_itself : (f : Field) (before behind : List Field) → list_any (is_same f) (before ++ f ∷ behind) ≡ true
has_itself f [] behind = or_left (is_same f f) (list_any (is_same f) behind) (same_itself f)
has_itself f (x ∷ before) behind = or_right (is_same f x) (list_any (is_same f) (before ++ f ∷ behind)) (has_itself f before behind)

printed : (fields : List Field) (f : Field) (before behind : List Field) → fields ≡ before ++ f ∷ behind → list_any (is_same f) (printed_order fields) ≡ true
unfolding printed_order
printed fields f before behind is = any_append (is_same f) (filter (is_field_of fields) default_fields) (filter is_header fields) (elim (cases_Bool (is_header f)) [
  | inl header ↦ inr (any_filter (is_same f) is_header fields (ap (list_any (λ x. is_same f x && is_header x)) is ∙ among f is_header before behind header))
  | inr plain ↦ inl (any_filter (is_same f) (is_field_of fields) default_fields (listed (is_field_of fields) f plain (ap (list_any (is_same f)) is ∙ has_itself f before behind)))
])

-- each of these, behind those before them
all_printed : (fields before behind : List Field) → fields ≡ before ++ behind → All (λ f. list_any (is_same f) (printed_order fields) ≡ true) behind
all_printed fields before [] is = All-nil (λ f. list_any (is_same f) (printed_order fields) ≡ true)
all_printed fields before (f ∷ behind) is = All-cons (λ f. list_any (is_same f) (printed_order fields) ≡ true) f behind (printed fields f before behind is)
    (all_printed fields (before ++ f ∷ []) behind (is ∙ sym (append_assoc before (f ∷ []) behind)))

pub put_back : (fields : List Field) (values : List (List ℕ)) → are_apart fields ≡ true → length values ≡ length fields
    → put_into (printed_order fields) (put_into fields values (printed_order fields)) fields ≡ values
put_back fields values apart long =
    let g : Field → List ℕ = λ f. value_at values (place_of fields f) in
    ap (λ vs. put_into (printed_order fields) vs fields) (fused fields values (printed_order fields))
    ∙ fused (printed_order fields) (map g (printed_order fields)) fields
    ∙ map_same (λ f. value_at (map g (printed_order fields)) (place_of (printed_order fields) f)) g fields
    (All-weaker (λ f. list_any (is_same f) (printed_order fields) ≡ true) (λ f. value_at (map g (printed_order fields)) (place_of (printed_order fields) f) ≡ g f) (λ f is. there g f (printed_order fields) is) fields
    (all_printed fields [] fields refl))
    ∙ own fields values apart long
