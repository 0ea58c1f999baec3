-- Lists of fields, read name by name.
use Rattle.std.proofs.Common.{◌≡◌, ℕ, ◌+◌, ◌<◌, ◌≤◌, Bool, true, false, not, List, [], ◌∷◌, ◌++◌, length, take, drop, refl, ap, sym, ◌∙◌, arith, Option, Some, None, ltb, ◌==◌, append_assoc, length-drop, ⊎_elim, IsTrue, ◌↔◌}
use Rattle.std.proofs.lemmas.Bool.{cases_Bool, cond-true, cond-false, ltb-true, ltb-false, not_from_true, not_from_false}
use Rattle.std.proofs.lemmas.List.Splits.{slice_split_first, slice_split-cons_no}
use Rattle.std.proofs.lemmas.List.Folds.{list_any_at}
use Rattle.std.proofs.lemmas.Map.Views.{Contains-from_any}
use Rattle.std.proofs.lemmas.Slice.Eq.{bytes_eq-Decides}
use Rattle.std.specs.List.{Contains, list_any, slice_split, onto_first, position_or_len}
use Rattle.std.specs.Option.{option_map}
use Rattle.listing.specs.Word.{◌>>=◌, parts_at}
use Rattle.cdni_log.specs.declared.field.Field.{Field}
use Rattle.cdni_log.specs.Field.{field_name, field_of}
use Rattle.cdni_log.specs.FieldList.{is_same, named, names_in}
use Rattle.cdni_log.proofs.TableLemmas.{same_field}

-- ---- names

abbrev first_at : ℕ → List ℕ → ℕ
first_at between text = position_or_len (λ byte. byte == between) text

-- without the byte between them the text is one name
whole_name : (between : ℕ) (text : List ℕ) → length text ≤ first_at between text → slice_split (λ byte. byte == between) text ≡ text ∷ []
whole_name between [] h = refl
whole_name between (x ∷ xs) h =
    ⊎_elim (λ yes. absurd (omega (arith, cond-false (not (x == between)) (1 + first_at between xs) 0 (not_from_true (x == between) yes))))
    (λ no. slice_split-cons_no (λ byte. byte == between) x xs no ∙ ap (onto_first x) (whole_name between xs (omega (arith, cond-true (not (x == between)) (1 + first_at between xs) 0 (not_from_false (x == between) no)))))
    (cases_Bool (x == between))

abbrev parts_at_place : List ℕ → Option ℕ → Option (List ℕ × List ℕ)
parts_at_place text place = option_map (λ i. (take i text, drop (i + 1) text)) place

some_same : {A : Type 0} (a b : A) → Some a ≡ Some b → a ≡ b
some_same a b h = cc

some_none : {A : Type 0} {a : A} → Some a ≡ None → ⊥
some_none h = cc

-- where a name is cut off, it is the first one
pub name_cut_off : (between : ℕ) (text name others : List ℕ) → Some (name, others) ≡ parts_at between text → (names_in between (Some text) ≡ name ∷ names_in between (Some others)) × (length others < length text)
unfolding parts_at
name_cut_off between text name others e =
    let at = first_at between text in
    ⊎_elim (λ found.
    let cut : parts_at between text ≡ Some (take at text, drop (at + 1) text) = ap (parts_at_place text) (cond-true (ltb at (length text)) (Some at) None found) in
    let pair : (name, others) ≡ (take at text, drop (at + 1) text) = some_same _ _ (e ∙ cut) in
    let within = ltb-true _ _ found in
    let first : name ≡ take at text = ap (λ p. p.0) pair in
    let rest : others ≡ drop (at + 1) text = ap (λ p. p.1) pair in
    let shorter : length (drop (at + 1) text) < length text = omega (arith, within, length-drop (at + 1) text) in
    (rw (first, rest) (slice_split_first (λ byte. byte == between) text 0 within), rw rest shorter))
    (λ none. absurd (some_none (e ∙ ap (parts_at_place text) (cond-false (ltb at (length text)) (Some at) None none))))
    (cases_Bool (ltb at (length text)))

-- where none is cut off, the text is one name
pub no_name_cut_off : (between : ℕ) (text : List ℕ) → None ≡ parts_at between text → names_in between (Some text) ≡ text ∷ []
unfolding parts_at
no_name_cut_off between text e =
    let at = first_at between text in
    ⊎_elim (λ found. absurd (some_none (sym (e ∙ ap (parts_at_place text) (cond-true (ltb at (length text)) (Some at) None found)))))
    (λ none. whole_name between text (ltb-false _ _ none)) (cases_Bool (ltb at (length text)))

-- ---- fields behind others

-- the fields that were read, and behind them the others, where there are any
abbrev pub behind : List Field → Option (List Field) → Option (List Field)
behind fields others = others >>= λ columns. Some (fields ++ columns)

-- one more was read
pub behind_more : (fields : List Field) (name : List ℕ) (names : List (List ℕ)) (column : Field) → field_of name ≡ Some column → behind (fields ++ column ∷ []) (named names) ≡ behind fields (named (name ∷ names))
behind_more fields name names column is = rw is (by (named names))
  where
    by : (others : Option (List Field)) → behind (fields ++ column ∷ []) others ≡ behind fields (others >>= λ columns. Some (column ∷ columns))
    by None = refl
    by (Some columns) = ap Some (append_assoc fields (column ∷ []) columns)

-- a name is none
pub behind_none : (fields : List Field) (name : List ℕ) (names : List (List ℕ)) → field_of name ≡ None → behind fields (named (name ∷ names)) ≡ None
behind_none fields name names is = rw is refl

-- ---- fields that are there twice

same_bool : (a b : Bool) → (a ≡ true → b ≡ true) → (b ≡ true → a ≡ true) → a ≡ b
same_bool true b to from = sym (to refl)
same_bool false true to from = from refl
same_bool false false to from = refl

is_one : (column other : Field) → is_same column other ≡ true → column ≡ other
is_one column other is = same_field column other ((bytes_eq-Decides (field_name column) (field_name other)).0 is)

is_itself : (column other : Field) → other ≡ column → is_same column other ≡ true
is_itself column other is = (bytes_eq-Decides (field_name column) (field_name other)).1 (ap field_name (sym is))

-- the test finds a field exactly where it is among the others
pub among_is : (found : Bool) (column : Field) (columns : List Field) → (IsTrue found ↔ Contains columns column) → found ≡ list_any (is_same column) columns
among_is found column columns is = same_bool found (list_any (is_same column) columns)
    (λ yes. let at = is.0 yes in list_any_at (is_same column) columns at.0 column at.1 (is_itself column _ at.2))
    (λ yes. is.1 (Contains-from_any is_one column columns yes))
