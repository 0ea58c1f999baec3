-- The walk over the columns of a record, and over their names.
use Rattle.std.proofs.Common.{◌≡◌, ℕ, ◌+◌, ◌<◌, List, [], ◌∷◌, ◌++◌, length, drop, get_or, refl, ap, sym, ◌∙◌, append_assoc, append-nil, arith, rules, ◌≤◌}
use Rattle.std.proofs.Math.Seq.{drop-cons}
use Rattle.std.proofs.lemmas.List.{drop_all}
use Rattle.cdni_log.specs.declared.field.Field.{Field}
use Rattle.cdni_log.specs.declared.row.Row.{Row}
use Rattle.cdni_log.specs.Field.{header_count}
use Rattle.cdni_log.specs.Line.{tabbed, tabbed_behind}
use Rattle.cdni_log.specs.Row.{value_of, values_from}

-- joined by tabs: the first, and each of the others behind a tab
pub tabbed_is : (value : List ℕ) (values : List (List ℕ)) → tabbed (value ∷ values) ≡ value ++ tabbed_behind values
tabbed_is value [] = sym (append-nil value)
tabbed_is value (next ∷ values) = ap (λ t. value ++ 9 ∷ t) (tabbed_is next values)

-- what was added in two steps
pub append_two : (old front rest first second : List ℕ) → first ≡ old ++ front → second ≡ first ++ rest → second ≡ old ++ (front ++ rest)
append_two old front rest first second one two = two ∙ (ap (λ t. t ++ rest) one ∙ append_assoc old front rest)

-- the values of the first field and of the others
pub values_cons : (row : Row) (headers : ℕ) (column : Field) (columns : List Field) → values_from row headers (column ∷ columns) ≡ value_of row headers column ∷ values_from row (headers + header_count column) columns
unfolding values_from
values_cons row headers column columns = refl

-- the values of fields, joined by tabs: the first, and each of the others behind a tab
pub values_tabbed : (row : Row) (column : Field) (columns : List Field) → tabbed (values_from row 0 (column ∷ columns)) ≡ value_of row 0 column ++ tabbed_behind (values_from row (header_count column) columns)
values_tabbed row column columns = ap tabbed (values_cons row 0 column columns) ∙ (tabbed_is (value_of row 0 column) (values_from row (0 + header_count column) columns) ∙ ap (λ n. value_of row 0 column ++ tabbed_behind (values_from row n columns)) (omega arith))

-- what is left of the fields where one of them is next
pub drop_at : (fields : List Field) (i : ℕ) (column : Field) → i < length fields → column ≡ get_or fields i column → drop i fields ≡ column ∷ drop (i + 1) fields
drop_at fields i column lt is = rw (drop-cons fields i column lt) (rw (sym is) (search rules))

-- a tab and a value, put behind one after the other
tab_and_value : (before value rest : List ℕ) → ((before ++ 9 ∷ []) ++ value) ++ rest ≡ before ++ (9 ∷ (value ++ rest))
tab_and_value before value rest = append_assoc (before ++ 9 ∷ []) value rest ∙ append_assoc before (9 ∷ []) (value ++ rest)

-- one more value, behind a tab
pub values_go_on : (row : Row) (headers : ℕ) (column : Field) (columns left : List Field) (before with_tab with_value whole : List ℕ)
    → left ≡ column ∷ columns
    → before ++ tabbed_behind (values_from row headers left) ≡ whole
    → with_tab ≡ before ++ 9 ∷ []
    → with_value ≡ with_tab ++ value_of row headers column
    → with_value ++ tabbed_behind (values_from row (headers + header_count column) columns) ≡ whole
values_go_on row headers column columns left before with_tab with_value whole left_is so_far tab value =
    let rest = tabbed_behind (values_from row (headers + header_count column) columns) in
    let cut = ap (λ l. before ++ tabbed_behind (values_from row headers l)) (sym left_is) ∙ so_far in
    let named = ap (λ vs. before ++ tabbed_behind vs) (sym (values_cons row headers column columns)) ∙ cut in
    ap (λ t. t ++ rest) (value ∙ ap (λ t. t ++ value_of row headers column) tab) ∙ (tab_and_value before (value_of row headers column) rest ∙ named)

-- no value is left where all fields have theirs
pub values_are_out : (row : Row) (headers i : ℕ) (fields : List Field) (out whole : List ℕ) → length fields ≤ i → out ++ tabbed_behind (values_from row headers (drop i fields)) ≡ whole → out ≡ whole
unfolding values_from
values_are_out row headers i fields out whole le so_far = sym (append-nil out) ∙ (ap (λ l. out ++ tabbed_behind (values_from row headers l)) (sym (drop_all i fields le)) ∙ so_far)
