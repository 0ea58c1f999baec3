-- Texts in quotes, and records, value by value.
use Rattle.std.proofs.Common.{◌≡◌, ℕ, ◌+◌, ◌<◌, ◌≤◌, ◌==◌, ◌&&◌, Bool, true, false, cond, List, [], ◌∷◌, Option, None, Some, refl, ap, sym, ◌∙◌, is_some, not, length, drop, get_or, add-one, drop-cons, arith}
use Rattle.std.proofs.lemmas.Bool.{false≢true}
use Rattle.std.proofs.lemmas.List.{drop_all}
use Rattle.std.proofs.lemmas.List.Splits.{length-slice_split}
use Rattle.std.proofs.lemmas.Slice.Eq.{bytes_eq-Decides}
use Rattle.std.specs.Prelude.{bytes_eq}
use Rattle.std.specs.List.{list_all}
use Rattle.std.specs.Option.{is_none, option_map, option_map_or}
use Rattle.cdni_log.specs.Columns.{undoubled}
use Rattle.cdni_log.specs.declared.field.Field.{Field}
use Rattle.log_audit.specs.Lines.{parts_in}
use Rattle.log_audit.specs.Value.{agrees, are_one, are_values, goes_on, is_record, is_uri, is_value, uris, url_after, waits_after}

-- ---- texts in quotes

some_map : (byte : ℕ) (text : Option (List ℕ)) → is_some (option_map (λ t. byte ∷ t) text) ≡ is_some text
some_map byte None = refl
some_map byte (Some text) = refl

doubled_by : (byte : ℕ) (bytes : List ℕ) (waits quote : Bool) → (byte == 34) ≡ quote
    → is_some (undoubled waits (byte ∷ bytes)) ≡ option_map_or (λ next. is_some (undoubled next bytes)) (waits_after waits byte) false
doubled_by byte bytes true true is = rw is (some_map 34 (undoubled false bytes))
doubled_by byte bytes true false is = rw is refl
doubled_by byte bytes false true is = rw is refl
doubled_by byte bytes false false is = rw is (some_map byte (undoubled false bytes))

pub doubled_on : (waits : Bool) (byte : ℕ) (bytes : List ℕ) → is_some (undoubled waits (byte ∷ bytes)) ≡ option_map_or (λ next. is_some (undoubled next bytes)) (waits_after waits byte) false
doubled_on waits byte bytes = doubled_by byte bytes waits (byte == 34) refl

pub doubled_step : (waits next : Bool) (text : List ℕ) (i : ℕ) → i < length text → Some next ≡ waits_after waits (get_or text i 0) → is_some (undoubled next (drop (i + 1) text)) ≡ is_some (undoubled waits (drop i text))
doubled_step waits next text i lt is =
    let cut : drop i text ≡ get_or text i 0 ∷ drop (i + 1) text = drop-cons text i 0 lt ∙ ap (λ n. get_or text i 0 ∷ drop n text) (sym (add-one i)) in
    sym (ap (λ t. is_some (undoubled waits t)) cut ∙ (doubled_on waits (get_or text i 0) (drop (i + 1) text) ∙ ap (λ found. option_map_or (λ n. is_some (undoubled n (drop (i + 1) text))) found false) (sym is)))

pub doubled_done : (waits : Bool) → is_some (undoubled waits []) ≡ not waits
doubled_done true = refl
doubled_done false = refl

-- ---- records

abbrev are_behind : Option (List ℕ) → List (List ℕ) → Bool
are_behind None values = are_one values
are_behind (Some url) values = list_all (λ other. bytes_eq other url) values

same_text : (a b : List ℕ) → bytes_eq a b ≡ true → a ≡ b
same_text a b = (bytes_eq-Decides a b).0

none_by : (value : List ℕ) (others : List (List ℕ)) (is are t : Bool) → (is && true && (are && are_behind (cond t (Some value) None) others)) ≡ (is && are && are_one (cond t (value ∷ others) others))
none_by value others true are true = refl
none_by value others true are false = refl
none_by value others false are t = refl

same_by : (url value : List ℕ) (others : List (List ℕ)) (are e : Bool) → bytes_eq value url ≡ e → (e && (are && list_all (λ other. bytes_eq other value) others)) ≡ (are && (e && list_all (λ other. bytes_eq other url) others))
same_by url value others are true is = ap (λ w. are && list_all (λ other. bytes_eq other w) others) (same_text value url is)
same_by url value others true false is = refl
same_by url value others false false is = refl

some_by : (url value : List ℕ) (others : List (List ℕ)) (is are t : Bool) → (is && cond t (bytes_eq value url) true && (are && are_behind (cond t (Some value) (Some url)) others)) ≡ (is && are && list_all (λ other. bytes_eq other url) (cond t (value ∷ others) others))
some_by url value others true are true = same_by url value others are (bytes_eq value url) refl
some_by url value others true are false = refl
some_by url value others false are t = refl

goes_by : (columns : List Field) (url : Option (List ℕ)) (values : List (List ℕ)) → goes_on columns url values ≡ (are_values columns values && are_behind url (uris columns values))
goes_by [] None [] = refl
goes_by [] (Some url) [] = refl
goes_by [] url (value ∷ values) = refl
goes_by (column ∷ columns) url [] = refl
goes_by (column ∷ columns) None (value ∷ values) =
    ap (λ rest. is_value column value && true && rest) (goes_by columns (url_after column None value) values) ∙ none_by value (uris columns values) (is_value column value) (are_values columns values) (is_uri column)
goes_by (column ∷ columns) (Some url) (value ∷ values) =
    ap (λ rest. is_value column value && agrees column (Some url) value && rest) (goes_by columns (url_after column (Some url) value) values) ∙ some_by url value (uris columns values) (is_value column value) (are_values columns values) (is_uri column)

pub record_is : (columns : List Field) (values : List (List ℕ)) → goes_on columns None values ≡ is_record columns values
unfolding is_record
record_is columns values = goes_by columns None values

-- where all fields have their values, none may be left
parts_by : (url : Option (List ℕ)) (parts : List (List ℕ)) → 0 < length parts → goes_on [] url parts ≡ false
parts_by url [] some = absurd (omega (arith, some))
parts_by url (value ∷ values) some = refl

left_none : (url left : Option (List ℕ)) → goes_on [] url (parts_in left) ≡ is_none left
left_none None None = refl
left_none (Some url) None = refl
left_none url (Some text) = parts_by url (parts_in (Some text)) (omega (arith, length-slice_split (λ byte. byte == 9) text))

pub goes_done : (fields : List Field) (i : ℕ) (url left : Option (List ℕ)) (whole : Bool) → length fields ≤ i → goes_on (drop i fields) url (parts_in left) ≡ whole → is_none left ≡ whole
goes_done fields i url left whole done is = sym (left_none url left) ∙ (ap (λ rest. goes_on rest url (parts_in left)) (sym (drop_all i fields done)) ∙ is)

pub none_not : {A : Type 0} (f : A → List ℕ) (is : Bool) (left : Option A) → not is ≡ is_some left → is ≡ is_none (option_map f left)
none_not f true None e = refl
none_not f false (Some a) e = refl
none_not f true (Some a) e = absurd (false≢true e)
none_not f false None e = absurd (false≢true (sym e))
