-- The sums that are told of a file are those of the values below a name.
use Rattle.std.proofs.Common.{◌≡◌, ℕ, ◌+◌, ◌≤◌, ◌||◌, Bool, true, false, not, cond, List, [], ◌∷◌, Option, None, Some, Ok, Err, Result, IfOk, length, map, refl, suc, zero, ap, sym, subst, ◌∙◌, codes, decimal, is_some}
use Rattle.std.proofs.lemmas.Bool.{and_parts, not-true, or_parts, false≢true}
use Rattle.std.proofs.lemmas.List.Sums.{sum_by-cons}
use Rattle.std.proofs.lemmas.Option.{none-some, same_Some}
use Rattle.std.proofs.lemmas.Slice.Eq.{bytes_eq-Decides}
use Rattle.std.specs.Prelude.{bytes_eq, slice_get}
use Rattle.std.specs.List.{AllByRecursion, list_any}
use Rattle.std.specs.Option.{option_map_or, unwrap_or}
use Rattle.listing.specs.Number.{number_of}
use Rattle.listing.proofs.Decimals.{some_decimal}
use Rattle.cdni_log.specs.declared.field.Field.{Field}
use Rattle.cdni_log.specs.declared.field.Field.TheVariants as field
use Rattle.cdni_log.specs.Field.{field_name}
use Rattle.cdni_log.specs.FieldList.{are_apart, is_same}
use Rattle.cdni_log.specs.Line.{tabbed}
use Rattle.cdni_log.proofs.TableLemmas.{same_field}
use Rattle.log_audit.specs.Audit.{IsAbsent, IsCount, IsRead, IsSum, IsSumAt, HasSums, ReadsFile, count_at}
use Rattle.log_audit.specs.Lines.{parts_in}
use Rattle.log_audit.specs.declared.audited.Audited.{Audited}
use Rattle.log_audit.specs.declared.fault.AuditFault.{AuditFault}
use Rattle.log_audit.specs.LogFile.{names_text, LogFile, IsLogFile, IsWell}
use Rattle.log_audit.specs.Totals.{is_cached, is_entity, is_one, is_total, last_below, number_in, ones_below, sum_below, value_after, value_in, AreSums}
use Rattle.log_audit.specs.Value.{are_values, has_form, is_number, is_plain, is_record, is_value}
use Rattle.log_audit.proofs.PartLemmas.{parts_same}
use Rattle.log_audit.proofs.PlaceLemmas.{fields_apart, record_values, some_fields, tabbed_back}
use Rattle.log_audit.proofs.WholeLemmas.{lines_are}

-- ---- the value below one field

-- the test is passed by this field, and by no other
abbrev pub IsTestOf : Field → (Field → Bool) → Type 0
IsTestOf f is_it = (is_it f ≡ true) × ((g : Field) → is_it g ≡ true → g ≡ f)

none_passes : (is_it : Field → Bool) (before : List ℕ) (columns : List Field) (values : List (List ℕ)) → list_any is_it columns ≡ false → last_below is_it before columns values ≡ before
none_passes is_it before [] values none = refl
none_passes is_it before (column ∷ columns) [] none = refl
none_passes is_it before (column ∷ columns) (value ∷ values) none =
    let parts = or_parts (is_it column) (list_any is_it columns) none in
    none_passes is_it (value_after is_it before column value) columns values parts.1 ∙ ap (λ t. cond t value before) parts.0

-- no field that is not this one passes
other_fails : (f g : Field) (is_it : Field → Bool) → IsTestOf f is_it → is_same f g ≡ false → is_it g ≡ false
other_fails f g is_it test other = by (is_it g) refl
  where
    by : (t : Bool) → is_it g ≡ t → t ≡ false
    by false is = refl
    by true is = absurd (false≢true (sym other ∙ (bytes_eq-Decides (field_name f) (field_name g)).1 (ap field_name (sym (test.1 g is)))))

others_fail : (f : Field) (is_it : Field → Bool) (columns : List Field) → IsTestOf f is_it → list_any (is_same f) columns ≡ false → list_any is_it columns ≡ false
others_fail f is_it [] test apart = refl
others_fail f is_it (column ∷ columns) test apart =
    let parts = or_parts (is_same f column) (list_any (is_same f) columns) apart in
    ap (λ t. t || list_any is_it columns) (other_fails f column is_it test parts.0) ∙ others_fail f is_it columns test parts.1

last_at : (f : Field) (is_it : Field → Bool) (before : List ℕ) (fields : List Field) (values : List (List ℕ)) (k : ℕ) (value : List ℕ) → IsTestOf f is_it → are_apart fields ≡ true → slice_get fields k ≡ Some f → slice_get values k ≡ Some value
    → last_below is_it before fields values ≡ value
last_at f is_it before [] values k value test apart at here = absurd (none-some f at)
last_at f is_it before (column ∷ columns) [] k value test apart at here = absurd (none-some value here)
last_at f is_it before (column ∷ columns) (first ∷ values) zero value test apart at here =
    let same : column ≡ f = same_Some column f at in
    let parts = and_parts (not (list_any (is_same column) columns)) (are_apart columns) apart in
    let none : list_any (is_same f) columns ≡ false = ap (λ g. list_any (is_same g) columns) (sym same) ∙ not-true _ parts.0 in
    none_passes is_it (value_after is_it before column first) columns values (others_fail f is_it columns test none)
    ∙ (ap (λ t. cond t first before) (ap is_it same ∙ test.0) ∙ same_Some first value here)
last_at f is_it before (column ∷ columns) (first ∷ values) (suc k) value test apart at here =
    last_at f is_it (value_after is_it before column first) columns values k value test (and_parts (not (list_any (is_same column) columns)) (are_apart columns) apart).1 at here

value_at : (f : Field) (fields : List Field) (values : List (List ℕ)) (k : ℕ) → are_values fields values ≡ true → slice_get fields k ≡ Some f → (value : List ℕ) × (slice_get values k ≡ Some value) × (has_form f value ≡ true)
value_at f [] values k are at = absurd (none-some f at)
value_at f (column ∷ columns) [] k are at = absurd (false≢true are)
value_at f (column ∷ columns) (value ∷ values) zero are at =
    let parts = and_parts (is_value column value) (are_values columns values) are in
    (value, refl, ap (λ g. has_form g value) (sym (same_Some column f at)) ∙ (and_parts (is_plain value) (has_form column value) parts.0).1)
value_at f (column ∷ columns) (value ∷ values) (suc k) are at =
    value_at f columns values k (and_parts (is_value column value) (are_values columns values) are).1 at

abbrev AreRecords : List Field → List (List (List ℕ)) → Type 0
AreRecords fields records = AllByRecursion (λ values. is_record fields values ≡ true) records

-- the value that is found in a record's line is the one at the field's place
found_at : (f : Field) (is_it : Field → Bool) (fields : List Field) (values : List (List ℕ)) (k : ℕ) → IsTestOf f is_it → are_apart fields ≡ true → 1 ≤ length fields → is_record fields values ≡ true → slice_get fields k ≡ Some f
    → (slice_get values k ≡ Some (value_in is_it fields (tabbed values))) × (has_form f (value_in is_it fields (tabbed values)) ≡ true)
found_at f is_it fields values k test apart some is at =
    let v = value_at f fields values k (record_values fields values is) at in
    let found : value_in is_it fields (tabbed values) ≡ v.0 = ap (last_below is_it [] fields) (tabbed_back fields values some is) ∙ last_at f is_it [] fields values k v.0 test apart at v.1 in
    (v.1 ∙ ap Some (sym found), ap (has_form f) found ∙ v.2)

-- ---- sums

decimal_by : (text : List ℕ) (read : Option ℕ) → read ≡ number_of text → is_some read ≡ true → text ≡ decimal (unwrap_or read 0)
decimal_by text None e is = absurd (false≢true is)
decimal_by text (Some n) e is = some_decimal text (Some n) e

sum_at : (f : Field) (is_it : Field → Bool) (fields : List Field) (records : List (List (List ℕ))) (k : ℕ) → IsTestOf f is_it → ((text : List ℕ) → has_form f text ≡ true → is_number text ≡ true) → are_apart fields ≡ true → 1 ≤ length fields → AreRecords fields records → slice_get fields k ≡ Some f
    → IsSumAt records k (sum_below is_it fields (map tabbed records))
sum_at f is_it fields [] k test form apart some all at = ([], tt, refl)
sum_at f is_it fields (values ∷ records) k test form apart some all at =
    let line = tabbed values in
    let value = value_in is_it fields line in
    let found = found_at f is_it fields values k test apart some all.0 at in
    let rest = sum_at f is_it fields records k test form apart some all.1 at in (
      number_in value ∷ rest.0,
      ((value, found.0, decimal_by value (number_of value) refl (form value found.1)), rest.1),
      sum_by-cons (λ l. number_in (value_in is_it fields l)) line (map tabbed records) ∙ (ap (λ n. number_in value + n) rest.2 ∙ sym (sum_by-cons (λ n. n) (number_in value) rest.0)),
    )

count_ones : (f : Field) (is_it : Field → Bool) (fields : List Field) (records : List (List (List ℕ))) (k : ℕ) → IsTestOf f is_it → are_apart fields ≡ true → 1 ≤ length fields → AreRecords fields records → slice_get fields k ≡ Some f
    → ones_below is_it fields (map tabbed records) ≡ count_at records k (codes "1")
count_ones f is_it fields [] k test apart some all at = refl
count_ones f is_it fields (values ∷ records) k test apart some all at =
    let line = tabbed values in
    let found = found_at f is_it fields values k test apart some all.0 at in
    let one : is_one (value_in is_it fields line) ≡ option_map_or (bytes_eq (codes "1")) (slice_get values k) false = ap (λ v. option_map_or (bytes_eq (codes "1")) v false) (sym found.0) in
    sum_by-cons (λ l. cond (is_one (value_in is_it fields l)) 1 0) line (map tabbed records)
    ∙ (ap (λ t. cond t 1 0 + ones_below is_it fields (map tabbed records)) one
    ∙ (ap (λ n. cond (option_map_or (bytes_eq (codes "1")) (slice_get values k) false) 1 0 + n) (count_ones f is_it fields records k test apart some all.1 at)
    ∙ sym (sum_by-cons (λ vs. cond (option_map_or (bytes_eq (codes "1")) (slice_get vs k) false) 1 0) values records)))

-- ---- fields that are not there

absent_fails : (f : Field) (is_it : Field → Bool) (fields : List Field) → IsTestOf f is_it → IsAbsent (map field_name fields) (field_name f) → list_any is_it fields ≡ false
absent_fails f is_it [] test absent = refl
absent_fails f is_it (column ∷ columns) test absent = by (is_it column) refl (absent_fails f is_it columns test (λ k at. absent (suc k) at))
  where
    by : (t : Bool) → is_it column ≡ t → list_any is_it columns ≡ false → (is_it column || list_any is_it columns) ≡ false
    by true is rest = absurd (absent 0 (ap (λ g. Some (field_name g)) (test.1 column is)))
    by false is rest = ap (λ t. t || list_any is_it columns) is ∙ rest

sum_absent : (is_it : Field → Bool) (fields : List Field) (lines : List (List ℕ)) → list_any is_it fields ≡ false → sum_below is_it fields lines ≡ 0
sum_absent is_it fields [] none = refl
sum_absent is_it fields (line ∷ lines) none =
    sum_by-cons (λ l. number_in (value_in is_it fields l)) line lines
    ∙ (ap (λ v. number_in v + sum_below is_it fields lines) (none_passes is_it [] fields (parts_in (Some line)) none) ∙ ap (λ n. number_in [] + n) (sum_absent is_it fields lines none))

ones_absent : (is_it : Field → Bool) (fields : List Field) (lines : List (List ℕ)) → list_any is_it fields ≡ false → ones_below is_it fields lines ≡ 0
ones_absent is_it fields [] none = refl
ones_absent is_it fields (line ∷ lines) none =
    sum_by-cons (λ l. cond (is_one (value_in is_it fields l)) 1 0) line lines
    ∙ (ap (λ v. cond (is_one v) 1 0 + ones_below is_it fields lines) (none_passes is_it [] fields (parts_in (Some line)) none) ∙ ap (λ n. cond (is_one []) 1 0 + n) (ones_absent is_it fields lines none))

-- the field at the place of its name
field_at : (fields : List Field) (k : ℕ) (f : Field) → slice_get (map field_name fields) k ≡ Some (field_name f) → slice_get fields k ≡ Some f
field_at [] k f at = absurd (none-some (field_name f) at)
field_at (column ∷ columns) zero f at = ap Some (same_field column f (same_Some (field_name column) (field_name f) at))
field_at (column ∷ columns) (suc k) f at = field_at columns k f at

-- ---- what is told of a file

total_only : (g : Field) → is_total g ≡ true → g ≡ field.TotalBytes
total_only field.TotalBytes is = refl
total_only field.Date is = absurd (false≢true is)
total_only field.Time is = absurd (false≢true is)
total_only field.TimeTaken is = absurd (false≢true is)
total_only field.GroupId is = absurd (false≢true is)
total_only field.Method is = absurd (false≢true is)
total_only field.CsUri is = absurd (false≢true is)
total_only field.UUri is = absurd (false≢true is)
total_only field.Protocol is = absurd (false≢true is)
total_only field.Status is = absurd (false≢true is)
total_only field.EntityBytes is = absurd (false≢true is)
total_only field.Ccid is = absurd (false≢true is)
total_only field.Cached is = absurd (false≢true is)
total_only (field.Header header) is = absurd (false≢true is)

entity_only : (g : Field) → is_entity g ≡ true → g ≡ field.EntityBytes
entity_only field.EntityBytes is = refl
entity_only field.Date is = absurd (false≢true is)
entity_only field.Time is = absurd (false≢true is)
entity_only field.TimeTaken is = absurd (false≢true is)
entity_only field.GroupId is = absurd (false≢true is)
entity_only field.Method is = absurd (false≢true is)
entity_only field.CsUri is = absurd (false≢true is)
entity_only field.UUri is = absurd (false≢true is)
entity_only field.Protocol is = absurd (false≢true is)
entity_only field.Status is = absurd (false≢true is)
entity_only field.TotalBytes is = absurd (false≢true is)
entity_only field.Ccid is = absurd (false≢true is)
entity_only field.Cached is = absurd (false≢true is)
entity_only (field.Header header) is = absurd (false≢true is)

cached_only : (g : Field) → is_cached g ≡ true → g ≡ field.Cached
cached_only field.Cached is = refl
cached_only field.Date is = absurd (false≢true is)
cached_only field.Time is = absurd (false≢true is)
cached_only field.TimeTaken is = absurd (false≢true is)
cached_only field.GroupId is = absurd (false≢true is)
cached_only field.Method is = absurd (false≢true is)
cached_only field.CsUri is = absurd (false≢true is)
cached_only field.UUri is = absurd (false≢true is)
cached_only field.Protocol is = absurd (false≢true is)
cached_only field.Status is = absurd (false≢true is)
cached_only field.TotalBytes is = absurd (false≢true is)
cached_only field.EntityBytes is = absurd (false≢true is)
cached_only field.Ccid is = absurd (false≢true is)
cached_only (field.Header header) is = absurd (false≢true is)

total_form : (text : List ℕ) → has_form field.TotalBytes text ≡ true → is_number text ≡ true
unfolding has_form
total_form text is = is

entity_form : (text : List ℕ) → has_form field.EntityBytes text ≡ true → is_number text ≡ true
unfolding has_form
entity_form text is = is

sum_is : (f : Field) (is_it : Field → Bool) (fields : List Field) (records : List (List (List ℕ))) (total : ℕ) → IsTestOf f is_it → ((text : List ℕ) → has_form f text ≡ true → is_number text ≡ true) → are_apart fields ≡ true → 1 ≤ length fields → AreRecords fields records
    → total ≡ sum_below is_it fields (map tabbed records) → IsSum (map field_name fields) records (field_name f) total
sum_is f is_it fields records total test form apart some all is = record {
  below = λ k at. subst (λ (n : ℕ). IsSumAt records k n) (sym is) (sum_at f is_it fields records k test form apart some all (field_at fields k f at));
  absent = λ absent. is ∙ sum_absent is_it fields (map tabbed records) (absent_fails f is_it fields test absent);
}

count_is : (f : Field) (is_it : Field → Bool) (fields : List Field) (records : List (List (List ℕ))) (n : ℕ) → IsTestOf f is_it → are_apart fields ≡ true → 1 ≤ length fields → AreRecords fields records
    → n ≡ ones_below is_it fields (map tabbed records) → IsCount (map field_name fields) records (field_name f) (codes "1") n
count_is f is_it fields records n test apart some all is = record {
  below = λ k at. is ∙ count_ones f is_it fields records k test apart some all (field_at fields k f at);
  absent = λ absent. is ∙ ones_absent is_it fields (map tabbed records) (absent_fails f is_it fields test absent);
}

lines_same : (measure : List Field → List (List ℕ) → ℕ) (fields others : List Field) (lines more : List (List ℕ)) → fields ≡ others → lines ≡ more → measure fields lines ≡ measure others more
lines_same measure fields others lines more e d = ap (λ f. measure f lines) e ∙ ap (measure others) d

has_sums : (file : LogFile) (audited : Audited) → IsWell file → IsRead file audited → AreSums audited → HasSums file audited
unfolding field_name
has_sums file audited well read sums =
    let apart = fields_apart (names_text file.fields) file.fields well.fields in
    let some = some_fields (names_text file.fields) file.fields well.fields in
    record {
      total = sum_is field.TotalBytes is_total file.fields file.records audited.total (refl, total_only) total_form apart some well.records (sums.total ∙ lines_same (sum_below is_total) _ _ _ _ read.0 read.1);
      entity = sum_is field.EntityBytes is_entity file.fields file.records audited.entity (refl, entity_only) entity_form apart some well.records (sums.entity ∙ lines_same (sum_below is_entity) _ _ _ _ read.0 read.1);
      cached = count_is field.Cached is_cached file.fields file.records audited.cached (refl, cached_only) apart some well.records (sums.cached ∙ lines_same (ones_below is_cached) _ _ _ _ read.0 read.1);
    }

-- what is read of one file of a text is read of each
read_of_each : (text : List ℕ) (file other : LogFile) (audited : Audited) → IsLogFile text file → IsLogFile text other → IsRead file audited → IsRead other audited
read_of_each text file other audited is also read =
    let parts = parts_same file other is.well also.well (sym (lines_are text file is) ∙ lines_are text other also) in
    (read.0 ∙ parts.0, read.1 ∙ parts.1)

pub sums_answer : (text : List ℕ) (result : Result Audited AuditFault) → IfOk result (ReadsFile text) → IfOk result AreSums → IfOk result (λ audited. (file : LogFile) → IsLogFile text file → HasSums file audited)
sums_answer text (Ok audited) ok sums = λ file is. has_sums file audited is.well (read_of_each text ok.1 file audited ok.2 is ok.4) sums
sums_answer text (Err fault) ok sums = tt
