-- Each value of a record stands below its name.
use Rattle.std.proofs.Common.{◌≡◌, ℕ, zero, suc, ◌+◌, ◌-◌, Bool, true, false, cond, List, [], ◌∷◌, ◌++◌, Option, None, Some, codes, length, map, take, eqb, refl, ap, sym, subst, ◌∙◌, append_assoc, arith}
use Rattle.std.proofs.Math.Seq.{take-append_seam, take-nil}
use Rattle.std.proofs.lemmas.Bool.{eqb-true}
use Rattle.std.proofs.lemmas.List.{length-append}
use Rattle.std.proofs.lemmas.List.Sums.{sum_by-cons}
use Rattle.std.proofs.lemmas.Option.{same_Some, none-some}
use Rattle.std.specs.List.{AllZip, count_by, flat_map, slice_get, slice_range}
use Rattle.std.specs.Option.{option_map, option_map_or}
use Rattle.cdni_log.specs.declared.field.Field.{Field}
use Rattle.cdni_log.specs.declared.field.Field.TheVariants as field
use Rattle.cdni_log.specs.declared.row.FileHead.{FileHead}
use Rattle.cdni_log.specs.declared.row.Row.{Row}
use Rattle.cdni_log.specs.Columns.{AreColumns, Below, IsBelowHeader, IsOptional, IsTable, is_header_name, undoubled}
use Rattle.cdni_log.specs.Field.{field_name, header_count, header_field, is_header, plain_field}
use Rattle.cdni_log.specs.File.{file_text, file_uuid, form_text, fields_text, identity_text, with_hash}
use Rattle.hex.specs.Hex.{encode_lower}
use Rattle.sha2.specs.Sha256.{sha256}
use Rattle.uuid.specs.Text.{lower, urn_text}
use Rattle.cdni_log.specs.Line.{directive, line_end, tabbed, quoted}
use Rattle.cdni_log.specs.Row.{doubled, extra_at, optional_text, record_text, value_of, values_from}

-- what stands between `cs(` and `)`
pub middle_of_header : (header : List ℕ) → slice_range (header_field header) 3 (length (header_field header) - 1) ≡ header
middle_of_header header = ap (λ n. take n (header ++ codes ")")) (omega (arith, length-append header (codes ")"))) ∙ take-append_seam header (codes ")")

-- the field of a name, where it is a field's
kind : List ℕ → Field
kind name = option_map_or (λ f. f) (plain_field name) (field.Header (slice_range name 3 (length name - 1)))

kind_of_name : (f : Field) → kind (field_name f) ≡ f
unfolding kind field_name plain_field
kind_of_name field.Date = refl
kind_of_name field.Time = refl
kind_of_name field.TimeTaken = refl
kind_of_name field.GroupId = refl
kind_of_name field.Method = refl
kind_of_name field.CsUri = refl
kind_of_name field.UUri = refl
kind_of_name field.Protocol = refl
kind_of_name field.Status = refl
kind_of_name field.TotalBytes = refl
kind_of_name field.EntityBytes = refl
kind_of_name field.Ccid = refl
kind_of_name field.Cached = refl
kind_of_name (field.Header header) = ap field.Header (middle_of_header header)

-- two fields of one name are one
pub same_field : (f g : Field) → field_name f ≡ field_name g → f ≡ g
same_field f g same = sym (kind_of_name f) ∙ (ap kind same ∙ kind_of_name g)

-- the field below whose name one looks
field_at : (fields : List Field) (k : ℕ) (f : Field) → slice_get (map field_name fields) k ≡ Some (field_name f) → slice_get fields k ≡ Some f
field_at [] k f at = absurd (none-some (field_name f) at)
field_at (column ∷ columns) zero f at = ap Some (same_field column f (same_Some (field_name column) (field_name f) at))
field_at (column ∷ columns) (suc k) f at = field_at columns k f at

-- how many of a list with one more in front
count_cons : {A : Type 0} (p : A → Bool) (x : A) (xs : List A) → count_by p (x ∷ xs) ≡ cond (p x) 1 0 + count_by p xs
count_cons p x xs = sum_by-cons (λ y. cond (p y) 1 0) x xs

-- the value of the k-th field
value_at : (row : Row) (n : ℕ) (fields : List Field) (k : ℕ) (f : Field) → slice_get fields k ≡ Some f → slice_get (values_from row n fields) k ≡ Some (value_of row (n + count_by is_header (take k fields)) f)
unfolding values_from
value_at row n [] k f at = absurd (none-some f at)
value_at row n (column ∷ columns) zero f at =
    ap (λ g. Some (value_of row n g)) (same_Some column f at) ∙ ap (λ m. Some (value_of row m f)) (omega arith)
value_at row n (column ∷ columns) (suc k) f at =
    value_at row (n + header_count column) columns k f at ∙ ap (λ m. Some (value_of row m f)) (omega (arith, count_cons is_header column (take k columns)))

header_is : (f : Field) → is_header_name (field_name f) ≡ is_header f
unfolding field_name
header_is field.Date = refl
header_is field.Time = refl
header_is field.TimeTaken = refl
header_is field.GroupId = refl
header_is field.Method = refl
header_is field.CsUri = refl
header_is field.UUri = refl
header_is field.Protocol = refl
header_is field.Status = refl
header_is field.TotalBytes = refl
header_is field.EntityBytes = refl
header_is field.Ccid = refl
header_is field.Cached = refl
header_is (field.Header header) = refl

-- the names of headers among the first k are as many as the headers
headers_before : (fields : List Field) (k : ℕ) → count_by is_header_name (take k (map field_name fields)) ≡ count_by is_header (take k fields)
headers_before [] k = ap (count_by is_header_name) (take-nil k) ∙ sym (ap (count_by is_header) (take-nil k))
headers_before (column ∷ columns) zero = refl
headers_before (column ∷ columns) (suc k) =
    let names = count_by is_header_name (take k (map field_name columns)) in
    let here = ap (λ b. cond b 1 0 + names) (header_is column) in
    let there = ap (λ n. cond (is_header column) 1 0 + n) (headers_before columns k) in
    count_cons is_header_name (field_name column) (take k (map field_name columns)) ∙ (here ∙ (there ∙ sym (count_cons is_header column (take k columns))))

-- below the name of a field stands what holds of its value whatever headers stand before it
below : (fields : List Field) (row : Row) (f : Field) (IsValue : List ℕ → Type 0) → ((n : ℕ) → IsValue (value_of row n f)) → Below (map field_name fields) (values_from row 0 fields) (field_name f) IsValue
below fields row f IsValue is = λ k at. (value_of row (0 + count_by is_header (take k fields)) f, value_at row 0 fields k f (field_at fields k f at), is (0 + count_by is_header (take k fields)))

-- of each two `"` one is read
undoubled_step : (byte : ℕ) (bytes : List ℕ) (quote : Bool) → eqb byte 34 ≡ quote → undoubled false (flat_map doubled bytes) ≡ Some bytes → undoubled false (cond quote (34 ∷ 34 ∷ []) (byte ∷ []) ++ flat_map doubled bytes) ≡ Some (byte ∷ bytes)
undoubled_step byte bytes true is others = ap (option_map (λ t. 34 ∷ t)) others ∙ ap (λ b. Some (b ∷ bytes)) (sym (eqb-true byte 34 is))
undoubled_step byte bytes false is others = rw is (ap (option_map (λ t. byte ∷ t)) others)

undoubled_on : (text : List ℕ) → undoubled false (flat_map doubled text) ≡ Some text
undoubled_on [] = refl
undoubled_on (byte ∷ bytes) = undoubled_step byte bytes (eqb byte 34) refl (undoubled_on bytes)

optional_is : (text : Option (List ℕ)) → IsOptional text (optional_text text)
unfolding optional_text
optional_is None = refl
optional_is (Some text) = (flat_map doubled text, refl, undoubled_on text)

header_below : (fields : List Field) (row : Row) (k : ℕ) (header : List ℕ) → slice_get (map field_name fields) k ≡ Some (header_field header) → IsBelowHeader (map field_name fields) row (values_from row 0 fields) k
unfolding field_name value_of
header_below fields row k header at =
    let before = count_by is_header (take k fields) in
    let same : 0 + before ≡ count_by is_header_name (take k (map field_name fields)) = omega (arith, headers_before fields k) in
    let value = optional_text (extra_at row.extra (0 + before)) in
    (value, value_at row 0 fields k (field.Header header) (field_at fields k (field.Header header) at), subst (λ j. IsOptional (extra_at row.extra j) value) same (optional_is (extra_at row.extra (0 + before))))

as_many : (row : Row) (n : ℕ) (fields : List Field) → length (values_from row n fields) ≡ length (map field_name fields)
unfolding values_from
as_many row n [] = refl
as_many row n (column ∷ columns) = ap suc (as_many row (n + header_count column) columns)

columns : (fields : List Field) (row : Row) → AreColumns (map field_name fields) row (values_from row 0 fields)
unfolding field_name value_of
columns fields row = record {
  same = as_many row 0 fields;
  date = below fields row field.Date _ (λ n. refl);
  time = below fields row field.Time _ (λ n. refl);
  taken = below fields row field.TimeTaken _ (λ n. refl);
  group = below fields row field.GroupId _ (λ n. refl);
  method = below fields row field.Method _ (λ n. refl);
  uri = below fields row field.CsUri _ (λ n. refl);
  upstream_uri = below fields row field.UUri _ (λ n. refl);
  protocol = below fields row field.Protocol _ (λ n. refl);
  status = below fields row field.Status _ (λ n. refl);
  total = below fields row field.TotalBytes _ (λ n. refl);
  entity = below fields row field.EntityBytes _ (λ n. refl);
  ccid = below fields row field.Ccid _ (λ n. optional_is row.ccid);
  cached = below fields row field.Cached _ (λ n. refl);
  header = header_below fields row;
}

all_columns : (fields : List Field) (rows : List Row) → AllZip (AreColumns (map field_name fields)) rows (map (λ row. values_from row 0 fields) rows)
all_columns fields [] = tt
all_columns fields (row ∷ rows) = (columns fields row, all_columns fields rows)

records_are : (fields : List Field) (rows : List Row) → flat_map (record_text fields) rows ≡ flat_map (λ values. tabbed values ++ line_end) (map (λ row. values_from row 0 fields) rows)
unfolding record_text
records_are fields [] = refl
records_are fields (row ∷ rows) = ap (λ t. tabbed (values_from row 0 fields) ++ line_end ++ t) (records_are fields rows)

-- the parts of a file, one after the other
parts_in_order : (version uuid origin kind names records hash : List ℕ) → ((version ++ uuid ++ origin) ++ (kind ++ names) ++ records) ++ hash ≡ version ++ uuid ++ origin ++ kind ++ names ++ records ++ hash
parts_in_order version uuid origin kind names records hash = ap (λ t. (t ++ records) ++ hash) (sym (append_assoc (version ++ uuid ++ origin) kind names))

-- the file of these rows is their table
pub table : (head : FileHead) (rows : List Row) → IsTable (map field_name head.fields) rows (file_text head rows)
unfolding file_text with_hash identity_text fields_text
table head rows =
    let names = map field_name head.fields in
    let version = directive (codes "version") (codes "cdni/1.0") in
    let uuid = quoted (urn_text lower (file_uuid head)) in
    let uuid_line = directive (codes "UUID") uuid in
    let origin_line = directive (codes "claimed-origin") head.origin in
    let kind_line = directive (codes "record-type") (codes "cdni_http_request_v1") in
    let names_line = directive (codes "fields") (tabbed names) in
    let records = flat_map (record_text head.fields) rows in
    let hash = encode_lower (sha256 (identity_text head ++ form_text head.fields ++ records)) in
    let hash_line = directive (codes "SHA256-hash") hash in
    record {
      uuid = uuid;
      origin = head.origin;
      records = map (λ row. values_from row 0 head.fields) rows;
      hash = hash;
      text_is = parts_in_order version uuid_line origin_line kind_line names_line records hash_line ∙ ap (λ t. version ++ uuid_line ++ origin_line ++ kind_line ++ names_line ++ t ++ hash_line) (records_are head.fields rows);
      columns = all_columns head.fields rows;
    }
