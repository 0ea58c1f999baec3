-- The log files that are written.
use Rattle.std.specs.Prelude.{◌≡◌, true, List, ◌++◌, map, Some}
use Rattle.std.specs.List.{AllByRecursion, flat_map}
use Rattle.hex.specs.Hex.{encode_lower}
use Rattle.sha2.specs.Sha256.{sha256}
use Rattle.uuid.specs.Text.{hyphenated_text, lower}
use Rattle.cdni_log.specs.FieldList.{fields_of}
use Rattle.cdni_log.specs.File.{file_uuid, form_text, identity_text}
use Rattle.cdni_log.specs.Row.{record_text, values_from}
use Rattle.cdni_log.specs.declared.row.FileHead.{FileHead}
use Rattle.cdni_log.specs.declared.row.Row.{Row}
use Rattle.log_audit.specs.LogFile.{is_origin, names_text, LogFile}
use Rattle.log_audit.specs.Value.{is_record, is_unbroken}

-- what the file of this head and these rows says
abbrev pub file_of : FileHead → List Row → LogFile
file_of head rows = record {
  uuid = hyphenated_text lower (file_uuid head);
  origin = head.origin;
  fields = head.fields;
  records = map (λ row. values_from row 0 head.fields) rows;
  hash = encode_lower (sha256
      (identity_text head ++ form_text head.fields ++ flat_map (record_text head.fields) rows));
}

-- the origin is a host, the names read as the fields, and the values of each row have their forms
pub record HaveForms (head : FileHead) (rows : List Row) : Type 0 where
  pub origin : is_origin head.origin ≡ true
  pub names : is_unbroken (names_text head.fields) ≡ true
  pub fields : fields_of 9 (names_text head.fields) ≡ Some head.fields
  pub each : AllByRecursion (λ row. is_record head.fields (values_from row 0 head.fields) ≡ true) rows
