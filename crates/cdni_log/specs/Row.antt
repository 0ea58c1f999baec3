-- Records of a log file (RFC 7937, section 3.4.1).
use Rattle.std.specs.Prelude.{ℕ, ◌+◌, ◌-◌, ◌/◌, ◌%◌, Bool, List, [], ◌∷◌, ◌++◌, codes, decimal, slice_get, None, Some, ◌==◌, if◌then◌else◌}
use Rattle.std.specs.List.{flat_map}
use Rattle.std.specs.Option.{unwrap_or}
use Rattle.std.specs.declared.option.Option.{Option}
use Rattle.cdni_log.specs.declared.field.Field.{Field}
use Rattle.cdni_log.specs.declared.field.Field.TheVariants as field
use Rattle.cdni_log.specs.declared.row.Row.{Row}
use Rattle.cdni_log.specs.Date.{date_field, time_field, three_digits}
use Rattle.cdni_log.specs.Field.{header_count}
use Rattle.cdni_log.specs.Line.{line_end, quoted, tabbed}

-- seconds with three decimals, of milliseconds
unfoldable pub seconds_text : ℕ → List ℕ
seconds_text milliseconds = decimal (milliseconds / 1000) ++ codes "." ++ three_digits (milliseconds % 1000)

-- `as` and the number, or `-`
unfoldable pub group_text : Option ℕ → List ℕ
group_text None = codes "-"
group_text (Some number) = codes "as" ++ decimal number

-- a byte of a text in quotes: `"` is doubled
abbrev pub doubled : ℕ → List ℕ
doubled byte = if byte == 34 then 34 ∷ 34 ∷ [] else byte ∷ []

-- a value in quotes, or `-` where there is none
unfoldable pub optional_text : Option (List ℕ) → List ℕ
optional_text None = codes "-"
optional_text (Some text) = quoted (flat_map doubled text)

unfoldable pub cached_text : Bool → List ℕ
cached_text cached = if cached then codes "1" else codes "0"

-- the value of the k-th header, where the row has one
abbrev pub extra_at : List (Option (List ℕ)) → ℕ → Option (List ℕ)
extra_at extra k = unwrap_or (slice_get extra k) None

-- the value of a field before which so many fields are headers; a delivery that ended before it was admitted took no
-- time
unfoldable pub value_of : Row → ℕ → Field → List ℕ
value_of row headers field.Date = date_field row.finished
value_of row headers field.Time = time_field row.finished
value_of row headers field.TimeTaken = seconds_text (row.finished - row.admitted)
value_of row headers field.GroupId = group_text row.asn
value_of row headers field.Method = row.method
value_of row headers field.CsUri = row.uri
value_of row headers field.UUri = row.uri
value_of row headers field.Protocol = codes "HTTP/1.1"
value_of row headers field.Status = decimal row.status
value_of row headers field.TotalBytes = decimal row.total
value_of row headers field.EntityBytes = decimal row.entity
value_of row headers field.Ccid = optional_text row.ccid
value_of row headers field.Cached = cached_text row.cached
value_of row headers (field.Header header) = optional_text (extra_at row.extra headers)

-- the values of fields before which so many fields are headers, in order
unfoldable pub values_from : Row → ℕ → List Field → List (List ℕ)
values_from row headers [] = []
values_from row headers (column ∷ columns) =
    value_of row headers column ∷ values_from row (headers + header_count column) columns

-- the line of a record with these fields
unfoldable pub record_text : List Field → Row → List ℕ
record_text fields row = tabbed (values_from row 0 fields) ++ line_end
