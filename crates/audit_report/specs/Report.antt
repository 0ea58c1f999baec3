-- What is printed of a log file that was checked.
use Rattle.std.specs.Prelude.{ℕ, ◌+◌, Bool, true, List, [], ◌∷◌, ◌++◌, codes, decimal, get_or, length, map, ◌==◌, ◌&&◌}
use Rattle.std.specs.List.{filter, flat_map, list_any, position_or_len, slice_split}
use Rattle.cdni_log.specs.Field.{is_header}
use Rattle.cdni_log.specs.FieldList.{default_fields, is_same}
use Rattle.cdni_log.specs.Line.{tabbed}
use Rattle.cdni_log.specs.declared.field.Field.{Field}
use Rattle.log_audit.specs.declared.audited.Audited.{Audited}

-- the place of the first of these fields that is this one, counted from 0; behind all of them where none is
abbrev pub place_of : List Field → Field → ℕ
place_of fields field = position_or_len (is_same field) fields

-- the value at this place, empty where there is none
abbrev pub value_at : List (List ℕ) → ℕ → List ℕ
value_at values place = get_or values place []

-- the values at these places
abbrev pub values_at : List (List ℕ) → List ℕ → List (List ℕ)
values_at values places = map (value_at values) places

-- the values of the first fields put into the order of the second ones
abbrev pub put_into : List Field → List (List ℕ) → List Field → List (List ℕ)
put_into fields values order = values_at values (map (place_of fields) order)

abbrev pub is_field_of : List Field → Field → Bool
is_field_of fields field = list_any (is_same field) fields

-- the order in which fields are printed: those that are no headers in one order for all files (RFC 7937, section 3.4.1),
-- then headers as they stand
unfoldable pub printed_order : List Field → List Field
printed_order fields = filter (is_field_of fields) default_fields ++ filter is_header fields

-- the values of a record's line
abbrev pub values_of : List ℕ → List (List ℕ)
values_of line = slice_split (λ byte. byte == 9) line

-- the printed line of a record
abbrev pub printed_record : List Field → List ℕ → List ℕ
printed_record fields line = tabbed (put_into fields (values_of line) (printed_order fields)) ++ 10 ∷ []

-- the printed line of the totals
unfoldable pub totals_text : Audited → List ℕ
totals_text audited = (codes "records " ++ decimal (length audited.records)) ++ (codes " total " ++ decimal audited.total)
    ++ (codes " entity " ++ decimal audited.entity) ++ (codes " cached " ++ decimal audited.cached) ++ 10 ∷ []

-- the records, each in a line, and the totals
unfoldable pub report_text : Audited → List ℕ
report_text audited = flat_map (printed_record audited.fields) audited.records ++ totals_text audited

-- ---- its parts

-- the places of the fields in the order in which they are printed
abbrev pub printed_places : List Field → List ℕ
printed_places fields = map (place_of fields) (printed_order fields)

-- each place is the next one
abbrev pub are_next : ℕ → List ℕ → Bool
are_next at [] = true
are_next at (place ∷ places) = place == at && are_next (at + 1) places
