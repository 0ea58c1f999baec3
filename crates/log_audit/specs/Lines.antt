-- The first line that no log file has.
use Rattle.std.specs.Prelude.{◌≡◌, ◌<◌, ◌≤◌, ◌⊎◌, ℕ, ◌+◌, ◌-◌, Bool, true, false, List, [], ◌∷◌, ◌++◌, bytes_eq, codes, length, map, slice_range, take, None, Some, ◌==◌, ◌&&◌, if◌then◌else◌}
use Rattle.std.specs.List.{concat, count_by, slice_split}
use Rattle.std.specs.Option.{option_map_or}
use Rattle.std.specs.declared.option.Option.{Option}
use Rattle.cdni_log.specs.FieldList.{fields_of, names_in}
use Rattle.cdni_log.specs.Line.{directive, line_end}
use Rattle.cdni_log.specs.declared.field.Field.{Field}
use Rattle.log_audit.specs.declared.place.Place.{Place}
use Rattle.log_audit.specs.declared.place.Place.TheVariants as place
use Rattle.log_audit.specs.LogFile.{hash_line, is_hash, is_origin, is_uuid, names_text, record_line, urn, LogFile, IsLogFile}
use Rattle.log_audit.specs.Value.{is_record, is_unbroken}

-- the line with one byte more in front, or a line of this byte where there is none
abbrev pub onto_line : ℕ → List (List ℕ) → List (List ℕ)
onto_line byte [] = (byte ∷ []) ∷ []
onto_line byte (line ∷ lines) = (byte ∷ line) ∷ lines

-- the lines of a text, each with its LF, which the last may lack
abbrev pub lines_of : List ℕ → List (List ℕ)
lines_of [] = []
lines_of (byte ∷ bytes) = if byte == 10 then (10 ∷ []) ∷ lines_of bytes else onto_line byte (lines_of bytes)

-- what stands between so many bytes in front and so many at the end
abbrev pub between : ℕ → ℕ → List ℕ → List ℕ
between front back line = slice_range line front (length line - back)

-- the line is a directive of this name with a value of this form
abbrev pub is_directive : List ℕ → (List ℕ → Bool) → List ℕ → Bool
is_directive name form line = form (between (length name + 3) 2 line)
    && bytes_eq line (directive name (between (length name + 3) 2 line))

-- what follows where the test holds
abbrev pub then_to : Place → Bool → Option Place
then_to after test = if test then Some after else None

-- the value is the URN of a UUID in quotes
abbrev pub is_urn : List ℕ → Bool
is_urn value = is_uuid (between 10 1 value) && bytes_eq value (urn (between 10 1 value))

-- the values of a record's line
abbrev pub values_in : List ℕ → List (List ℕ)
values_in line = slice_split (λ byte. byte == 9) (between 0 2 line)

abbrev pub is_record_line : List Field → List ℕ → Bool
is_record_line fields line = is_record fields (values_in line) && bytes_eq line (record_line (values_in line))

-- the fields of a line, where it names fields of a record as they are written
abbrev pub records_behind : List ℕ → Option (List Field) → Option Place
records_behind line None = None
records_behind line (Some fields) =
    then_to (place.Records fields)
    (is_unbroken (names_text fields) && bytes_eq line (directive (codes "fields") (names_text fields)))

-- what the line after this one is to be, where the line may stand at its place
unfoldable pub next : Place → List ℕ → Option Place
next place.Version line = then_to place.Uuid (is_directive (codes "version") (bytes_eq (codes "cdni/1.0")) line)
next place.Uuid line = then_to place.Origin (is_directive (codes "UUID") is_urn line)
next place.Origin line = then_to place.Kind (is_directive (codes "claimed-origin") is_origin line)
next place.Kind line =
    then_to place.Fields (is_directive (codes "record-type") (bytes_eq (codes "cdni_http_request_v1")) line)
next place.Fields line = records_behind line (fields_of 9 (between 9 2 line))
next (place.Records fields) line = if is_record_line fields line then Some (place.Records fields)
    else then_to place.End (is_directive (codes "SHA256-hash") is_hash line)
next place.End line = None

abbrev pub is_end : Place → Bool
is_end place.End = true
is_end other = false

-- the number of the first line that may not stand at its place, or of the one that is missing
unfoldable pub bad_from : ℕ → Place → List (List ℕ) → Option ℕ
bad_from number at [] = if is_end at then None else Some number
bad_from number at (line ∷ lines) =
    option_map_or (λ after. bad_from (number + 1) after lines) (next at line) (Some number)

-- the same of a text, whose lines are counted from 1
abbrev pub bad_line : List ℕ → Option ℕ
bad_line text = bad_from 1 place.Version (lines_of text)

-- ---- parts of lines

-- the line is cut off from the text, and this is left
abbrev pub IsCutOff : List ℕ → List ℕ → List ℕ → Type 0
IsCutOff text line rest = (lines_of text ≡ line ∷ lines_of rest) × (length rest < length text)

-- what stands between these two pieces of the line, where it has them at its ends
abbrev pub IsFramed : List ℕ → List ℕ → List ℕ → Option (List ℕ) → Type 0
IsFramed front back line None = (middle : List ℕ) → line ≡ front ++ (middle ++ back) → ⊥
IsFramed front back line (Some middle) = line ≡ front ++ (middle ++ back)

-- the values between which tabs stand, where there is a text
abbrev pub parts_in : Option (List ℕ) → List (List ℕ)
parts_in text = names_in 9 text

-- the values in the line, joined by tabs, where it is the line of a record
abbrev pub IsRecordIn : List Field → List ℕ → Option (List ℕ) → Type 0
IsRecordIn fields line None = is_record_line fields line ≡ false
IsRecordIn fields line (Some values) = (is_record_line fields line ≡ true) × (line ≡ values ++ line_end)

-- the places of the four lines before that of the fields
abbrev pub is_fixed : Place → Bool
is_fixed place.Version = true
is_fixed place.Uuid = true
is_fixed place.Origin = true
is_fixed place.Kind = true
is_fixed other = false

-- the place behind one of these
abbrev pub after_of : Place → Place
after_of place.Version = place.Uuid
after_of place.Uuid = place.Origin
after_of place.Origin = place.Kind
after_of place.Kind = place.Fields
after_of other = place.End

-- what follows the first line, which may stand at this place and before this one; or the text has none that may
abbrev pub Passes : Place → Place → List ℕ → Option (List ℕ) → Type 0
Passes at after text None = (n : ℕ) → bad_from n at (lines_of text) ≡ Some n
Passes at after text (Some rest) =
    (line : List ℕ) × (lines_of text ≡ line ∷ lines_of rest) × (next at line ≡ Some after)

-- behind n - 1 lines, each of which may stand at its place, this is left, of which the first line stands at that place
pub record Reaches (text : List ℕ) (n : ℕ) (at : Place) (rest : List ℕ) : Type 0 where
  pub bad : bad_line text ≡ bad_from n at (lines_of rest)
  pub front : List (List ℕ)
  pub lines : lines_of text ≡ front ++ lines_of rest
  pub count : length front + 1 ≡ n

-- a head whose last line names these fields, and behind which this is left
pub record IsHead (text : List ℕ) (fields : List Field) (rest : List ℕ) : Type 0 where
  pub before : List (List ℕ)
  pub line : List ℕ
  pub lines : lines_of text ≡ before ++ line ∷ lines_of rest
  pub count : length before ≡ 4
  pub named : next place.Fields line ≡ Some (place.Records fields)
  pub bad : bad_line text ≡ bad_from 6 (place.Records fields) (lines_of rest)

-- the lines of records and that of a hash, and no bad line
pub record IsBody (fields : List Field) (text : List ℕ) (records : List (List ℕ)) (hash : List ℕ) : Type 0 where
  pub lines : lines_of text ≡ map (λ values. values ++ line_end) records ++ hash_line hash ∷ []
  pub form : is_hash hash ≡ true
  pub good : bad_from 6 (place.Records fields) (lines_of text) ≡ None

-- ---- what it is to be

-- the first lines of a text, so many of them
abbrev pub front : ℕ → List ℕ → List ℕ
front n text = concat (take n (lines_of text))

-- some log file begins so
abbrev pub Begins : List ℕ → Type 0
Begins text = (rest : List ℕ) × (file : LogFile) × IsLogFile (text ++ rest) file

-- no log file begins with the first n lines; or the text ends in line n, or before it, and is none
abbrev pub EndsHope : List ℕ → ℕ → Type 0
EndsHope text n = (Begins (front n text) → ⊥)
    ⊎ ((count_by (λ byte. byte == 10) text + 1 ≡ n) × ((file : LogFile) → IsLogFile text file → ⊥))

-- the line of this number is the first one after which no text makes a log file, or the one that is missing or cut
pub record IsBadLine (text : List ℕ) (n : ℕ) : Type 0 where
  pub from : 1 ≤ n
  pub before : Begins (front (n - 1) text)
  pub after : EndsHope text n
