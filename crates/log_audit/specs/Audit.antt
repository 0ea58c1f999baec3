-- What is said of a text that is checked as a log file.
use Rattle.std.specs.Prelude.{◌≡◌, ◌≢◌, ◌<◌, ◌≤◌, ℕ, List, codes, bytes_eq, decimal, length, map, slice_get, Ok, Err, None, Some, true, false, [], ◌∷◌, ⊤}
use Rattle.std.specs.List.{AllZip, count_by, sum}
use Rattle.std.specs.Option.{option_map_or}
use Rattle.std.specs.declared.result.Result.{Result}
use Rattle.cdni_log.specs.Columns.{HasAt}
use Rattle.cdni_log.specs.Field.{field_name}
use Rattle.cdni_log.specs.Line.{tabbed}
use Rattle.log_audit.specs.declared.fault.AuditFault.{AuditFault}
use Rattle.log_audit.specs.declared.fault.AuditFault.TheVariants.{TooLong, BadLine, BadHash, Memory}
use Rattle.log_audit.specs.declared.audited.Audited.{Audited}
use Rattle.cdni_log.specs.declared.field.Field.{Field}
use Rattle.std.specs.declared.option.Option.{Option}
use Rattle.log_audit.specs.declared.place.Place.TheVariants as place
use Rattle.log_audit.specs.Lines.{bad_from, bad_line, is_directive, is_record_line, lines_of}
use Rattle.log_audit.specs.LogFile.{hash_line, is_hash, true_hash, LogFile, IsLogFile}

-- at most 256 MiB
abbrev pub IsWithin : List ℕ → Type 0
IsWithin text = length text ≤ 268435456

-- no column has this name
abbrev pub IsAbsent : List (List ℕ) → List ℕ → Type 0
IsAbsent names name = (k : ℕ) → slice_get names k ≡ Some name → ⊥

-- each record has a number in its k-th value, and this is their sum
abbrev pub IsSumAt : List (List (List ℕ)) → ℕ → ℕ → Type 0
IsSumAt records k total = (numbers : List ℕ)
    × AllZip (λ values number. HasAt values k (λ value. value ≡ decimal number)) records numbers
    × (total ≡ sum numbers)

-- the sum of the numbers below this name, one of each record; 0 where no column has the name
pub record IsSum (names : List (List ℕ)) (records : List (List (List ℕ))) (name : List ℕ) (total : ℕ) : Type 0 where
  pub below : (k : ℕ) → slice_get names k ≡ Some name → IsSumAt records k total
  pub absent : IsAbsent names name → total ≡ 0

-- how many records have this value at this place
abbrev pub count_at : List (List (List ℕ)) → ℕ → List ℕ → ℕ
count_at records k value =
    count_by (λ values. option_map_or (bytes_eq value) (slice_get values k) false) records

-- how many records have this value below this name; 0 where no column has the name
pub record IsCount (names : List (List ℕ)) (records : List (List (List ℕ))) (name value : List ℕ) (n : ℕ) : Type 0 where
  pub below : (k : ℕ) → slice_get names k ≡ Some name → n ≡ count_at records k value
  pub absent : IsAbsent names name → n ≡ 0

abbrev pub names_of : LogFile → List (List ℕ)
names_of file = map field_name file.fields

-- the sums that are told of a log file: of the bytes that were sent, and how many records say that the content was kept
pub record HasSums (file : LogFile) (audited : Audited) : Type 0 where
  pub total : IsSum (names_of file) file.records (codes "sc-total-bytes") audited.total
  pub entity : IsSum (names_of file) file.records (codes "sc-entity-bytes") audited.entity
  pub cached : IsCount (names_of file) file.records (codes "s-cached") (codes "1") audited.cached

-- what is told of the file but its sums: its fields, and the line of each record without its end
abbrev pub IsRead : LogFile → Audited → Type 0
IsRead file audited = (audited.fields ≡ file.fields) × (audited.records ≡ map tabbed file.records)

-- the text is a log file with its own hash, and this is read of it
abbrev pub ReadsFile : List ℕ → Audited → Type 0
ReadsFile text audited = IsWithin text × (file : LogFile) × IsLogFile text file × (file.hash ≡ true_hash file)
    × IsRead file audited

-- another hash is written than was found, or memory was wanted
abbrev pub IsHashFault : List ℕ → List ℕ → AuditFault → Type 0
IsHashFault hash true_one (BadHash written found) = (written ≡ hash) × (found ≡ true_one) × (written ≢ found)
IsHashFault hash true_one Memory = ⊤
IsHashFault hash true_one other = ⊥

-- the fault of a text that is not accepted
abbrev pub IsFaultOf : List ℕ → AuditFault → Type 0
IsFaultOf text (TooLong len) = (len ≡ length text) × (268435456 < length text)
IsFaultOf text (BadLine line) = IsWithin text × (bad_line text ≡ Some line)
IsFaultOf text (BadHash written found) = IsWithin text × (file : LogFile) × IsLogFile text file
    × (written ≡ file.hash) × (found ≡ true_hash file) × (written ≢ found)
IsFaultOf text Memory = IsWithin text

-- the answer is this one, or memory was wanted
abbrev pub IsOrMemory : Result Audited AuditFault → AuditFault → Type 0
IsOrMemory (Ok audited) fault = ⊥
IsOrMemory (Err Memory) fault = ⊤
IsOrMemory (Err other) fault = other ≡ fault

-- the text is accepted, or memory was wanted
abbrev pub IsAccepted : Result Audited AuditFault → Type 0
IsAccepted (Ok audited) = ⊤
IsAccepted (Err Memory) = ⊤
IsAccepted (Err other) = ⊥

-- ---- parts of the check

-- a bad line is the fault, and it is this one; or memory was wanted
abbrev pub IsBad : Option ℕ → AuditFault → Type 0
IsBad bad (BadLine n) = bad ≡ Some n
IsBad bad Memory = ⊤
IsBad bad other = ⊥

-- the hash that stands in the line, where it is the line of one
abbrev pub IsHashIn : List ℕ → Option (List ℕ) → Type 0
IsHashIn line None = is_directive (codes "SHA256-hash") is_hash line ≡ false
IsHashIn line (Some hash) = (line ≡ hash_line hash) × (is_hash hash ≡ true)

-- the line that is no record, or the one behind it, is bad
abbrev pub IsBadLast : ℕ → List ℕ → List ℕ → AuditFault → Type 0
IsBadLast number line rest fault = (fields : List Field) → is_record_line fields line ≡ false
    → IsBad (bad_from number (place.Records fields) (line ∷ lines_of rest)) fault

-- the line is that of this hash, and nothing follows
abbrev pub IsLast : List ℕ → List ℕ → List ℕ → Type 0
IsLast line rest hash = (line ≡ hash_line hash) × (is_hash hash ≡ true) × (rest ≡ [])
