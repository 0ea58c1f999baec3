-- Which texts are log files (RFC 7937, section 3).
use Rattle.std.specs.Prelude.{◌≡◌, ℕ, ◌+◌, Bool, true, List, [], ◌∷◌, ◌++◌, codes, length, map, slice_index, Some, ◌==◌, ◌&&◌, ◌||◌, nat_lt, nat_le, if◌then◌else◌}
use Rattle.std.specs.Char.{is_ascii_digit}
use Rattle.std.specs.List.{AllByRecursion, flat_map, list_all, list_any}
use Rattle.hex.specs.Hex.{encode_lower}
use Rattle.sha2.specs.Sha256.{sha256}
use Rattle.targets.specs.Endpoint.{host_length}
use Rattle.cdni_log.specs.Field.{field_name}
use Rattle.cdni_log.specs.FieldList.{fields_of}
use Rattle.cdni_log.specs.Line.{directive, line_end, quoted, tabbed}
use Rattle.cdni_log.specs.declared.field.Field.{Field}
use Rattle.log_audit.specs.Value.{is_record, is_unbroken}

-- what a log file says: its UUID, the host that claims it, its fields, the values of each record, and the hash
pub record LogFile : Type 0 where
  pub uuid : List ℕ
  pub origin : List ℕ
  pub fields : List Field
  pub records : List (List (List ℕ))
  pub hash : List ℕ

-- ---- lines

-- the value of the directive `UUID`
abbrev pub urn : List ℕ → List ℕ
urn uuid = quoted (codes "urn:uuid:" ++ uuid)

abbrev pub names_text : List Field → List ℕ
names_text fields = tabbed (map field_name fields)

abbrev pub record_line : List (List ℕ) → List ℕ
record_line values = tabbed values ++ line_end

abbrev pub hash_line : List ℕ → List ℕ
hash_line hash = directive (codes "SHA256-hash") hash

-- the lines of a log file before that of its hash, in their order
unfoldable pub hashed_text : LogFile → List ℕ
hashed_text file = directive (codes "version") (codes "cdni/1.0")
    ++ (directive (codes "UUID") (urn file.uuid)
    ++ (directive (codes "claimed-origin") file.origin
    ++ (directive (codes "record-type") (codes "cdni_http_request_v1")
    ++ (directive (codes "fields") (names_text file.fields)
    ++ flat_map record_line file.records))))

-- the text of a log file
abbrev pub print : LogFile → List ℕ
print file = hashed_text file ++ hash_line file.hash

-- the SHA-256 of the bytes before the hash's line, in lower-case digits
abbrev pub true_hash : LogFile → List ℕ
true_hash file = encode_lower (sha256 (hashed_text file))

-- ---- forms

-- a hexadecimal digit in lower case
abbrev pub is_lower_digit : ℕ → Bool
is_lower_digit byte = is_ascii_digit byte || (nat_le 97 byte && nat_le byte 102)

-- a hyphen at these places, and else a digit
abbrev pub is_uuid_byte : ℕ → ℕ → Bool
is_uuid_byte place byte = if place == 8 || place == 13 || place == 18 || place == 23 then byte == 45
    else is_lower_digit byte

abbrev pub are_uuid_bytes : ℕ → List ℕ → Bool
are_uuid_bytes place [] = true
are_uuid_bytes place (byte ∷ bytes) = is_uuid_byte place byte && are_uuid_bytes (place + 1) bytes

-- a UUID of version 5 in lower case (RFC 9562, sections 4 and 5.5): 36 bytes, of which the first of the third group is
-- the version, and the first of the fourth one has the variant's two bits
unfoldable pub is_uuid : List ℕ → Bool
is_uuid text = is_unbroken text && length text == 36 && are_uuid_bytes 0 text && slice_index text 14 == 53
    && list_any (λ digit. slice_index text 19 == digit) (codes "89ab")

-- a host, behind which nothing stands
unfoldable pub is_origin : List ℕ → Bool
is_origin text = is_unbroken text && nat_lt 0 (length text) && host_length text == length text

-- 64 digits
unfoldable pub is_hash : List ℕ → Bool
is_hash text = is_unbroken text && length text == 64 && list_all is_lower_digit text

-- each part of the file has its form, and the text of each stands on one line
pub record IsWell (file : LogFile) : Type 0 where
  pub uuid : is_uuid file.uuid ≡ true
  pub origin : is_origin file.origin ≡ true
  pub names : is_unbroken (names_text file.fields) ≡ true
  pub fields : fields_of 9 (names_text file.fields) ≡ Some file.fields
  pub records : AllByRecursion (λ values. is_record file.fields values ≡ true) file.records
  pub hash : is_hash file.hash ≡ true

-- the text is that of this file, and all is well with it
pub record IsLogFile (text : List ℕ) (file : LogFile) : Type 0 where
  pub printed : text ≡ print file
  pub well : IsWell file
