-- The fields of a record (RFC 7937, section 3.4.1).
use Rattle.std.specs.Prelude.{◌≡◌, ℕ, ◌-◌, Bool, true, false, IsTrue, List, ◌++◌, codes, bytes_eq, drop, length, take, slice_range, None, Some, Ok, Err, ◌==◌, ◌&&◌, ◌||◌, nat_lt, nat_le, if◌then◌else◌}
use Rattle.std.specs.Char.{is_ascii_alphanumeric}
use Rattle.std.specs.List.{list_all, list_any}
use Rattle.std.specs.Option.{option_map}
use Rattle.std.specs.Str.{str_to_ascii_lowercase}
use Rattle.std.specs.declared.option.Option.{Option}
use Rattle.std.specs.declared.result.Result.{Result}
use Rattle.cdni_log.specs.declared.field.Field.{Field}
use Rattle.cdni_log.specs.declared.field.Field.TheVariants as field
use Rattle.cdni_log.specs.declared.field.FieldNameFault.{FieldNameFault}
use Rattle.cdni_log.specs.declared.field.FieldNameFault.TheVariants as field_name_fault

-- `cs(H)`
abbrev pub header_field : List ℕ → List ℕ
header_field header = codes "cs(" ++ header ++ codes ")"

-- the name of a field
unfoldable pub field_name : Field → List ℕ
field_name field.Date = codes "date"
field_name field.Time = codes "time"
field_name field.TimeTaken = codes "time-taken"
field_name field.GroupId = codes "c-groupid"
field_name field.Method = codes "cs-method"
field_name field.CsUri = codes "cs-uri"
field_name field.UUri = codes "u-uri"
field_name field.Protocol = codes "protocol"
field_name field.Status = codes "sc-status"
field_name field.TotalBytes = codes "sc-total-bytes"
field_name field.EntityBytes = codes "sc-entity-bytes"
field_name field.Ccid = codes "s-ccid"
field_name field.Cached = codes "s-cached"
field_name (field.Header header) = header_field header

abbrev pub is_header : Field → Bool
is_header (field.Header header) = true
is_header other = false

-- how many headers a field is
abbrev pub header_count : Field → ℕ
header_count column = if is_header column then 1 else 0

-- a byte of a token (RFC 9110, section 5.6.2)
abbrev pub is_token_byte : ℕ → Bool
is_token_byte byte = is_ascii_alphanumeric byte || list_any (λ mark. byte == mark) (codes "!#$%&'*+-.^_`|~")

-- a token of at most 64 bytes
unfoldable pub is_token : List ℕ → Bool
is_token text = nat_lt 0 (length text) && nat_le (length text) 64 && list_all is_token_byte text

-- the field of this name, where it is one of the thirteen that are no headers
unfoldable pub plain_field : List ℕ → Option Field
plain_field name = if bytes_eq name (codes "date") then Some field.Date else
    (if bytes_eq name (codes "time") then Some field.Time else
    (if bytes_eq name (codes "time-taken") then Some field.TimeTaken else
    (if bytes_eq name (codes "c-groupid") then Some field.GroupId else
    (if bytes_eq name (codes "cs-method") then Some field.Method else
    (if bytes_eq name (codes "cs-uri") then Some field.CsUri else
    (if bytes_eq name (codes "u-uri") then Some field.UUri else
    (if bytes_eq name (codes "protocol") then Some field.Protocol else
    (if bytes_eq name (codes "sc-status") then Some field.Status else
    (if bytes_eq name (codes "sc-total-bytes") then Some field.TotalBytes else
    (if bytes_eq name (codes "sc-entity-bytes") then Some field.EntityBytes else
    (if bytes_eq name (codes "s-ccid") then Some field.Ccid else
    (if bytes_eq name (codes "s-cached") then Some field.Cached else None))))))))))))

-- `cs(`, a token and `)`
abbrev pub is_header_field : List ℕ → Bool
is_header_field name = nat_le 4 (length name) && bytes_eq (take 3 name) (codes "cs(")
    && bytes_eq (drop (length name - 1) name) (codes ")") && is_token (slice_range name 3 (length name - 1))

-- the header in the name of a header's field, in lower case
unfoldable pub header_of : List ℕ → Option (List ℕ)
header_of name = if is_header_field name then Some (str_to_ascii_lowercase (slice_range name 3 (length name - 1)))
    else None

-- the first, or where there is none the second
abbrev pub or_else : {A : Type 0} → Option A → Option A → Option A
or_else None other = other
or_else (Some a) other = Some a

-- the field of this name, if there is one
abbrev pub field_of : List ℕ → Option Field
field_of name = or_else (plain_field name) (option_map field.Header (header_of name))

-- the text is a name of the field; a header is a token, of which the name may have any case (RFC 9110, section 5.1)
abbrev pub IsNameOf : Field → List ℕ → Type 0
IsNameOf (field.Header header) name = (written : List ℕ) × IsTrue (is_token written)
    × (name ≡ header_field written) × (header ≡ str_to_ascii_lowercase written)
IsNameOf column name = name ≡ field_name column

-- what was read of a text that says this, if anything
abbrev pub Reads : {A : Type 0} → Result A FieldNameFault → Option A → Type 0
Reads (Ok read) said = said ≡ Some read
Reads (Err field_name_fault.Unknown) said = said ≡ None
Reads (Err field_name_fault.Memory) said = Unit {0}
