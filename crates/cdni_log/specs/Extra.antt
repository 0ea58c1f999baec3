-- The values of headers in a record (RFC 7937, section 3.4.1).
use Rattle.std.specs.Prelude.{◌≡◌, ◌≢◌, ◌<◌, ◌≤◌, ◌⊎◌, ℕ, List, [], length, map, min, slice_get, take, None, Some, ◌==◌, ◌||◌, nat_lt, if◌then◌else◌}
use Rattle.std.specs.declared.option.Option.{Option}

-- a byte as it is logged: a space stands for each control (RFC 5234, appendix B.1)
abbrev pub logged_byte : ℕ → ℕ
logged_byte byte = if nat_lt byte 32 || byte == 127 then 32 else byte

-- what is logged of a header's value: its first 1,024 bytes, or nothing where it has none
unfoldable pub logged_value : List ℕ → Option (List ℕ)
logged_value value = if length value == 0 then None else Some (take 1024 (map logged_byte value))

-- so many bytes, each one of the header's at its place, or a space at the place of a control
pub record IsLogged (value logged : List ℕ) : Type 0 where
  pub count : length logged ≡ min 1024 (length value)
  pub visible : (k byte : ℕ) → slice_get logged k ≡ Some byte → (32 ≤ byte) × (byte ≢ 127)
  pub same : (k byte : ℕ) → slice_get value k ≡ Some byte → k < 1024 → 32 ≤ byte → byte ≢ 127
      → slice_get logged k ≡ Some byte
  pub blank : (k byte : ℕ) → slice_get value k ≡ Some byte → k < 1024 → (byte < 32) ⊎ (byte ≡ 127)
      → slice_get logged k ≡ Some 32

-- nothing is logged of no bytes
abbrev pub IsLoggedOf : List ℕ → Option (List ℕ) → Type 0
IsLoggedOf value None = value ≡ []
IsLoggedOf value (Some logged) = (0 < length value) × IsLogged value logged
