-- The units of a text: '%' with two hexadecimal digits is one unit, and any other byte is one unit. On a path
-- these are the characters of RFC 8006, section 4.1.5: each is a pchar of RFC 3986, section 3.3, or '/'.
use Rattle.std.specs.Prelude.{ℕ, ◌+◌, Bool, true, false, ◌==◌, nat_lt, ◌&&◌, List, [], ◌∷◌, length, slice_index, if◌then◌else◌}
use Rattle.std.specs.List.{flat_map}
use Rattle.std.specs.Char.{is_ascii_hexdigit, to_ascii_lowercase}
use Rattle.pattern_match.specs.declared.units.TextUnit.{TextUnit}
use Rattle.pattern_match.specs.declared.units.TextUnit.TheVariants.{Byte, Encoded}

-- a '%' and two hexadecimal digits
abbrev pub is_encoded : ℕ → ℕ → ℕ → Bool
is_encoded b high low = b == 37 && (is_ascii_hexdigit high && is_ascii_hexdigit low)

-- a text cut into units, from the left
unfoldable pub units : List ℕ → List TextUnit
units [] = []
units (b ∷ []) = Byte b ∷ []
units (b ∷ c ∷ []) = Byte b ∷ Byte c ∷ []
units (b ∷ high ∷ low ∷ rest) =
    if is_encoded b high low then Encoded high low ∷ units rest else Byte b ∷ units (high ∷ low ∷ rest)

-- the same at a place of a text
abbrev pub is_encoded_at : List ℕ → ℕ → Bool
is_encoded_at text at =
    nat_lt (at + 2) (length text)
    && is_encoded (slice_index text at) (slice_index text (at + 1)) (slice_index text (at + 2))

-- the bytes that a unit was cut from
abbrev pub bytes_of : TextUnit → List ℕ
bytes_of (Byte b) = b ∷ []
bytes_of (Encoded high low) = 37 ∷ high ∷ low ∷ []

-- the text that these units are cut from
abbrev pub joined : List TextUnit → List ℕ
joined us = flat_map bytes_of us

-- the unit with its ASCII letters in lower case
abbrev pub lowered : TextUnit → TextUnit
lowered (Byte b) = Byte (to_ascii_lowercase b)
lowered (Encoded high low) = Encoded (to_ascii_lowercase high) (to_ascii_lowercase low)

-- two units of the same bytes
abbrev pub unit_eq : TextUnit → TextUnit → Bool
unit_eq (Byte b) (Byte c) = b == c
unit_eq (Encoded high low) (Encoded top bottom) = high == top && low == bottom
unit_eq (Byte b) (Encoded top bottom) = false
unit_eq (Encoded high low) (Byte c) = false

-- a unit as it is compared: in ASCII lower case, unless the case of letters counts
abbrev pub compared : Bool → TextUnit → TextUnit
compared true u = u
compared false u = lowered u
