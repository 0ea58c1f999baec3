-- Footprints (RFC 8006, sections 4.2.2.2 and 4.3.5 to 4.3.8), and the places that they hold.
use Rattle.std.specs.Prelude.{◌≡◌, ℕ, ◌≤◌, ◌++◌, decimal, Bool, true, false, ◌==◌, ◌&&◌, nat_le, bytes_eq, codes, List, [], ◌∷◌, take, drop, Option, Some, None, option_map, if◌then◌else◌}
use Rattle.std.specs.Char.{is_ascii_lowercase}
use Rattle.listing.specs.Number.{number_of}
use Rattle.listing.specs.Word.{◌>>=◌}
use Rattle.location_acl.specs.declared.footprint.Footprint.{Footprint}
use Rattle.location_acl.specs.declared.footprint.Footprint.TheVariants.{V4, V6, Asn, Country}
use Rattle.location_acl.specs.declared.footprint.FootprintType.{FootprintType}
use Rattle.location_acl.specs.declared.footprint.FootprintType.TheVariants as kind
use Rattle.location_acl.specs.declared.footprint.Place.{Place}
use Rattle.location_acl.specs.Block.{holds, block_of, IsBlock}

-- the place has this number of an autonomous system
abbrev pub has_asn : ℕ → Option ℕ → Bool
has_asn number None = false
has_asn number (Some asn) = asn == number

-- the place has the country of these letters
abbrev pub has_country : ℕ → ℕ → Option (ℕ × ℕ) → Bool
has_country first second None = false
has_country first second (Some country) = country.0 == first && country.1 == second

-- the place is in the footprint
abbrev pub holds_place : Place → Footprint → Bool
holds_place place (V4 block) = holds block place.ip
holds_place place (V6 block) = holds block place.ip
holds_place place (Asn number) = has_asn number place.asn
holds_place place (Country first second) = has_country first second place.country

-- a number of at most 4294967295
abbrev pub asn_from : Option ℕ → Option ℕ
asn_from None = None
asn_from (Some n) = if nat_le n 4294967295 then Some n else None

-- `as` and a decimal number
abbrev pub asn_of : List ℕ → Option ℕ
asn_of text = if bytes_eq (take 2 text) (codes "as") then asn_from (number_of (drop 2 text)) else None

abbrev pub is_lower_letter : ℕ → Bool
is_lower_letter byte = is_ascii_lowercase byte

-- two lower-case letters
abbrev pub country_of : List ℕ → Option (ℕ × ℕ)
country_of [] = None
country_of (first ∷ []) = None
country_of (first ∷ second ∷ []) =
    if is_lower_letter first && is_lower_letter second then Some (first, second) else None
country_of (first ∷ second ∷ third ∷ more) = None

-- the name of a type of footprints
abbrev pub type_name : FootprintType → List ℕ
type_name kind.Ipv4Cidr = codes "ipv4cidr"
type_name kind.Ipv6Cidr = codes "ipv6cidr"
type_name kind.Asn = codes "asn"
type_name kind.CountryCode = codes "countrycode"

-- the type that has this name
abbrev pub type_of_name : List ℕ → Option FootprintType
type_of_name name =
    if bytes_eq name (codes "ipv4cidr") then Some kind.Ipv4Cidr
    else (if bytes_eq name (codes "ipv6cidr") then Some kind.Ipv6Cidr
    else (if bytes_eq name (codes "asn") then Some kind.Asn
    else (if bytes_eq name (codes "countrycode") then Some kind.CountryCode
    else None)))

-- the footprint of this type that a value is
abbrev pub footprint_of_type : FootprintType → List ℕ → Option Footprint
footprint_of_type kind.Ipv4Cidr value = option_map V4 (block_of false value)
footprint_of_type kind.Ipv6Cidr value = option_map V6 (block_of true value)
footprint_of_type kind.Asn value = option_map Asn (asn_of value)
footprint_of_type kind.CountryCode value = option_map (λ letters. Country letters.0 letters.1) (country_of value)

-- the footprint that a value is, of the type that has this name
abbrev pub footprint_of : List ℕ → List ℕ → Option Footprint
footprint_of name value = type_of_name name >>= λ found. footprint_of_type found value

-- a lower-case letter
abbrev pub IsLowerLetter : ℕ → Type 0
IsLowerLetter byte = (97 ≤ byte) × (byte ≤ 122)

-- the type of a footprint
abbrev pub type_of : Footprint → FootprintType
type_of (V4 block) = kind.Ipv4Cidr
type_of (V6 block) = kind.Ipv6Cidr
type_of (Asn number) = kind.Asn
type_of (Country first second) = kind.CountryCode

-- the value writes this footprint
abbrev pub IsWritten : List ℕ → Footprint → Type 0
IsWritten value (V4 block) = IsBlock false value block
IsWritten value (V6 block) = IsBlock true value block
IsWritten value (Asn number) = (number ≤ 4294967295) × (value ≡ codes "as" ++ decimal number)
IsWritten value (Country first second) = (value ≡ first ∷ second ∷ []) × IsLowerLetter first × IsLowerLetter second

-- the name is that of the footprint's type, and the value writes the footprint
abbrev pub IsFootprint : List ℕ → List ℕ → Footprint → Type 0
IsFootprint name value footprint = (name ≡ type_name (type_of footprint)) × IsWritten value footprint

-- ---- where the network or the country may not be known

-- what the text says, or `-` where it is not known
abbrev pub optional : {A : Type 0} → (List ℕ → Option A) → List ℕ → Option (Option A)
optional read text = if bytes_eq text (codes "-") then Some None else option_map Some (read text)

-- `as` and the number of an autonomous system, or `-` where it is not known
abbrev pub IsNetwork : List ℕ → Option ℕ → Type 0
IsNetwork text None = text ≡ codes "-"
IsNetwork text (Some number) = IsWritten text (Asn number)

-- two lower-case letters, or `-` where the country is not known
abbrev pub IsCountry : List ℕ → Option (ℕ × ℕ) → Type 0
IsCountry text None = text ≡ codes "-"
IsCountry text (Some letters) = IsWritten text (Country letters.0 letters.1)
