-- Addresses to listen at.
use Rattle.std.specs.Prelude.{ℕ, ◌^◌, Bool, true, false, List, [], ◌∷◌, None, Some, ◌==◌, nat_lt, if◌then◌else◌}
use Rattle.std.specs.declared.option.Option.{Option}
use Rattle.listing.specs.Number.{number_of}
use Rattle.listing.specs.Word.{◌>>=◌, parts_at}
use Rattle.location_acl.specs.Ip.{ip_of}
use Rattle.location_acl.specs.declared.ip.Ip.{Ip}
use Rattle.location_acl.specs.declared.ip.Ip.TheVariants.{V4, V6}
use Rattle.doors.specs.declared.address.TheConstants.{CLOSING, COLON, OPENING}

-- the address, where it is of this kind
abbrev pub of_kind : Bool → Ip → Option Ip
of_kind true (V6 number) = Some (V6 number)
of_kind true (V4 number) = None
of_kind false (V4 number) = Some (V4 number)
of_kind false (V6 number) = None

-- the address of this kind, the sixth version of the protocol or the fourth, that the text is
abbrev pub ip_in : Bool → List ℕ → Option Ip
ip_in six text = ip_of text >>= of_kind six

-- a number from 0 to 65535 without leading zeros
abbrev pub in_range : ℕ → Option ℕ
in_range number = if nat_lt number (2 ^ 16) then Some number else None

abbrev pub port_of : List ℕ → Option ℕ
port_of text = number_of text >>= in_range

-- `:` and a port
abbrev pub port_behind : List ℕ → Option ℕ
port_behind [] = None
port_behind (byte ∷ bytes) = if byte == COLON then port_of bytes else None

-- an address and a port
abbrev pub both : Option Ip → Option ℕ → Option (Ip × ℕ)
both ip port = ip >>= (λ number. port >>= (λ place. Some (number, place)))

-- an address of the sixth version, `]:` and a port
abbrev pub bracketed : List ℕ → Option (Ip × ℕ)
bracketed text = parts_at CLOSING text >>= (λ parts. both (ip_in true parts.0) (port_behind parts.1))

-- an address of the fourth version, `:` and a port
abbrev pub plain : List ℕ → Option (Ip × ℕ)
plain text = parts_at COLON text >>= (λ parts. both (ip_in false parts.0) (port_of parts.1))

-- `[` and the first, or the second
abbrev pub address_of : List ℕ → Option (Ip × ℕ)
address_of [] = None
address_of (byte ∷ bytes) = if byte == OPENING then bracketed bytes else plain (byte ∷ bytes)
