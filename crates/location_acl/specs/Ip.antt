-- Addresses as texts: IPv4 addresses and IPv6 addresses.
use Rattle.std.specs.Prelude.{ℕ, ◌⊎◌, List, Option, option_map}
use Rattle.std.specs.Option.{option_or}
use Rattle.location_acl.specs.declared.ip.Ip.{Ip}
use Rattle.location_acl.specs.declared.ip.Ip.TheVariants.{V4, V6}
use Rattle.location_acl.specs.Dotted.{IsDotted, dotted_of}
use Rattle.location_acl.specs.Six.{IsWhole, IsShortened, six_of}

-- the text is this address
abbrev pub IsAddress : List ℕ → Ip → Type 0
IsAddress text (V4 value) = IsDotted text value
IsAddress text (V6 value) = IsWhole text value ⊎ IsShortened text value

-- a text that is some address
abbrev pub IsSomeAddress : List ℕ → Type 0
IsSomeAddress text = (ip : Ip) × IsAddress text ip

-- the address that the text is
abbrev pub ip_of : List ℕ → Option Ip
ip_of text = option_or (option_map V4 (dotted_of text)) (option_map V6 (six_of text))
