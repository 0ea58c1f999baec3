-- Connections that a door gives.
use Rattle.std.specs.Prelude.{◌≡◌}
use Rattle.location_acl.specs.declared.ip.Ip.{Ip}
use Rattle.doors.specs.declared.door.Accepted.{Accepted}
use Rattle.doors.specs.declared.door.Accepted.TheVariants as accepted

-- a connection is given with the address that its source keeps
abbrev pub GivesIp : {S K : Type 0} → (S → Ip) → Accepted S K → Type 0
GivesIp ip_of (accepted.One ip source sink) = ip ≡ ip_of source
GivesIp ip_of accepted.Closed = Unit {0}
GivesIp ip_of accepted.Failed = Unit {0}
GivesIp ip_of accepted.Memory = Unit {0}
