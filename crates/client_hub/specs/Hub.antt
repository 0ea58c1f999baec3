-- Connections that are accepted.
use Rattle.std.specs.Prelude.{◌≡◌, ℕ, ℤ, pos, negsuc, List, ◌++◌, ◌==◌, ◌||◌, if◌then◌else◌}
use Rattle.std.specs.Net.Addr.{ipv4_bits, ipv6_bits, MatchIp, IsCanonicalOf}
use Rattle.std.specs.declared.net.ip_addr.IpAddr.{IpAddr}
use Rattle.std.specs.declared.net.ip_addr.IpAddr.TheVariants as addr
use Rattle.location_acl.specs.declared.ip.Ip.{Ip}
use Rattle.location_acl.specs.declared.ip.Ip.TheVariants as ip
use Rattle.client_hub.specs.declared.hub.Look.{Look}
use Rattle.client_hub.specs.declared.hub.Look.TheVariants as look
use Rattle.client_hub.specs.declared.hub.Refusal.{Refusal}
use Rattle.client_hub.specs.declared.hub.Refusal.TheVariants.{Fault, Full, Passing}
use Rattle.client_hub.specs.declared.hub.Taken.{Taken}
use Rattle.client_desk.specs.declared.parked.Parked.{Parked}

-- EBADF, EINVAL and ENOTSOCK say that the listener is none; ENFILE, EMFILE, ENOMEM and ENOBUFS that nothing is left for
-- now; any other error is of one connection alone
abbrev pub refusal_of : ℤ → Refusal
refusal_of (pos error) =
    if error == 9 || error == 22 || error == 88 then Fault
    else (if error == 24 || error == 23 || error == 105 || error == 12 then Full else Passing)
refusal_of (negsuc error) = Passing

-- the number of an address
abbrev pub number_of : IpAddr → Ip
number_of (addr.V4 four) = ip.V4 (ipv4_bits four)
number_of (addr.V6 six) = ip.V6 (ipv6_bits six)

-- the number of a client's address; an IPv4 address within an IPv6 one is that IPv4 address (RFC 4291, section 2.5.5.2)
abbrev pub IsClientIp : IpAddr → Ip → Type 0
IsClientIp told number = (canonical : IpAddr)
    × (MatchIp told (λ _. canonical ≡ told) (λ six. IsCanonicalOf six canonical) × (number ≡ number_of canonical))

-- a moment, or now where it is 0, which is none
abbrev pub moment_or : ℕ → ℕ → ℕ
moment_or moment now = if moment == 0 then now else moment

-- what is given to a worker is this connection
abbrev pub IsConnectionOf : Parked → Taken → Type 0
IsConnectionOf parked taken = (taken.stream ≡ parked.stream) × (taken.ip ≡ parked.ip) × (taken.token ≡ parked.token)

-- this connection is given to a worker, with these bytes of its message that have no place in the room
abbrev pub IsGivenOf : Parked → List ℕ → Look → Type 0
IsGivenOf parked rest (look.Given taken) = IsConnectionOf parked taken × (taken.rest ≡ rest)
IsGivenOf parked rest look.Nothing = ⊥
IsGivenOf parked rest look.Fault = ⊥

-- a connection that is given to a worker is this one, and the bytes that came stand in the room behind those that it had
abbrev pub IsGivenWith : Parked → List ℕ → List ℕ → Look → Type 0
IsGivenWith parked had new (look.Given taken) =
    IsConnectionOf parked taken × ((came : List ℕ) × (new ≡ had ++ came))
IsGivenWith parked had new look.Nothing = Unit {0}
IsGivenWith parked had new look.Fault = ⊥

-- a worker that is given a connection has all bytes that came before, and those that came now behind them: the first of
-- them in the room, and the others behind
abbrev pub IsGivenWhole : List ℕ → List ℕ → Look → Type 0
IsGivenWhole had new (look.Given taken) = (came : List ℕ) × (new ++ taken.rest ≡ had ++ came)
IsGivenWhole had new look.Nothing = Unit {0}
IsGivenWhole had new look.Fault = ⊥

-- a connection that is given has the number of some address, as it is told of a client
abbrev pub IsClientGiven : Look → Type 0
IsClientGiven (look.Given taken) = (told : IpAddr) × IsClientIp told taken.ip
IsClientGiven look.Nothing = Unit {0}
IsClientGiven look.Fault = Unit {0}
