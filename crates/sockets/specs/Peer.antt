-- Whom the host and the port of a URL name (RFC 3986, section 3.2).
use Rattle.std.specs.Prelude.{◌≡◌, ◌≢◌, ℕ, List, [], ◌∷◌, ◌++◌, unwrap_or}
use Rattle.std.specs.declared.option.Option.{Option}
use Rattle.std.specs.Net.Grammar.{IsIpv6Text}
use Rattle.std.specs.declared.net.ipv6_addr.Ipv6Addr.{Ipv6Addr}
use Rattle.sockets.specs.declared.peer.Peer.{Peer}
use Rattle.sockets.specs.declared.peer.PeerName.{PeerName}
use Rattle.sockets.specs.declared.peer.PeerName.TheVariants as name

-- the text between `[` and `]`
abbrev pub bracketed : List ℕ → List ℕ
bracketed inner = 91 ∷ (inner ++ 93 ∷ [])

-- an IPv6 address in brackets is that address, and any other host is looked up as it is
abbrev pub Names : List ℕ → PeerName → Type 0
Names host (name.Ip ip) = (inner : List ℕ) × (host ≡ bracketed inner) × IsIpv6Text inner ip
Names host (name.Host text) = (text.now ≡ host) × ((inner : List ℕ) → host ≢ bracketed inner)

-- in brackets stands no IPv6 address
abbrev pub NamesNobody : List ℕ → Type 0
NamesNobody host = (inner : List ℕ) × (host ≡ bracketed inner) × ((ip : Ipv6Addr) → IsIpv6Text inner ip → ⊥)

-- it is the host that is named, at the port that is named, or at 80 (RFC 9110, section 4.2.1)
abbrev pub IsPeer : List ℕ → Option ℕ → Peer → Type 0
IsPeer host port peer = (peer.port ≡ unwrap_or port 80) × Names host peer.name
