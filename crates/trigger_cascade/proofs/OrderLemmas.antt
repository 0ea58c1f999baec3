-- CDNs of an order.
use Rattle.std.proofs.Common.{◌≡◌, ℕ, Bool, true, false, List, [], ◌∷◌, None, Some, String, string_bytes, bytes_eq, codes, refl, sym, subst, if◌then◌else◌}
use Rattle.std.specs.declared.alloc.Global.{Global}
use Rattle.std.specs.declared.option.Option.{Option}
use Rattle.cdni_base.specs.declared.provider.ProviderId.{ProviderId}
use Rattle.listing.specs.Number.{number_of}
use Rattle.listing.specs.Word.{◌>>=◌, parts_at}
use Rattle.trigger_cascade.specs.Cdn.{AreWaiting, IsWaiting}
use Rattle.trigger_cascade.specs.Order.{cdn_at, cdn_of, each_cdn, http_target, order_in, order_of, order_with, provider_in, rounds_of}
use Rattle.trigger_cascade.specs.OrderParts.{OrderParts}
use Rattle.trigger_cascade.specs.declared.cdn.Cdn.{Cdn}
use Rattle.trigger_cascade.specs.declared.cdn.Standing.TheVariants.{Waiting}

-- what was found in two steps
pub bound : {A B : Type 0} (first : Option A) (next : A → Option B) (b : B) → (first >>= next) ≡ Some b → (a : A) × (first ≡ Some a) × (next a ≡ Some b)
bound None next b is = absurd (cc)
bound (Some a) next b is = (a, refl, is)

-- each CDN of the words waits
cdn_waits : (word : List ℕ) (cdn : Cdn) → cdn_of word ≡ Some cdn → IsWaiting cdn.standing
cdn_waits word cdn is =
    let parts = bound (parts_at 61 word) cdn_at cdn is in
    let id = bound (provider_in parts.0.0) _ cdn parts.2 in
    let to = bound (http_target parts.0.1) _ cdn id.2 in
    let made : record { id = id.0; to = to.0; standing = Waiting } ≡ cdn = cc in
    subst (λ (x : Cdn). IsWaiting x.standing) made tt

each_waits : (words : List (String Global)) (cdns : List Cdn) → each_cdn words ≡ Some cdns → AreWaiting cdns
each_waits [] cdns is =
    let none : [] ≡ cdns = cc in subst AreWaiting none tt
each_waits (word ∷ words) cdns is =
    let first = bound (cdn_of (string_bytes word)) _ cdns is in
    let others = bound (each_cdn words) _ cdns first.2 in
    let made : first.0 ∷ others.0 ≡ cdns = cc in
    subst AreWaiting made (cdn_waits (string_bytes word) first.0 first.1, each_waits words others.0 others.1)

with_waits : (fits : Bool) (parts order : OrderParts) → (if fits then Some parts else None) ≡ Some order → AreWaiting parts.cdns → AreWaiting order.cdns
with_waits true parts order is waits = let same : parts ≡ order = cc in subst (λ (o : OrderParts). AreWaiting o.cdns) same waits
with_waits false parts order is waits = absurd (cc)

in_waits : (own rounds : List ℕ) (words : List (String Global)) (order : OrderParts) → order_in own rounds words ≡ Some order → AreWaiting order.cdns
in_waits own rounds words order is =
    let id = bound (provider_in own) _ order is in
    let n = bound (rounds_of rounds) _ order id.2 in
    let cdns = bound (each_cdn words) _ order n.2 in
    with_waits _ (record { own = id.0; rounds = n.0; cdns = cdns.0 }) order cdns.2 (each_waits words cdns.0 cdns.1)

named_waits : (named : Bool) (own rounds : List ℕ) (words : List (String Global)) (order : OrderParts)
    → (if named then order_in own rounds words else None) ≡ Some order → AreWaiting order.cdns
named_waits true own rounds words order is = in_waits own rounds words order is
named_waits false own rounds words order is = absurd (cc)

pub order_waits : (words : List (String Global)) (order : OrderParts) → order_of words ≡ Some order → AreWaiting order.cdns
order_waits [] order is = absurd (cc)
order_waits (first ∷ []) order is = absurd (cc)
order_waits (first ∷ own ∷ []) order is = absurd (cc)
order_waits (first ∷ own ∷ rounds ∷ cdns) order is =
    named_waits (bytes_eq (string_bytes first) (codes "cascade")) (string_bytes own) (string_bytes rounds) cdns order is
