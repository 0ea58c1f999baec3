-- Which rule of the effective metadata is the first to forbid a delivery (RFC 8006, sections 4.1.7 and 4.2).
use Rattle.std.specs.Prelude.{◌≡◌, ◌<◌, ℕ, Bool, true, false, List, [], ◌∷◌, codes, None, Some}
use Rattle.std.specs.Option.{option_or, option_map, option_map_or, option_and_then}
use Rattle.std.specs.declared.option.Option.{Option}
use Rattle.targets.specs.declared.endpoint.Endpoint.{Endpoint}
use Rattle.cdni_base.specs.declared.rule.Rule.{Rule}
use Rattle.cdni_base.specs.declared.rule.Rule.TheVariants as rule
use Rattle.targets.specs.declared.target.Protocol.{Protocol}
use Rattle.targets.specs.declared.target.Protocol.TheVariants.{Http, Https}
use Rattle.listing.specs.FirstMatch.{IsFirstMatch}
use Rattle.location_acl.specs.Acl as location
use Rattle.location_acl.specs.declared.footprint.Place.{Place}
use Rattle.protocol_acl.specs.Acl as protocol
use Rattle.time_window.specs.Acl as time
use Rattle.metadata_objects.specs.declared.generic.Generic.{Generic}
use Rattle.inheritance.specs.Held.{unenforceable_of, location_of, time_of, protocol_of}
use Rattle.verdict.specs.Plan.{plan_of}
use Rattle.verdict.specs.declared.judging.Verdict.{Verdict}
use Rattle.verdict.specs.declared.judging.Verdict.TheVariants.{Allow, Deny}

-- the name of a delivery protocol (RFC 8006, section 7.3)
abbrev pub protocol_name : Protocol → List ℕ
protocol_name Http = codes "http/1.1"
protocol_name Https = codes "https/1.1"

-- the rule of a list's decision, where it denies
abbrev pub denied_by : (Option ℕ → Rule) → Bool × Option ℕ → Option Rule
denied_by of (true, number) = None
denied_by of (false, number) = Some (of number)

-- an object that must be enforced is not understood
abbrev pub unenforceable_rule : List Generic → Option Rule
unenforceable_rule objects = option_map rule.Unenforceable (unenforceable_of objects)

-- the effective location list denies; where there is none it does not
abbrev pub location_rule : List Generic → Place → Option Rule
location_rule objects place =
    option_and_then (λ rules. denied_by rule.Location (location.location_decision rules place)) (location_of objects)

-- the same of the time list
abbrev pub time_rule : List Generic → ℕ → Option Rule
time_rule objects moment =
    option_and_then (λ rules. denied_by rule.Time (time.time_decision rules moment)) (time_of objects)

-- the same of the protocol list
abbrev pub protocol_rule : List Generic → Protocol → Option Rule
protocol_rule objects spoken =
    option_and_then (λ rules. denied_by rule.Protocol (protocol.protocol_decision rules (protocol_name spoken)))
    (protocol_of objects)

abbrev pub no_source : List Endpoint → Option Rule
no_source [] = Some rule.NoSource
no_source (endpoint ∷ endpoints) = None

-- no source can be asked
abbrev pub source_rule : List Generic → Option Rule
source_rule objects = no_source (plan_of objects)

-- the first list that denies, in the order of location, time and protocol
abbrev pub list_rule : List Generic → Protocol → Place → ℕ → Option Rule
list_rule objects spoken place moment =
    option_or (location_rule objects place) (option_or (time_rule objects moment) (protocol_rule objects spoken))

-- the first rule that forbids: unenforceable, location, time, protocol, no source
unfoldable pub first_rule : List Generic → Protocol → Place → ℕ → Option Rule
first_rule objects spoken place moment =
    option_or (unenforceable_rule objects) (option_or (list_rule objects spoken place moment) (source_rule objects))

-- allowed, where no rule forbids
abbrev pub verdict_of : List Generic → Protocol → Place → ℕ → Verdict
verdict_of objects spoken place moment = option_map_or Deny (first_rule objects spoken place moment) Allow

-- none of the rules forbids
pub record NoneForbids (objects : List Generic) (spoken : Protocol) (place : Place) (moment : ℕ) : Type 0 where
  pub enforceable : unenforceable_rule objects ≡ None
  pub location : location_rule objects place ≡ None
  pub time : time_rule objects moment ≡ None
  pub protocol : protocol_rule objects spoken ≡ None
  pub source : source_rule objects ≡ None

-- ---- the same as a relation

-- there is such a list, and the first of its rules that holds, with this number, denies; or none holds, with no number
abbrev pub IsDenied : {R : Type 0} → (R → Bool) → (R → Bool) → Option (Option (List R)) → Option ℕ → Type 0
IsDenied holds allows None number = ⊥
IsDenied holds allows (Some rules) number = IsFirstMatch holds allows rules (false, number)

-- the rule forbids the delivery, whatever the others do
abbrev pub Forbids : List Generic → Protocol → Place → ℕ → Rule → Type 0
Forbids objects spoken place moment (rule.Unenforceable kind) = unenforceable_of objects ≡ Some kind
Forbids objects spoken place moment (rule.Location number) =
    IsDenied (location.rule_holds place) (λ one. one.allow) (location_of objects) number
Forbids objects spoken place moment (rule.Time number) =
    IsDenied (time.holds_moment moment) (λ one. one.allow) (time_of objects) number
Forbids objects spoken place moment (rule.Protocol number) =
    IsDenied (protocol.names (protocol_name spoken)) (λ one. one.allow) (protocol_of objects) number
Forbids objects spoken place moment rule.NoSource = plan_of objects ≡ []
Forbids objects spoken place moment _ = ⊥

-- the place of a rule in the order in which they are asked
abbrev pub order_of : Rule → ℕ
order_of rule.Method = 1
order_of rule.NoMetadata = 2
order_of (rule.MetadataInvalid trigger) = 3
order_of rule.NoHost = 4
order_of (rule.Unenforceable kind) = 5
order_of (rule.Location number) = 6
order_of (rule.Time number) = 7
order_of (rule.Protocol number) = 8
order_of rule.NoSource = 9

-- the rule forbids the delivery, and none before it does
abbrev pub IsFirstToForbid : List Generic → Protocol → Place → ℕ → Rule → Type 0
IsFirstToForbid objects spoken place moment rule =
    Forbids objects spoken place moment rule
    × ((other : Rule) → order_of other < order_of rule → Forbids objects spoken place moment other → ⊥)
