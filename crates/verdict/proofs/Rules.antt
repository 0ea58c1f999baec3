-- A delivery is allowed exactly where none of the rules forbids it.
use Rattle.std.proofs.Common.{◌≡◌, ◌↔◌, ℕ, List, refl, ap, None, Some}
use Rattle.std.specs.Option.{option_or, option_map_or}
use Rattle.std.specs.declared.option.Option.{Option}
use Rattle.cdni_base.specs.declared.rule.Rule.{Rule}
use Rattle.targets.specs.declared.target.Protocol.{Protocol}
use Rattle.location_acl.specs.declared.footprint.Place.{Place}
use Rattle.metadata_objects.specs.declared.generic.Generic.{Generic}
use Rattle.verdict.specs.Verdict.{unenforceable_rule, location_rule, time_rule, protocol_rule, source_rule, list_rule, first_rule, verdict_of, NoneForbids}
use Rattle.verdict.specs.declared.judging.Verdict.TheVariants.{Allow, Deny}

none_of_two : {A : Type 0} (a b : Option A) → option_or a b ≡ None → (a ≡ None) × (b ≡ None)
none_of_two None b is = (refl, is)
none_of_two (Some x) b is = absurd (cc)

allow_none : (found : Option Rule) → option_map_or Deny found Allow ≡ Allow → found ≡ None
allow_none None is = refl
allow_none (Some rule) is = absurd (cc)

parts : (objects : List Generic) (spoken : Protocol) (place : Place) (moment : ℕ) → first_rule objects spoken place moment ≡ None → NoneForbids objects spoken place moment
unfolding first_rule
parts objects spoken place moment is =
    let a = none_of_two (unenforceable_rule objects) _ is in
    let b = none_of_two (list_rule objects spoken place moment) (source_rule objects) a.1 in
    let c = none_of_two (location_rule objects place) _ b.0 in
    let d = none_of_two (time_rule objects moment) (protocol_rule objects spoken) c.1 in
    record { enforceable = a.0; location = c.0; time = d.0; protocol = d.1; source = b.1 }

whole : (objects : List Generic) (spoken : Protocol) (place : Place) (moment : ℕ) → NoneForbids objects spoken place moment → first_rule objects spoken place moment ≡ None
unfolding first_rule
whole objects spoken place moment none = rw (none.enforceable, none.location, none.time, none.protocol, none.source) refl

pub allowed_exactly : (objects : List Generic) (spoken : Protocol) (place : Place) (moment : ℕ) → (verdict_of objects spoken place moment ≡ Allow) ↔ NoneForbids objects spoken place moment
allowed_exactly objects spoken place moment = (
  λ is. parts objects spoken place moment (allow_none (first_rule objects spoken place moment) is),
  λ none. ap (λ found. option_map_or Deny found Allow) (whole objects spoken place moment none),
)
