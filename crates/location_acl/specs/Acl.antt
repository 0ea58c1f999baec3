-- When a list of places allows a delivery (RFC 8006, section 4.2.2).
use Rattle.std.specs.Prelude.{ℕ, Bool, List}
use Rattle.std.specs.List.{list_any}
use Rattle.std.specs.declared.option.Option.{Option}
use Rattle.listing.specs.FirstMatch.{first_match}
use Rattle.location_acl.specs.declared.acl.LocationRule.{LocationRule}
use Rattle.location_acl.specs.declared.footprint.Place.{Place}
use Rattle.location_acl.specs.Footprint.{holds_place}

-- one of the rule's footprints holds the place
abbrev pub rule_holds : Place → LocationRule → Bool
rule_holds place rule = list_any (holds_place place) rule.footprints

-- the first rule that holds the place decides
abbrev pub location_decision : Option (List LocationRule) → Place → Bool × Option ℕ
location_decision rules place = first_match (rule_holds place) (λ rule. rule.allow) rules
