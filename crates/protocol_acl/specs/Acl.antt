-- When a list of protocols allows a delivery (RFC 8006, section 4.2.4).
use Rattle.std.specs.Prelude.{ℕ, Bool, List}
use Rattle.std.specs.List.{list_any}
use Rattle.std.specs.Str.{str_eq_ignore_ascii_case}
use Rattle.std.specs.declared.option.Option.{Option}
use Rattle.listing.specs.FirstMatch.{first_match}
use Rattle.protocol_acl.specs.declared.acl.ProtocolRule.{ProtocolRule}

-- one of the rule's names is the protocol, where the case of ASCII letters does not count
abbrev pub names : List ℕ → ProtocolRule → Bool
names protocol rule = list_any (λ name. str_eq_ignore_ascii_case name protocol) rule.protocols

-- the first rule that names the protocol decides
abbrev pub protocol_decision : Option (List ProtocolRule) → List ℕ → Bool × Option ℕ
protocol_decision rules protocol = first_match (names protocol) (λ rule. rule.allow) rules
