use Rattle.std.proofs.Common.{◌≡◌, Some, sym, ◌∙◌, ap}
use Rattle.std.specs.Option.{option_map, option_and_then}
use Rattle.cdni_base.specs.declared.rule.Rule.TheVariants as rule
use Rattle.protocol_acl.specs.Acl.{protocol_decision}
use Rattle.inheritance.specs.Held.{protocol_of}
use Rattle.verdict.specs.Verdict.{protocol_name, denied_by}
use Rattle.verdict.proofs.VerdictLemmas.{none_denied}
use Rattle.verdict.proofs.judging.protocol_rule.Goals as goal

pub returns-then-allowed : goal.returns-then-allowed
returns-then-allowed c =
    let rules = c.in_ok-protocol.field-0.now in
    let name = protocol_name c.args.protocol in
    let found : Some rules ≡ protocol_of c.args.effective.now = sym (ap (option_map (λ held. held.now)) c.in_ok-protocol.was) ∙ c.protocol.ensures in
    none_denied rule.Protocol c.decide-allowed.result (protocol_decision rules name) (c.decide-allowed.ensures.value ∙ ap (protocol_decision rules) c.protocol_name.ensures) c.if-allowed.true
    ∙ ap (option_and_then (λ list. denied_by rule.Protocol (protocol_decision list name))) found
