use Rattle.std.proofs.Common.{sym, ◌∙◌}
use Rattle.history.specs.Event.{event_of}
use Rattle.replay_script.proofs.ScriptLemmas.{calls_steps, refused_steps, sets_steps}
use Rattle.replay_script.proofs.step.answer_one.Goals as goal

pub returns-in-Limits : goal.returns-in-Limits
returns-in-Limits c =
    let reads = rw c.in-Limits.is at c.in-Ok.ensures.value in
    sets_steps c.args.node.now c.set_limits.new.node c.args.first c.args.at c.args.line.now (sym c.if-not-is_in_limits.false ∙ c.is_in_limits.ensures) c.in-Limits.limits c.set_limits.result _ c.empty.ensures reads c.set_limits.ensures

pub returns-in-Call : goal.returns-in-Call
returns-in-Call c =
    let reads = rw c.in-Call.is at c.in-Ok.ensures.value in
    let answered = rw c.as_ref.ensures.value at c.answer_call.ensures in
    calls_steps c.args.node.now c.answer_call.new.node c.args.first c.args.at c.args.line.now (sym c.if-not-is_in_limits.false ∙ c.is_in_limits.ensures) (c.in-Call.pass, record { event = event_of c.in-Call.call; note = c.in-Call.note }) c.empty.new.answer.items c.answer_call.new.answer.items c.answer_call.result c.empty.ensures reads answered

pub refuse-requires : goal.refuse-requires
refuse-requires c = rw c.in-Refused.is at c.in-Ok.ensures.no_memory

pub returns-in-Refused : goal.returns-in-Refused
returns-in-Refused c =
    let reads = rw c.in-Refused.is at c.in-Ok.ensures.value in
    refused_steps c.args.node.now c.args.first c.args.at c.args.line.now (sym c.if-not-is_in_limits.false ∙ c.is_in_limits.ensures) c.in-Refused.fault c.empty.new.answer.items c.refuse.new.answer.items c.refuse.result c.empty.ensures reads c.refuse.ensures
