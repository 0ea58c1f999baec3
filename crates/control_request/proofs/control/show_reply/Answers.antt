use Rattle.std.proofs.Common.{◌≡◌, sym, ◌∙◌}
use Rattle.control_request.specs.Answer.{answer_to}
use Rattle.control_request.proofs.ControlLemmas.{full_replied, made_ok, other_replied}
use Rattle.control_request.proofs.control.show_reply.Goals as goal

pub returns-in-Some-clause-says : goal.returns-in-Some-clause-says
returns-in-Some-clause-says g c = full_replied c.args.settings.now c.args.manner.now c.args.reply.now c.in-Some.count _ _ c.turn_away-sent.result (sym c.in-Some.ensures) c.turn_away-sent.ensures.says

pub returns-in-None-clause-says : goal.returns-in-None-clause-says
returns-in-None-clause-says g c =
    other_replied c.args.settings.now c.args.manner.now c.args.reply.now c.ok-answer.result c.answer_with.result.short _ _ c.answer_with.result.sent (sym c.in-None.ensures)
    (made_ok (λ answer. answer ≡ answer_to c.args.settings.now c.args.reply.now) c.answer_to.result c.ok-answer.result c.ok-answer.ensures.value c.answer_to.ensures.answer) c.answer_with.ensures.short c.answer_with.ensures.says
