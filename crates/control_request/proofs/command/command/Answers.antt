use Rattle.std.proofs.Common.{◌≡◌, ◌≢◌, sym, refl, ◌∙◌}
use Rattle.std.proofs.lemmas.Bool.{both_ways}
use Rattle.session_base.proofs.DoingLemmas.{makes_none}
use Rattle.control_request.specs.Answer.{refused}
use Rattle.control_request.specs.Control.{IsRefused, NoRoom}
use Rattle.trigger_command.specs.declared.fault.CommandFault.TheVariants as fault
use Rattle.control_request.proofs.ControlLemmas.{commands_first, controlled, made_ok, not_memory, refused_right, uncalled_with}
use Rattle.control_request.proofs.command.command.Goals as goal

pub returns-in-Err-clause-does : goal.returns-in-Err-clause-does
returns-in-Err-clause-does g c =
    let settings = c.args.settings.now in
    let body = c.args.body.now in
    commands_first settings body c.args.manner.now _ _ _ _ _ _ _ _ _ _ c.next_of.result
    (controlled (IsRefused settings body) settings c.args.manner.now _ _ _ _ _ _ _ c.refuse-sent.result _ NoRoom c.next_of.result tt c.refuse-sent.ensures.says (λ answer is. is) (makes_none (g.H.Home.who c.args.home.now) _ _) c.next_of.ensures)

pub returns-in-Err-2-clause-does : goal.returns-in-Err-2-clause-does
returns-in-Err-2-clause-does g c =
    let settings = c.args.settings.now in
    let body = c.args.body.now in
    let manner = c.args.manner.now in
    let wrong = c.in-Err.fault in
    let other : wrong ≢ fault.Memory = λ same. both_ways _ refl (c.if-is_memory.ensures.1 same) in
    commands_first settings body manner _ _ _ _ _ _ _ _ _ _ c.next_of-in-Err-2.result
    (uncalled_with (IsRefused settings body) settings manner _ _ _ _ _ _ c.answer_with-told.result.sent c.ok-answer.result c.answer_with-told.result.short c.next_of-in-Err-2.result tt
    (refused_right settings body wrong c.ok-answer.result other (not_memory wrong _ other c.in-Err.ensures) (made_ok (λ answer. answer ≡ refused wrong) c.refused.result c.ok-answer.result c.ok-answer.ensures.value c.refused.ensures.answer))
    (makes_none (g.H.Home.who c.args.home.now) _ _) c.answer_with-told.ensures.says c.answer_with-told.ensures.short c.next_of-in-Err-2.ensures)
