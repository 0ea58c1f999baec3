use Rattle.std.proofs.Common.{◌≡◌, sym, refl, ◌∙◌}
use Rattle.std.proofs.lemmas.Bool.{both_ways}
use Rattle.history.specs.Event.{event_of}
use Rattle.session_base.proofs.DoingLemmas.{makes_none}
use Rattle.control_request.specs.Control.{IsOnce, IsRead, uncalled}
use Rattle.control_request.proofs.ControlLemmas.{asked_as, for_all, made_ok, once_read, reads, uncalled_right, uncalled_with}
use Rattle.control_request.proofs.control.serve_control.Goals as goal

pub returns-in-Some-clause-does : goal.returns-in-Some-clause-does
returns-in-Some-clause-does g c =
    let settings = c.args.settings.now in
    let manner = c.args.manner.now in
    let which = c.control_ask-which.result in
    reads settings c.args.asked.now c.args.body.now manner which _ _ _ _ _ _ _ _ _ _ c.answer_call.result (asked_as c.args.asked.now.method _ c.args.asked.now.target.path _ which c.bytes.ensures c.bytes-2.ensures c.control_ask-which.ensures.asked) (λ same. both_ways _ refl (c.if-is_command.ensures.1 same))
    (for_all (IsOnce (event_of c.in-Some.call)) (IsRead settings which manner.moment) (once_read settings which manner.moment (event_of c.in-Some.call) (sym c.in-Some.ensures)) settings manner _ _ _ _ _ _ _ c.answer_call.result c.answer_call.ensures.does)

pub returns-in-None-clause-does : goal.returns-in-None-clause-does
returns-in-None-clause-does g c =
    let settings = c.args.settings.now in
    let manner = c.args.manner.now in
    let which = c.control_ask-which.result in
    reads settings c.args.asked.now c.args.body.now manner which _ _ _ _ _ _ _ _ _ _ c.next_of.result (asked_as c.args.asked.now.method _ c.args.asked.now.target.path _ which c.bytes.ensures c.bytes-2.ensures c.control_ask-which.ensures.asked) (λ same. both_ways _ refl (c.if-is_command.ensures.1 same))
    (uncalled_with (IsRead settings which manner.moment) settings manner _ _ _ _ _ _ c.answer_with-told.result.sent c.ok-answer.result c.answer_with-told.result.short c.next_of.result tt
    (uncalled_right settings which manner.moment c.ok-answer.result (sym c.in-None.ensures) (made_ok (λ answer. answer ≡ uncalled settings which) c.uncalled.result c.ok-answer.result c.ok-answer.ensures.value c.uncalled.ensures.answer))
    (makes_none (g.H.Home.who c.args.home.now) _ _) c.answer_with-told.ensures.says c.answer_with-told.ensures.short c.next_of.ensures)
