use Rattle.std.proofs.Common.{None, refl, sym, ◌∙◌}
use Rattle.history.specs.Event.{event_of}
use Rattle.session_base.proofs.DoingLemmas.{made_none, made_one}
use Rattle.control_request.specs.Control.{IsOnce, NoRoom, Replied}
use Rattle.control_request.proofs.ControlLemmas.{controlled}
use Rattle.control_request.proofs.control.answer_call.Goals as goal

pub returns-in-Ok-clause-does : goal.returns-in-Ok-clause-does
returns-in-Ok-clause-does g c =
    controlled (IsOnce (event_of c.args.call)) c.args.settings.now c.args.manner.now _ _ _ None None _ _ c.answer_reply-told.result.sent _ (Replied (event_of c.args.call) c.in-Ok.reply c.answer_reply-told.result.short) c.next_of.result
    refl c.answer_reply-told.ensures.says (λ answer is. is) (made_one _ _ _ _ _ c.in-Ok.ensures.seen) c.next_of.ensures

pub returns-in-Err-clause-does : goal.returns-in-Err-clause-does
returns-in-Err-clause-does g c =
    controlled (IsOnce (event_of c.args.call)) c.args.settings.now c.args.manner.now _ _ _ None None _ _ c.refuse-sent.result _ NoRoom c.next_of-in-Err.result
    tt c.refuse-sent.ensures.says (λ answer is. is) (made_none _ _ _ c.in-Err.ensures.seen) c.next_of-in-Err.ensures
