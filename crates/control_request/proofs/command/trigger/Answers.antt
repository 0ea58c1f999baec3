use Rattle.std.proofs.Common.{None, ap, refl, false, true, sym, inl, ◌∙◌}
use Rattle.history.specs.Event.{Command}
use Rattle.history.specs.declared.reply.Reply.TheVariants as reply
use Rattle.session_base.proofs.DoingLemmas.{made_none}
use Rattle.control_request.specs.Control.{NoRoom, Replied, next_behind}
use Rattle.trigger_command.specs.declared.command.Act.TheVariants as act
use Rattle.control_request.proofs.ControlLemmas.{acted, command_made, text_created, triggered, write_fault}
use Rattle.control_request.proofs.command.trigger.Goals as goal

pub advance_all-last-requires-clause-answered : goal.advance_all-last-requires-clause-answered
advance_all-last-requires-clause-answered g c κs within =
    let made = c.in-Ok-Created in
    let spec = c.args.spec in
    record {
      spec = spec;
      short = c.tell_created-told.result.short;
      before = _;
      earlier = _;
      sent = c.tell_created-told.result.sent;
      says = c.tell_created-told.ensures.says spec (text_created c.resource_of-text.result.0 made.id spec c.args.manner.now.moment c.resource_of-text.ensures.text);
      cause = c.tell_created-told.ensures.cause;
    }

pub returns-in-Ok-Created-clause-does : goal.returns-in-Ok-Created-clause-does
returns-in-Ok-Created-clause-does g c =
    let made = c.in-Ok-Created in
    let spec = c.args.spec in
    let moment = c.args.manner.now.moment in
    triggered c.args.settings.now spec c.args.manner.now _ _ _ _ _ _ _ _ _ _ _ _ made.id c.tell_created-told.result.sent c.tell_created-told.result.short c.advance_all-last.result c.next_behind.result
    (c.tell_created-told.ensures.says spec (text_created c.resource_of-text.result.0 made.id spec moment c.resource_of-text.ensures.text))
    (command_made _ _ _ spec _ moment _ _ made.field-0-is c.resource_of-text.ensures.spec made.ensures.seen) _ c.call.ensures.who c.advance_all-last.ensures.does
    (c.next_behind.ensures ∙ ap (next_behind c.advance_all-last.result) c.next_of.ensures)

pub returns-in-Ok-Full-clause-does : goal.returns-in-Ok-Full-clause-does
returns-in-Ok-Full-clause-does g c =
    let spec = c.args.spec in
    let moment = c.args.manner.now.moment in
    acted c.args.settings.now (act.Trigger spec) c.args.manner.now _ _ _ _ _ _ _ _ c.turn_away-sent.result _ (Replied (Command spec moment) (reply.Full c.in-Ok-Full.count) false) c.next_of-in-Ok-Full.result
    (refl, c.in-Ok-Full.count, refl) c.turn_away-sent.ensures.says (λ answer is. is) (command_made _ _ _ spec _ moment _ _ c.in-Ok-Full.field-0-is c.resource_of-text.ensures.spec c.in-Ok-Full.ensures.seen) c.next_of-in-Ok-Full.ensures

pub returns-in-Ok-Full-clause-write : goal.returns-in-Ok-Full-clause-write
returns-in-Ok-Full-clause-write g c = λ stops. c.turn_away-sent.ensures.cause.failed (write_fault c.args.manner.now.leaves false c.turn_away-sent.result.fault (sym c.next_of-in-Ok-Full.ensures ∙ stops))

pub returns-in-Err-clause-does : goal.returns-in-Err-clause-does
returns-in-Err-clause-does g c =
    acted c.args.settings.now (act.Trigger c.args.spec) c.args.manner.now _ _ _ _ _ _ _ _ c.refuse-sent.result _ NoRoom c.next_of-in-Err.result tt c.refuse-sent.ensures.says (λ answer is. is) (made_none _ _ _ c.in-Err.ensures.seen) c.next_of-in-Err.ensures
