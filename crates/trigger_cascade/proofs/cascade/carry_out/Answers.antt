use Rattle.std.proofs.Common.{◌≡◌, ap, subst, sym, None, refl}
use Rattle.cdni_base.specs.declared.provider.ProviderId.{ProviderId}
use Rattle.trigger_cascade.specs.Cascade.{Told}
use Rattle.trigger_cascade.specs.OrderParts.{OrderParts}
use Rattle.trigger_cascade.specs.Task.{IsRead}
use Rattle.trigger_cascade.specs.declared.task.Task.TheVariants.{PassOn}
use Rattle.trigger_cascade.proofs.CascadeLemmas.{linked, passed_input, read_well}
use Rattle.trigger_cascade.proofs.cascade.carry_out.Goals as goal

pub returns-in-Task-PassOn-clause-ends : goal.returns-in-Task-PassOn-clause-ends
returns-in-Task-PassOn-clause-ends g c =
    let own : c.order.inside.own ≡ c.args.order.own = ap (λ (o : OrderParts). o.own) c.order.view_is in
    let read : IsRead c.args.order.own (g.S.Source.left c.args.input.now) (g.S.Source.left c.read_task.new.input) (PassOn c.in-Task-PassOn.path c.in-Task-PassOn.spec) =
    subst (λ (id : ProviderId). IsRead id (g.S.Source.left c.args.input.now) (g.S.Source.left c.read_task.new.input) (PassOn c.in-Task-PassOn.path c.in-Task-PassOn.spec)) own (rw c.in-Task-PassOn.field-0-is at c.in-Task-PassOn.ensures.task) in
    passed_input c.args.order _ _ c.in-Task-PassOn.path c.in-Task-PassOn.spec c.pass_and_report.result read (c.pass_and_report.ensures.passes (g.S.Source.left c.args.input.now) (g.S.Source.left c.read_task.new.input))

pub returns-in-Task-PassOn-clause-read : goal.returns-in-Task-PassOn-clause-read
returns-in-Task-PassOn-clause-read g c =
    let cause = c.in-Task-PassOn.ensures.cause in
    let before : Told = record { left = None; held = g.K.Sink.held c.args.output.now; link = linked (g.L.Link.calls c.args.link.now) (g.L.Link.faults c.args.link.now) } in
    let after : Told = record { left = None; held = g.K.Sink.held c.pass_and_report.new.output; link = linked (g.L.Link.calls c.pass_and_report.new.link) (g.L.Link.faults c.pass_and_report.new.link) } in
    read_well c.args.order before after c.in-Task-PassOn.path c.in-Task-PassOn.spec c.pass_and_report.result _ _ (c.pass_and_report.ensures.passes None None) cause.later
    (cause.answered (λ is. absurd (cc)))
