use Rattle.std.proofs.Common.{◌≡◌, List, map, sym, ◌∙◌, subst, IfOk, OnErr, ◌++◌}
use Rattle.trigger_cascade.specs.Cascade.{passed_text, IsCut, IsJoined}
use Rattle.trigger_cascade.specs.Cdn.{AreWaiting}
use Rattle.trigger_cascade.specs.OrderParts.{OrderParts}
use Rattle.trigger_cascade.specs.Passing.{started}
use Rattle.trigger_cascade.specs.Report.{report}
use Rattle.trigger_cascade.specs.declared.cdn.Cdn.{Cdn}
use Rattle.trigger_cascade.proofs.CascadeLemmas.{cut_first, cut_of, joined_of, linked, on_err, written_back}
use Rattle.trigger_cascade.proofs.cascade.joined.Goals as goal

pub returns-in_err-body-clause-cut : goal.returns-in_err-body-clause-cut
returns-in_err-body-clause-cut g c = on_err c.from_residual.result (cut_first c.args.order c.args.path c.args.spec.now (g.L.Link.calls c.args.link.now) (g.L.Link.faults c.args.link.now))

pub returns-clause-cut : goal.returns-clause-cut
returns-clause-cut g c =
    let order : OrderParts = record { own = c.order.inside.own; rounds = c.order.inside.rounds; cdns = c.order.inside.cdns.items } in
    let waits : AreWaiting order.cdns = subst (λ (o : OrderParts). AreWaiting o.cdns) (sym c.order.view_is) c.requires in
    let begun : c.deref_mut-2.result.now ≡ map (started c.args.path) order.cdns = written_back c.order.inside.cdns.len order.cdns c.deref_mut.result.now c.skip_named.new.cdns c.deref_mut-2.result.now c.args.path (sym c.order.inside.cdns.ok.0) c.deref_mut.ensures.value (rw c.as_slice.ensures at c.skip_named.ensures) c.deref_mut-2.ensures.value in
    subst (λ (o : OrderParts). OnErr c.run.result (IsCut o c.args.path c.args.spec.now (linked (g.L.Link.calls c.args.link.now) (g.L.Link.faults c.args.link.now)) (linked (g.L.Link.calls c.run.new.link) (g.L.Link.faults c.run.new.link)))) c.order.view_is
    (cut_of order c.args.path c.args.spec.now waits _ _ c.bytes.result.now c.deref_mut-2.result.now (c.bytes.ensures ∙ c.in_ok-body.ensures) begun c.run.result c.run.ensures.cut)

pub returns-clause-joined : goal.returns-clause-joined
returns-clause-joined g c =
    let order : OrderParts = record { own = c.order.inside.own; rounds = c.order.inside.rounds; cdns = c.order.inside.cdns.items } in
    let waits : AreWaiting order.cdns = subst (λ (o : OrderParts). AreWaiting o.cdns) (sym c.order.view_is) c.requires in
    let begun : c.deref_mut-2.result.now ≡ map (started c.args.path) order.cdns = written_back c.order.inside.cdns.len order.cdns c.deref_mut.result.now c.skip_named.new.cdns c.deref_mut-2.result.now c.args.path (sym c.order.inside.cdns.ok.0) c.deref_mut.ensures.value (rw c.as_slice.ensures at c.skip_named.ensures) c.deref_mut-2.ensures.value in
    subst (λ (o : OrderParts). IfOk c.run.result (λ text. (last : List Cdn) × IsJoined o c.args.path c.args.spec.now (linked (g.L.Link.calls c.args.link.now) (g.L.Link.faults c.args.link.now)) (linked (g.L.Link.calls c.run.new.link) (g.L.Link.faults c.run.new.link)) last × (text.items ≡ report last))) c.order.view_is
    (joined_of (λ text. text.items) order c.args.path c.args.spec.now waits _ _ c.bytes.result.now c.deref_mut-2.result.now (c.bytes.ensures ∙ c.in_ok-body.ensures) begun c.run.result c.run.ensures.ran)
