use Rattle.std.proofs.Common.{◌<◌, ◌++◌, length, arith}
use Rattle.std.proofs.lemmas.Result.{err_from_is_err_and}
use Rattle.trigger_cascade.proofs.PassingLemmas.{end_at, grows_on, rises_on, step_here, stop_here}
use Rattle.trigger_cascade.proofs.passing.visit_each.Goals as goal

pub returns-in_err-visit-clause-visits : goal.returns-in_err-visit-clause-visits
returns-in_err-visit-clause-visits g c =
    let so = c.cdns.invariant.0 in
    let one = c.in_err-visit.ensures.visited in
    let below : c.cdns.i < length c.cdns.cdns = omega (arith, c.cdns-test.true, c.cdns.auto.cdns) in
    let p = err_from_is_err_and c.from_residual.result c.from_residual.ensures.1 in
    rw p.1 (
      so.0 ++ one.0,
      grows_on _ _ _ so.0 one.0 so.1 one.1,
      stop_here c.args.body.now c.args.cdns.now so.0 c.cdns.cdns c.cdns.i c.index-cdns-i.result below one.0 one.2 so.2,
    )

pub cdns-preserved : goal.cdns-preserved
cdns-preserved g c =
    let so = c.cdns.invariant.0 in
    let one = c.in_ok-visit.ensures.visited in
    let below : c.cdns.i < length c.cdns.cdns = omega (arith, c.cdns-test.true, c.cdns.auto.cdns) in (
      (
        so.0 ++ one.0,
        grows_on _ _ _ so.0 one.0 so.1 one.1,
        step_here c.args.body.now c.args.cdns.now so.0 c.cdns.cdns c.cdns.i c.index-cdns-i.result below c.visit.new.cdn one.0 one.2 c.in_ok-visit.ensures.others so.2,
      ),
      rises_on (g.L.Link.faults c.args.link.now) (g.L.Link.faults c.cdns.link) (g.L.Link.faults c.visit.new.link) c.args.cdns.now c.cdns.cdns c.cdns.i c.index-cdns-i.result c.visit.new.cdn below c.cdns.invariant.1 c.in_ok-visit.ensures.faults,
    )

pub returns-clause-visits : goal.returns-clause-visits
returns-clause-visits g c =
    let so = c.cdns.invariant.0 in
    (so.0, so.1, end_at c.args.body.now c.args.cdns.now so.0 c.cdns.cdns c.cdns.i (omega (arith, c.cdns-test.false, c.cdns.auto.i-end, c.cdns.auto.cdns)) so.2)
