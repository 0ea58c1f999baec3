use Rattle.std.proofs.Common.{◌+◌, ◌<◌, ◌≤◌, ◌++◌, arith}
use Rattle.std.proofs.lemmas.Result.{err_from_is_err_and}
use Rattle.trigger_cascade.proofs.PassingLemmas.{all_rounds, counts_on, grows_on, next_round, stop_first, stop_round}
use Rattle.trigger_cascade.proofs.passing.pass_on.Goals as goal

pub returns-in_err-visit_each-clause-passes : goal.returns-in_err-visit_each-clause-passes
returns-in_err-visit_each-clause-passes g c =
    let one = c.in_err-visit_each.ensures.visits in
    let p = err_from_is_err_and c.from_residual.result c.from_residual.ensures.1 in
    rw p.1 (one.0, one.1, stop_first c.args.body.now c.args.rounds c.args.cdns.now one.0 one.2)

pub returns-in_err-visit_each-2-clause-passes : goal.returns-in_err-visit_each-2-clause-passes
returns-in_err-visit_each-2-clause-passes g c =
    let so = c.rounds.invariant.0 in
    let one = c.in_err-visit_each-2.ensures.visits in
    let below : c.rounds._round < c.args.rounds = omega (arith, c.rounds-test.true, c.rounds.auto._round-end) in
    let p = err_from_is_err_and c.from_residual-in_err-visit_each-2.result c.from_residual-in_err-visit_each-2.ensures.1 in
    rw p.1 (
      so.0 ++ one.0,
      grows_on _ _ _ so.0 one.0 so.1 one.1,
      stop_round c.args.body.now (c.args.rounds + 1) c.args.cdns.now so.0 c.rounds.cdns c.args.rounds c.rounds._round below one.0 one.2 so.2,
    )

pub rounds-preserved : goal.rounds-preserved
rounds-preserved g c =
    let so = c.rounds.invariant.0 in
    let one = c.in_ok-visit_each-2.ensures.visits in
    let below : c.rounds._round < c.args.rounds = omega (arith, c.rounds-test.true, c.rounds.auto._round-end) in (
      (
        so.0 ++ one.0,
        grows_on _ _ _ so.0 one.0 so.1 one.1,
        next_round c.args.body.now (c.args.rounds + 1) c.args.cdns.now so.0 c.rounds.cdns c.args.rounds c.rounds._round below c.visit_each-in-rounds.new.cdns one.0 one.2 so.2,
      ),
      counts_on (g.L.Link.faults c.args.link.now) (g.L.Link.faults c.rounds.link) (g.L.Link.faults c.visit_each-in-rounds.new.link) c.args.cdns.now c.rounds.cdns c.visit_each-in-rounds.new.cdns c.rounds.invariant.1 c.in_ok-visit_each-2.ensures.faults,
    )

pub returns-clause-passes : goal.returns-clause-passes
returns-clause-passes g c =
    let so = c.rounds.invariant.0 in
    let over : c.args.rounds ≤ c.rounds._round = omega (arith, c.rounds-test.false, c.rounds.auto._round-end) in
    (so.0, so.1, all_rounds c.args.body.now (c.args.rounds + 1) c.args.cdns.now so.0 c.rounds.cdns c.args.rounds c.rounds._round over so.2)
