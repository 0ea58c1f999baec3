use Rattle.std.proofs.Common.{◌∙◌, arith, refl, sym}
use Rattle.doors.proofs.VisitLemmas.{begins, ends_since, goes_on, stops_closed, stops_failed, stops_memory, used_up}
use Rattle.doors.proofs.serve.serve_door.Goals as goal

pub serving-init : goal.serving-init
serving-init g c = record {
  served = c.requires;
  who = refl;
  stays = g.met.H.Home.stays_at _;
  so_far = begins c.args.settings.now c.args.places.now c.args.connections _ _ _ _ _;
  later = omega arith;
}

pub serving-preserved : goal.serving-preserved
serving-preserved g c =
    let next = c.in-Served.ensures in
    record {
      served = next.served;
      who = next.who ∙ c.serving.invariant.who;
      stays = g.met.H.Home.stays_on _ _ _ c.serving.invariant.stays next.stays;
      so_far = goes_on c.args.settings.now c.args.places.now c.args.connections c.serving.left _ _ _ _ _ _ _ _ _ _ _ _ _ _ c.serving.invariant.so_far (c.has_run_out.ensures.no c.if-has_run_out.false) _ c.serving.invariant.who next.visits c.one_less-left.ensures;
      later = omega (arith, c.serving.invariant.later, next.later);
    }

pub returns-then-has_run_out-clause-served : goal.returns-then-has_run_out-clause-served
returns-then-has_run_out-clause-served g c = c.serving.invariant.served

pub returns-then-has_run_out-clause-who : goal.returns-then-has_run_out-clause-who
returns-then-has_run_out-clause-who g c = c.serving.invariant.who

pub returns-then-has_run_out-clause-stays : goal.returns-then-has_run_out-clause-stays
returns-then-has_run_out-clause-stays g c = c.serving.invariant.stays

pub returns-then-has_run_out-clause-visits : goal.returns-then-has_run_out-clause-visits
returns-then-has_run_out-clause-visits g c = used_up c.args.settings.now c.args.places.now c.args.connections c.serving.left _ _ _ _ _ _ _ _ _ c.serving.invariant.so_far (c.has_run_out.ensures.yes c.if-has_run_out.true)

pub returns-then-has_run_out-clause-ended : goal.returns-then-has_run_out-clause-ended
returns-then-has_run_out-clause-ended g c =
    ends_since c.args.settings.now c.args.places.now c.what_visits_open_is_ended.ensures c.args.connections _ _ _ _ _ _ _ _ _ _
    (used_up c.args.settings.now c.args.places.now c.args.connections c.serving.left _ _ _ _ _ _ _ _ _ c.serving.invariant.so_far (c.has_run_out.ensures.yes c.if-has_run_out.true))

pub returns-then-has_run_out-clause-law : goal.returns-then-has_run_out-clause-law
returns-then-has_run_out-clause-law g c = λ h saw at entry answer a. c.every_answer_is_lawful.ensures _ a.before entry.0 entry.1 answer (sym a.answered)

pub returns-then-has_run_out-clause-later : goal.returns-then-has_run_out-clause-later
returns-then-has_run_out-clause-later g c = c.serving.invariant.later

pub returns-in-Closed-clause-served : goal.returns-in-Closed-clause-served
returns-in-Closed-clause-served g c = c.in-Closed.ensures.served

pub returns-in-Closed-clause-who : goal.returns-in-Closed-clause-who
returns-in-Closed-clause-who g c = c.in-Closed.ensures.who ∙ c.serving.invariant.who

pub returns-in-Closed-clause-stays : goal.returns-in-Closed-clause-stays
returns-in-Closed-clause-stays g c = g.met.H.Home.stays_on _ _ _ c.serving.invariant.stays c.in-Closed.ensures.stays

pub returns-in-Closed-clause-visits : goal.returns-in-Closed-clause-visits
returns-in-Closed-clause-visits g c = stops_closed c.args.settings.now c.args.places.now c.args.connections c.serving.left _ _ _ _ _ _ _ _ _ _ _ _ _ c.serving.invariant.so_far (c.has_run_out.ensures.no c.if-has_run_out.false) _ c.serving.invariant.who c.in-Closed.ensures.visits

pub returns-in-Closed-clause-ended : goal.returns-in-Closed-clause-ended
returns-in-Closed-clause-ended g c =
    ends_since c.args.settings.now c.args.places.now c.what_visits_open_is_ended.ensures c.args.connections _ _ _ _ _ _ _ _ _ _
    (stops_closed c.args.settings.now c.args.places.now c.args.connections c.serving.left _ _ _ _ _ _ _ _ _ _ _ _ _ c.serving.invariant.so_far (c.has_run_out.ensures.no c.if-has_run_out.false) _ c.serving.invariant.who c.in-Closed.ensures.visits)

pub returns-in-Closed-clause-law : goal.returns-in-Closed-clause-law
returns-in-Closed-clause-law g c = λ h saw at entry answer a. c.every_answer_is_lawful.ensures _ a.before entry.0 entry.1 answer (sym a.answered)

pub returns-in-Closed-clause-later : goal.returns-in-Closed-clause-later
returns-in-Closed-clause-later g c = omega (arith, c.serving.invariant.later, c.in-Closed.ensures.later)

pub returns-in-Failed-clause-served : goal.returns-in-Failed-clause-served
returns-in-Failed-clause-served g c = c.in-Failed.ensures.served

pub returns-in-Failed-clause-who : goal.returns-in-Failed-clause-who
returns-in-Failed-clause-who g c = c.in-Failed.ensures.who ∙ c.serving.invariant.who

pub returns-in-Failed-clause-stays : goal.returns-in-Failed-clause-stays
returns-in-Failed-clause-stays g c = g.met.H.Home.stays_on _ _ _ c.serving.invariant.stays c.in-Failed.ensures.stays

pub returns-in-Failed-clause-visits : goal.returns-in-Failed-clause-visits
returns-in-Failed-clause-visits g c = stops_failed c.args.settings.now c.args.places.now c.args.connections c.serving.left _ _ _ _ _ _ _ _ _ _ _ _ _ c.serving.invariant.so_far (c.has_run_out.ensures.no c.if-has_run_out.false) _ c.serving.invariant.who c.in-Failed.ensures.visits

pub returns-in-Failed-clause-ended : goal.returns-in-Failed-clause-ended
returns-in-Failed-clause-ended g c =
    ends_since c.args.settings.now c.args.places.now c.what_visits_open_is_ended.ensures c.args.connections _ _ _ _ _ _ _ _ _ _
    (stops_failed c.args.settings.now c.args.places.now c.args.connections c.serving.left _ _ _ _ _ _ _ _ _ _ _ _ _ c.serving.invariant.so_far (c.has_run_out.ensures.no c.if-has_run_out.false) _ c.serving.invariant.who c.in-Failed.ensures.visits)

pub returns-in-Failed-clause-law : goal.returns-in-Failed-clause-law
returns-in-Failed-clause-law g c = λ h saw at entry answer a. c.every_answer_is_lawful.ensures _ a.before entry.0 entry.1 answer (sym a.answered)

pub returns-in-Failed-clause-later : goal.returns-in-Failed-clause-later
returns-in-Failed-clause-later g c = omega (arith, c.serving.invariant.later, c.in-Failed.ensures.later)

pub returns-in-Memory-clause-served : goal.returns-in-Memory-clause-served
returns-in-Memory-clause-served g c = c.in-Memory.ensures.served

pub returns-in-Memory-clause-who : goal.returns-in-Memory-clause-who
returns-in-Memory-clause-who g c = c.in-Memory.ensures.who ∙ c.serving.invariant.who

pub returns-in-Memory-clause-stays : goal.returns-in-Memory-clause-stays
returns-in-Memory-clause-stays g c = g.met.H.Home.stays_on _ _ _ c.serving.invariant.stays c.in-Memory.ensures.stays

pub returns-in-Memory-clause-visits : goal.returns-in-Memory-clause-visits
returns-in-Memory-clause-visits g c = stops_memory c.args.settings.now c.args.places.now c.args.connections c.serving.left _ _ _ _ _ _ _ _ _ _ _ _ _ c.serving.invariant.so_far (c.has_run_out.ensures.no c.if-has_run_out.false) _ c.serving.invariant.who c.in-Memory.ensures.visits

pub returns-in-Memory-clause-ended : goal.returns-in-Memory-clause-ended
returns-in-Memory-clause-ended g c =
    ends_since c.args.settings.now c.args.places.now c.what_visits_open_is_ended.ensures c.args.connections _ _ _ _ _ _ _ _ _ _
    (stops_memory c.args.settings.now c.args.places.now c.args.connections c.serving.left _ _ _ _ _ _ _ _ _ _ _ _ _ c.serving.invariant.so_far (c.has_run_out.ensures.no c.if-has_run_out.false) _ c.serving.invariant.who c.in-Memory.ensures.visits)

pub returns-in-Memory-clause-law : goal.returns-in-Memory-clause-law
returns-in-Memory-clause-law g c = λ h saw at entry answer a. c.every_answer_is_lawful.ensures _ a.before entry.0 entry.1 answer (sym a.answered)

pub returns-in-Memory-clause-later : goal.returns-in-Memory-clause-later
returns-in-Memory-clause-later g c = omega (arith, c.serving.invariant.later, c.in-Memory.ensures.later)

pub returns-in-Failed-clause-failed : goal.returns-in-Failed-clause-failed
returns-in-Failed-clause-failed g c = λ is. omega (arith, c.serving.invariant.later, c.in-Failed.ensures.failed refl)
