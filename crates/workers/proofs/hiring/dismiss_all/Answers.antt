use Rattle.std.proofs.Common.{arith}
use Rattle.doors.specs.Outside.{tells_of}
use Rattle.workers.proofs.HiringLemmas.{given_all, given_init, given_next}
use Rattle.workers.proofs.hiring.dismiss_all.Goals as goal

pub jobs-init : goal.jobs-init
jobs-init g c = record {
  can = tt;
  finite = tt;
  so_far = given_init (λ job. (tells_of g.O.D.Door.book g.O.D.Door.faults g.O.G.Gate.exchanges g.O.C.Clock.given) job.worker) _ _ _ _ c.into_iter-job-iterator.ensures.into_iter_gives.0;
  later = omega arith;
}

pub jobs-preserved : goal.jobs-preserved
jobs-preserved g c = record {
  can = tt;
  finite = tt;
  so_far = given_next (λ job. (tells_of g.O.D.Door.book g.O.D.Door.faults g.O.G.Gate.exchanges g.O.C.Clock.given) job.worker) _ _ _ _ _ _ _ _ _ _ c.in-Some.ensures.steps.0 c.jobs.invariant.so_far c.give_back.ensures.diary c.give_back.ensures.returned;
  later = omega (arith, c.jobs.invariant.later, c.give_back.ensures.later);
}

pub returns-clause-diary : goal.returns-clause-diary
returns-clause-diary g c = (given_all (λ job. (tells_of g.O.D.Door.book g.O.D.Door.faults g.O.G.Gate.exchanges g.O.C.Clock.given) job.worker) _ _ _ _ _ _ _ c.jobs.job-iterator.rest.ok.0 c.in-None.ensures.steps.0 c.jobs.invariant.so_far).0

pub returns-clause-returned : goal.returns-clause-returned
returns-clause-returned g c = (given_all (λ job. (tells_of g.O.D.Door.book g.O.D.Door.faults g.O.G.Gate.exchanges g.O.C.Clock.given) job.worker) _ _ _ _ _ _ _ c.jobs.job-iterator.rest.ok.0 c.in-None.ensures.steps.0 c.jobs.invariant.so_far).1

pub returns-clause-later : goal.returns-clause-later
returns-clause-later g c = c.jobs.invariant.later
