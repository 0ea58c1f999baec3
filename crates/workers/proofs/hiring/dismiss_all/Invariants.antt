use Rattle.std.proofs.Common.{◌≡◌, ◌≤◌, map, List}
use Rattle.doors.specs.Outside.{tells_of}
use Rattle.workers.proofs.HiringLemmas.{GivenBack}
use Rattle.workers.proofs.hiring.dismiss_all.Given as goal

abbrev pub invariant-jobs : goal.invariant-jobs
invariant-jobs g l = record {
  can : (goal.iterator-jobs g).can_next l.job-iterator;
  finite : (goal.iterator-jobs g).is_finite l.job-iterator;
  so_far : GivenBack (map (λ job. (tells_of g.O.D.Door.book g.O.D.Door.faults g.O.G.Gate.exchanges g.O.C.Clock.given) job.worker) l.fn.jobs.items) (map (λ job. (tells_of g.O.D.Door.book g.O.D.Door.faults g.O.G.Gate.exchanges g.O.C.Clock.given) job.worker) l.job-iterator.rest.items) (g.O.Outside.diary l.initial.outside) (g.O.Outside.diary l.outside) (g.O.Outside.returned l.initial.outside) (g.O.Outside.returned l.outside);
  later : g.O.Outside.faults l.initial.outside ≤ g.O.Outside.faults l.outside;
}
