use Rattle.std.proofs.Common.{◌∙◌, arith}
use Rattle.doors.specs.Outside.{tells_of}
use Rattle.workers.specs.Job.{post_of}
use Rattle.workers.proofs.FinishingLemmas.{cell_next, kept_next, so_ends, so_init, so_next}
use Rattle.workers.proofs.finishing.finish.Goals as goal

pub jobs-init : goal.jobs-init
jobs-init g c = record {
  can = tt;
  finite = tt;
  cell = rw c.into_iter-job-iterator.ensures.into_iter_gives.0 c.requires.cell;
  kept = tt;
  so_far = λ crew shifts done. so_init (post_of {J = g.row.J.Denot} (tells_of g.O.D.Door.book g.O.D.Door.faults g.O.G.Gate.exchanges g.O.C.Clock.given)) _ _ g.J.MadeWith.made crew shifts _ _ _ _ _ c.into_iter-job-iterator.ensures.into_iter_gives.0 done;
  later = omega arith;
}

pub end_job-status-requires-clause-cell : goal.end_job-status-requires-clause-cell
end_job-status-requires-clause-cell g c κs within = (cell_next (post_of {J = g.row.J.Denot} (tells_of g.O.D.Door.book g.O.D.Door.faults g.O.G.Gate.exchanges g.O.C.Clock.given)) _ _ _ _ _ c.in-Some.ensures.steps.0 c.jobs.invariant.cell).0

pub end_job-status-requires-clause-kept : goal.end_job-status-requires-clause-kept
end_job-status-requires-clause-kept g c κs within = c.jobs.invariant.kept

pub jobs-preserved : goal.jobs-preserved
jobs-preserved g c =
    let cell = cell_next (post_of {J = g.row.J.Denot} (tells_of g.O.D.Door.book g.O.D.Door.faults g.O.G.Gate.exchanges g.O.C.Clock.given)) _ _ _ _ _ c.in-Some.ensures.steps.0 c.jobs.invariant.cell in
    record {
      can = tt;
      finite = tt;
      cell = cell.1;
      kept = kept_next _ _ c.in-Some.job.home _ _ c.end_job-status.ensures.kept cell.0.0 cell.0.1;
      so_far = λ crew shifts done. so_next (post_of {J = g.row.J.Denot} (tells_of g.O.D.Door.book g.O.D.Door.faults g.O.G.Gate.exchanges g.O.C.Clock.given)) _ _ g.J.MadeWith.made crew shifts _ _ _ _ _ _ _ _ _ _ _ _ _ _ _ _ c.in-Some.ensures.steps.0 (c.jobs.invariant.so_far crew shifts done) c.end_job-status.ensures.kept c.end_job-status.ensures.diary c.end_job-status.ensures.returned
          c.jobs.invariant.later c.end_job-status.ensures.later c.end_job-status.ensures.cause c.end_job-status.ensures.status;
      later = omega (arith, c.jobs.invariant.later, c.end_job-status.ensures.later);
    }

pub returns-clause-finished : goal.returns-clause-finished
returns-clause-finished g c = λ crew shifts done. so_ends (post_of {J = g.row.J.Denot} (tells_of g.O.D.Door.book g.O.D.Door.faults g.O.G.Gate.exchanges g.O.C.Clock.given)) _ _ g.J.MadeWith.made crew shifts _ _ _ _ _ _ _ _ _ _ c.jobs.job-iterator.rest.ok.0 c.in-None.ensures.steps.0 (c.jobs.invariant.so_far crew shifts done)

pub returns-clause-later : goal.returns-clause-later
returns-clause-later g c = c.jobs.invariant.later
