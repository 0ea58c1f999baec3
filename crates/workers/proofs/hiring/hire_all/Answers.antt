use Rattle.std.proofs.Common.{◌∙◌, arith, refl}
use Rattle.doors.specs.Outside.{tells_of}
use Rattle.turn_cell.specs.Cell.{passes_of}
use Rattle.workers.specs.Job.{post_of}
use Rattle.workers.proofs.HiringLemmas.{hired_all, hired_fewer, hired_init, hired_next, hired_refused, next_pass}
use Rattle.workers.proofs.hiring.hire_all.Goals as goal

pub passes-init : goal.passes-init
passes-init g c = record {
  can = tt;
  finite = tt;
  so_far = hired_init (post_of (tells_of g.O.D.Door.book g.O.D.Door.faults g.O.G.Gate.exchanges g.O.C.Clock.given)) _ _ c.args.jobs.now.items c.args.passes _ _ _ c.requires.none c.into_iter-pass-iterator.ensures.into_iter_gives.0 c.into_vec-pass-items.ensures c.requires.passes;
  same = refl;
  later = omega arith;
}

pub hire-requires-clause-pass : goal.hire-requires-clause-pass
hire-requires-clause-pass g c κs within = next_pass (post_of (tells_of g.O.D.Door.book g.O.D.Door.faults g.O.G.Gate.exchanges g.O.C.Clock.given)) _ _ c.passes.jobs.items _ _ _ _ _ _ c.in-Some.ensures.steps.0 c.passes.invariant.so_far

pub passes-preserved : goal.passes-preserved
passes-preserved g c = record {
  can = tt;
  finite = tt;
  so_far = hired_next (post_of (tells_of g.O.D.Door.book g.O.D.Door.faults g.O.G.Gate.exchanges g.O.C.Clock.given)) _ _ c.passes.jobs.items c.hire.new.jobs.items _ _ _ _ _ _ _ c.in-Some.ensures.steps.0 c.passes.invariant.so_far c.in-Ok.ensures.hired c.in-Ok.ensures.diary;
  same = c.in-Ok.ensures.returned ∙ c.passes.invariant.same;
  later = omega (arith, c.passes.invariant.later, c.in-Ok.ensures.later);
}
