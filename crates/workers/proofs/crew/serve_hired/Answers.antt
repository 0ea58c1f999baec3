use Rattle.std.proofs.Common.{◌∙◌}
use Rattle.doors.specs.Outside.{tells_of}
use Rattle.workers.specs.Job.{post_of}
use Rattle.workers.proofs.CrewLemmas.{hired_done, served}
use Rattle.workers.proofs.JobLemmas.{all_at_rest, in_cell}
use Rattle.workers.proofs.crew.serve_hired.Goals as goal

pub finish-requires-clause-cell : goal.finish-requires-clause-cell
finish-requires-clause-cell g c κs within =
    let done = hired_done (post_of {J = g.row.J.Denot} (tells_of g.O.D.Door.book g.O.D.Door.faults g.O.G.Gate.exchanges g.O.C.Clock.given)) g.J.MadeWith.made c.args.crew.now _ _ c.args.jobs.len c.args.jobs.items c.as_mut_slice.result.now c.serve_jobs.new.jobs c.args.jobs.ok.0 c.as_mut_slice.ensures.value c.serve_jobs.ensures.len c.serve_jobs.ensures.each c.requires.ready in
    in_cell g.J.MadeWith.made c.args.crew.now _ _ 0 _ done.0 done.1

pub returns-clause-served : goal.returns-clause-served
returns-clause-served g c =
    let done = hired_done (post_of {J = g.row.J.Denot} (tells_of g.O.D.Door.book g.O.D.Door.faults g.O.G.Gate.exchanges g.O.C.Clock.given)) g.J.MadeWith.made c.args.crew.now _ _ c.args.jobs.len c.args.jobs.items c.as_mut_slice.result.now c.serve_jobs.new.jobs c.args.jobs.ok.0 c.as_mut_slice.ensures.value c.serve_jobs.ensures.len c.serve_jobs.ensures.each c.requires.ready in
    served c.what_visits_open_is_ended.ensures c.every_answer_is_lawful.ensures g.J.MadeWith.made c.args.crew.now _ done.0 _ _ _ _ _ _ _ (done.2 ∙ c.requires.count) c.requires.made (c.finish.ensures.finished c.args.crew.now done.0 done.1)

pub serve_jobs-requires-clause-rest : goal.serve_jobs-requires-clause-rest
serve_jobs-requires-clause-rest g c κs within =
    all_at_rest (post_of {J = g.row.J.Denot} (tells_of g.O.D.Door.book g.O.D.Door.faults g.O.G.Gate.exchanges g.O.C.Clock.given)) _ _ c.args.jobs.items c.as_mut_slice.result.now c.as_mut_slice.ensures.value c.requires.ready
