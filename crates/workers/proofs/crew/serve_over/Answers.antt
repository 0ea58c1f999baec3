use Rattle.std.proofs.Common.{◌∙◌, arith, length, map}
use Rattle.std.proofs.lemmas.List.{length-map}
use Rattle.doors.specs.Outside.{tells_of}
use Rattle.workers.specs.Job.{post_of}
use Rattle.workers.proofs.CrewLemmas.{all_ready_new, dismissed, refused_rose, served_since}
use Rattle.workers.proofs.crew.serve_over.Goals as goal

pub returns-in-Ok-clause-serves : goal.returns-in-Ok-clause-serves
returns-in-Ok-clause-serves g c =
    served_since g.J.MadeWith.made c.args.crew.now (length c.hire_all.new.jobs.items) _ _ _ _ _ _ _ _ _ _ (c.in-Ok.ensures.all ∙ c.requires.count) c.in-Ok.ensures.diary c.in-Ok.ensures.returned c.in-Ok.ensures.later c.serve_hired.ensures.served

pub returns-in-Err-clause-serves : goal.returns-in-Err-clause-serves
returns-in-Err-clause-serves g c =
    dismissed g.J.MadeWith.made c.args.crew.now (length c.hire_all.new.jobs.items) c.in-Err.why (map (λ job. (tells_of g.O.D.Door.book g.O.D.Door.faults g.O.G.Gate.exchanges g.O.C.Clock.given) job.worker) c.hire_all.new.jobs.items) _ _ _ _ _ _ _ _ _ _ (omega (arith, c.in-Err.ensures.fewer, c.requires.count)) c.in-Err.ensures.refused c.dismiss_all.ensures.diary
    (all_ready_new (post_of {J = g.row.J.Denot} (tells_of g.O.D.Door.book g.O.D.Door.faults g.O.G.Gate.exchanges g.O.C.Clock.given)) g.J.MadeWith.made c.args.crew.now _ _ 0 c.hire_all.new.jobs.items c.in-Err.ensures.ready) (length-map c.hire_all.new.jobs.items (λ job. (tells_of g.O.D.Door.book g.O.D.Door.faults g.O.G.Gate.exchanges g.O.C.Clock.given) job.worker)) c.in-Err.ensures.returned c.dismiss_all.ensures.returned (refused_rose _ _ c.in-Err.why c.in-Err.ensures.cause) c.dismiss_all.ensures.later
    c.refused_status.ensures
