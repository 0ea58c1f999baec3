use Rattle.doors.proofs.ServedLemmas.{at_closed, at_failed, at_given, at_memory}
use Rattle.doors.proofs.VisitLemmas.{failed, no_memory, none_left, one_visit}
use Rattle.doors.proofs.serve.serve_next.Goals as goal

pub accept-requires : goal.accept-requires
accept-requires g c = c.requires

pub serve_given-requires-clause-last : goal.serve_given-requires-clause-last
serve_given-requires-clause-last g c κs within = at_given (g.D.Door.book c.args.worker.now.door) (g.D.Door.book c.accept.new.self) _ c.in-One.ensures.book c.requires

pub returns-in-Closed-clause-served : goal.returns-in-Closed-clause-served
returns-in-Closed-clause-served g c = at_closed (g.D.Door.book c.args.worker.now.door) (g.D.Door.book c.accept.new.self) c.in-Closed.ensures.book c.requires

pub returns-in-Failed-clause-served : goal.returns-in-Failed-clause-served
returns-in-Failed-clause-served g c = at_failed (g.D.Door.book c.args.worker.now.door) (g.D.Door.book c.accept.new.self) c.in-Failed.ensures.book c.requires

pub returns-in-Memory-clause-served : goal.returns-in-Memory-clause-served
returns-in-Memory-clause-served g c = at_memory (g.D.Door.book c.args.worker.now.door) (g.D.Door.book c.accept.new.self) c.in-Memory.ensures.book c.requires

pub returns-in-One-clause-visits : goal.returns-in-One-clause-visits
returns-in-One-clause-visits g c =
    one_visit c.args.settings.now c.args.places.now (g.H.Home.who c.args.home.now) _ _ _ _ _ _ (g.D.Door.book c.args.worker.now.door) (g.D.Door.book c.accept.new.self) (g.D.Door.book c.serve_given.new.worker.door) _ c.in-One.ensures.book c.serve_given.ensures.visit

pub returns-in-Closed-clause-visits : goal.returns-in-Closed-clause-visits
returns-in-Closed-clause-visits g c = none_left c.args.settings.now c.args.places.now _ _ _ _ (g.D.Door.book c.args.worker.now.door) (g.D.Door.book c.accept.new.self) c.in-Closed.ensures.book

pub returns-in-Failed-clause-visits : goal.returns-in-Failed-clause-visits
returns-in-Failed-clause-visits g c = failed c.args.settings.now c.args.places.now _ _ _ _ (g.D.Door.book c.args.worker.now.door) (g.D.Door.book c.accept.new.self) c.in-Failed.ensures.book

pub returns-in-Memory-clause-visits : goal.returns-in-Memory-clause-visits
returns-in-Memory-clause-visits g c = no_memory c.args.settings.now c.args.places.now _ _ _ _ (g.D.Door.book c.args.worker.now.door) (g.D.Door.book c.accept.new.self) c.in-Memory.ensures.book
