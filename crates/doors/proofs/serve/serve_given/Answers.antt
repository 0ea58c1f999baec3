use Rattle.std.proofs.Common.{refl}
use Rattle.doors.specs.Door.{Given, Shut, shut_of}
use Rattle.doors.proofs.ServedLemmas.{at_close, is_served}
use Rattle.doors.proofs.VisitLemmas.{visit_of, was_visit}
use Rattle.doors.proofs.serve.serve_given.Goals as goal

pub close-requires : goal.close-requires
close-requires g c =
    let s = c.serve_session.ensures.session in
    let given : Given = record { ip = c.args.ip; left = g.D.S.Source.left c.args.source; held = g.D.K.Sink.held c.args.sink } in
    let shut : Shut = shut_of g.D.S.Source.left g.D.S.Source.faults g.D.K.Sink.held g.D.K.Sink.faults c.serve_session.new.source c.serve_session.new.sink in (
      visit_of given shut s.0 s.1 c.serve_session.result,
      is_served c.args.settings.now c.args.places.now _ (was_visit c.args.settings.now c.args.places.now given shut s.0 s.1 c.serve_session.result c.place_of.result (g.D.S.Source.faults c.args.source) (g.D.K.Sink.faults c.args.sink) c.requires.read_fresh c.requires.write_fresh c.place_of.ensures s.2 s.3 s.5.written s.4 c.serve_session.ensures.read c.serve_session.ensures.write),
      refl,
      c.requires.last,
    )

pub returns-clause-served : goal.returns-clause-served
returns-clause-served g c =
    let s = c.serve_session.ensures.session in
    let given : Given = record { ip = c.args.ip; left = g.D.S.Source.left c.args.source; held = g.D.K.Sink.held c.args.sink } in
    let shut : Shut = shut_of g.D.S.Source.left g.D.S.Source.faults g.D.K.Sink.held g.D.K.Sink.faults c.serve_session.new.source c.serve_session.new.sink in
    at_close (g.D.Door.book c.args.worker.now.door) (g.D.Door.book c.close.new.self) (visit_of given shut s.0 s.1 c.serve_session.result)
    (is_served c.args.settings.now c.args.places.now _ (was_visit c.args.settings.now c.args.places.now given shut s.0 s.1 c.serve_session.result c.place_of.result (g.D.S.Source.faults c.args.source) (g.D.K.Sink.faults c.args.sink) c.requires.read_fresh c.requires.write_fresh c.place_of.ensures s.2 s.3 s.5.written s.4 c.serve_session.ensures.read c.serve_session.ensures.write))
    c.requires.last c.close.ensures.book

pub returns-clause-visit : goal.returns-clause-visit
returns-clause-visit g c =
    let s = c.serve_session.ensures.session in
    let given : Given = record { ip = c.args.ip; left = g.D.S.Source.left c.args.source; held = g.D.K.Sink.held c.args.sink } in
    let shut : Shut = shut_of g.D.S.Source.left g.D.S.Source.faults g.D.K.Sink.held g.D.K.Sink.faults c.serve_session.new.source c.serve_session.new.sink in (
      visit_of given shut s.0 s.1 c.serve_session.result,
      was_visit c.args.settings.now c.args.places.now given shut s.0 s.1 c.serve_session.result c.place_of.result (g.D.S.Source.faults c.args.source) (g.D.K.Sink.faults c.args.sink) c.requires.read_fresh c.requires.write_fresh c.place_of.ensures s.2 s.3 s.5.written s.4 c.serve_session.ensures.read c.serve_session.ensures.write,
      refl,
      c.close.ensures.book,
      s.5.moments,
      s.5.exchanges,
      s.5.calls,
    )
