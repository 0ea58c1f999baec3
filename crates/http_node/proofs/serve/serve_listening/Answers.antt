use Rattle.std.proofs.Common.{inl, inr, sym, ap}
use Rattle.std.specs.Prelude.{Err, ⊤}
use Rattle.targets.proofs.FrontLemmas.{ok_err}
use Rattle.http_node.proofs.ServeLemmas.{err_same, failed_rose}
use Rattle.http_node.proofs.serve.serve_listening.Goals as goal

pub returns-in-Ok-clause-listens : goal.returns-in-Ok-clause-listens
returns-in-Ok-clause-listens g c = inr (record {
  middle = g.O.Outside.diary c.listen.new.self;
  returned_then = g.O.Outside.returned c.listen.new.self;
  faults_then = g.O.Outside.faults c.listen.new.self;
  diary = c.in-Ok.ensures.diary;
  reads = λ none. ok_err _ _ (c.in-Ok.ensures.address.1 none);
  same = c.in-Ok.ensures.returned;
  later = c.in-Ok.ensures.later;
  serves = c.serve_workers.ensures.serves;
})

pub returns-in-Err-clause-listens : goal.returns-in-Err-clause-listens
returns-in-Err-clause-listens g c = inl (record {
  met = c.in-Err.fault;
  diary = c.in-Err.ensures.diary;
  ends_so = c.fault_status.ensures;
  bad = λ bad. c.in-Err.ensures.address.0 (ap Err bad);
  failed = failed_rose ⊤ _ _ c.in-Err.fault c.in-Err.ensures.cause;
  unread = λ none. err_same _ _ (c.in-Err.ensures.address.1 none);
})
