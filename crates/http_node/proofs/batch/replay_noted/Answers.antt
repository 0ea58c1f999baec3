use Rattle.http_node.proofs.BatchLemmas.{script_cause}
use Rattle.replay_script.proofs.ReplayLemmas.{replay_unstarted}
use Rattle.http_node.proofs.batch.replay_noted.Goals as goal

pub returns-in_default-clause-served : goal.returns-in_default-clause-served
returns-in_default-clause-served g c = let e = replay_unstarted (g.S.Source.left c.args.input.now) (g.K.Sink.held c.args.output.now) in (e.0, e.1, e.2, c.note_status.ensures)

pub returns-clause-script : goal.returns-clause-script
returns-clause-script g c = λ meets. rw c.note_end.ensures.status (script_cause _ _ _ _ c.replay-end.result c.replay-end.ensures.reads meets)
