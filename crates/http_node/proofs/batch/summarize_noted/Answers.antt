use Rattle.std.proofs.KnownBytes.{Appends-nil}
use Rattle.http_node.proofs.BatchLemmas.{summary_cause}
use Rattle.replay_script.proofs.ReplayLemmas.{replay_unstarted}
use Rattle.http_node.proofs.batch.summarize_noted.Goals as goal

pub returns-in_default-clause-summed : goal.returns-in_default-clause-summed
returns-in_default-clause-summed g c = let e = replay_unstarted (g.S.Source.left c.args.input.now) (g.K.Sink.held c.args.output.now) in (e.0, e.1, (0, Appends-nil _), c.note_status.ensures)

pub returns-clause-script : goal.returns-clause-script
returns-clause-script g c = λ meets. rw c.note_end.ensures.status (summary_cause _ _ c.write_summary-end.result c.write_summary-end.ensures.lines meets)
