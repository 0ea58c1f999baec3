use Rattle.std.proofs.Common.{None}
use Rattle.http_node.proofs.ServeLemmas.{no_room, noted_end}
use Rattle.workers.proofs.HiringLemmas.{diary_same}
use Rattle.http_node.proofs.serve.serve_noted.Goals as goal

pub returns-in_default-clause-command : goal.returns-in_default-clause-command
returns-in_default-clause-command g c = (None, no_room c.args.options _ _ _ _ _ _ (diary_same _), c.note_status.ensures)

pub returns-clause-command : goal.returns-clause-command
returns-clause-command g c = noted_end c.args.options _ _ _ _ _ _ _ _ _ _ _ _ _ _ _ c.status_at.ensures c.bytes.ensures c.put_serve_note.ensures c.serve_options-end.ensures.command c.write_note.ensures
