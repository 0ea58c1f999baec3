use Rattle.trigger_command.proofs.SelectionLemmas.{metadata_decides}
use Rattle.trigger_command.proofs.selection.Selection.hits_metadata.Goals as goal

pub returns-clause-relation : goal.returns-clause-relation
returns-clause-relation c = rw c.has_metadata_hit.ensures (metadata_decides c.args.self.now c.args.resource.now)
