use Rattle.trigger_command.proofs.SelectionLemmas.{hits_decides}
use Rattle.trigger_command.proofs.selection.Selection.hits.Goals as goal

pub returns-clause-relation : goal.returns-clause-relation
returns-clause-relation c = rw c.has_hit.ensures (hits_decides c.args.self.now c.args.key.now _)
