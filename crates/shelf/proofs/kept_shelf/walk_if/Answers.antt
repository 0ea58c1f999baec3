use Rattle.shelf.proofs.TriedLemmas.{tried_none}
use Rattle.shelf.proofs.kept_shelf.walk_if.Goals as goal

pub returns-then-is_due-clause-tried : goal.returns-then-is_due-clause-tried
returns-then-is_due-clause-tried c = rw c.walk_anew.ensures (tried_none _ _ _)
