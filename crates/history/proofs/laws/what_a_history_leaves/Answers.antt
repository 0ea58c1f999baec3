use Rattle.history.proofs.Words.{world_none, world_push}
use Rattle.history.proofs.laws.what_a_history_leaves.Goals as goal

pub returns-clause-empty : goal.returns-clause-empty
returns-clause-empty c = world_none

pub returns-clause-more : goal.returns-clause-more
returns-clause-more c = world_push
