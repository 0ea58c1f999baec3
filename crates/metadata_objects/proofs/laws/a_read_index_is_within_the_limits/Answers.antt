use Rattle.metadata_objects.proofs.BoundLemmas.{index_within}
use Rattle.metadata_objects.proofs.laws.a_read_index_is_within_the_limits.Goals as goal

pub returns : goal.returns
returns c = index_within
