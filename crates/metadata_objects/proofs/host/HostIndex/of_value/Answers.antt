use Rattle.metadata_objects.specs.LevelData.{index_view}
use Rattle.metadata_objects.proofs.BoundLemmas.{index_within, given_within}
use Rattle.metadata_objects.proofs.host.HostIndex.of_value.Goals as goal

pub returns-clause-within : goal.returns-clause-within
returns-clause-within g c = given_within index_view c.index_of.result _ (index_within _) c.index_of.ensures
