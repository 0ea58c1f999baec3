use Rattle.metadata_objects.proofs.AgreeLemmas.{index_same}
use Rattle.metadata_objects.proofs.laws.unknown_properties_of_a_host_index_change_nothing.Goals as goal

pub returns : goal.returns
returns c = index_same
