use Rattle.metadata_objects.proofs.AgreeLemmas.{level_same}
use Rattle.metadata_objects.proofs.laws.unknown_properties_of_a_level_change_nothing.Goals as goal

pub returns : goal.returns
returns c = level_same
