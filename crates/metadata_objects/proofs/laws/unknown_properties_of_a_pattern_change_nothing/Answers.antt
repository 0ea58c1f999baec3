use Rattle.metadata_objects.proofs.AgreeLemmas.{pattern_same}
use Rattle.metadata_objects.proofs.laws.unknown_properties_of_a_pattern_change_nothing.Goals as goal

pub returns : goal.returns
returns c = pattern_same
