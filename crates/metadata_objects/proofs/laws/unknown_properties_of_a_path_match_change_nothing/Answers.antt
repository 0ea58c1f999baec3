use Rattle.metadata_objects.proofs.AgreeLemmas.{match_same}
use Rattle.metadata_objects.proofs.laws.unknown_properties_of_a_path_match_change_nothing.Goals as goal

pub returns : goal.returns
returns c = match_same
