use Rattle.metadata_objects.proofs.AgreeLemmas.{host_same}
use Rattle.metadata_objects.proofs.laws.unknown_properties_of_a_host_match_change_nothing.Goals as goal

pub returns : goal.returns
returns c = host_same
