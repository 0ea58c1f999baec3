use Rattle.metadata_objects.proofs.AgreeLemmas.{generic_same}
use Rattle.metadata_objects.proofs.laws.unknown_properties_of_an_object_change_nothing.Goals as goal

pub returns : goal.returns
returns c = generic_same
