use Rattle.delivery_law.proofs.MetadataLaw.{unhit_metadata}
use Rattle.delivery_law.proofs.metadata.an_admission_uses_metadata_that_no_start_has_hit.Goals as goal

pub returns : goal.returns
returns c = unhit_metadata
