use Rattle.location_acl.proofs.BlockLemmas.{one_reading}
use Rattle.location_acl.proofs.laws.text_has_one_block.Goals as goal

pub returns : goal.returns
returns c = one_reading
