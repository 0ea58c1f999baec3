use Rattle.location_acl.proofs.AddressLemmas.{one_address}
use Rattle.location_acl.proofs.laws.text_has_one_address.Goals as goal

pub returns : goal.returns
returns c = one_address
