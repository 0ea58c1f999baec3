use Rattle.location_acl.proofs.TableLemmas.{one_place}
use Rattle.location_acl.proofs.laws.address_has_one_place.Goals as goal

pub returns : goal.returns
returns c = one_place
