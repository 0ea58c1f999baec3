use Rattle.location_acl.proofs.AddressLemmas.{address_is, address_from}
use Rattle.location_acl.proofs.laws.reading_is_grammar.Goals as goal

pub returns : goal.returns
returns c = λ text ip. (address_from text ip, address_is text ip)
