use Rattle.location_acl.proofs.TableLemmas.{past_bits}
use Rattle.location_acl.proofs.laws.bits_past_the_length_do_not_count.Goals as goal

pub returns : goal.returns
returns c = λ width length base other number same. past_bits length width base other number same
