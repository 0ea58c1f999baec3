use Rattle.location_acl.proofs.TableLemmas.{zero_four, zero_six}
use Rattle.location_acl.proofs.laws.shortest_block_holds_all.Goals as goal

pub returns : goal.returns
returns c = record { four = zero_four; six = zero_six }
