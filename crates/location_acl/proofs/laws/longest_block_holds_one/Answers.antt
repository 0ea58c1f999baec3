use Rattle.location_acl.proofs.TableLemmas.{whole_four, whole_six}
use Rattle.location_acl.proofs.laws.longest_block_holds_one.Goals as goal

pub returns : goal.returns
returns c = record { four = whole_four; six = whole_six }
