use Rattle.byte_range.proofs.RangeLemmas.{one_reading}
use Rattle.byte_range.proofs.laws.grammar_has_one_reading.Goals as goal

pub returns : goal.returns
returns c = one_reading
