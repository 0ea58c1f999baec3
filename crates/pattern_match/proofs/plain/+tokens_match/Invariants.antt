use Rattle.std.proofs.Common.{◌+◌, length}
use Rattle.pattern_match.proofs.plain.+tokens_match.Given as goal

abbrev pub decreases-tokens_match : goal.decreases-tokens_match
decreases-tokens_match l = length l.tokens.now + length l.units.now
