use Rattle.std.proofs.Common.{◌≡◌, ◌-◌, ◌++◌, length, drop}
use Rattle.pattern_match.specs.Units.{units}
use Rattle.pattern_match.specs.Tokens.{tokens_from, tokens_of}
use Rattle.pattern_match.proofs.tokens.tokens_of.Given as goal

abbrev pub invariant-tokens : goal.invariant-tokens
invariant-tokens l = l.tokens.items ++ tokens_from (units (drop l.at l.text)) ≡ tokens_of l.text

abbrev pub decreases-tokens : goal.decreases-tokens
decreases-tokens l = length l.text - l.at
