use Rattle.std.proofs.Common.{◌+◌, ◌-◌, ◌*◌, ◌≤◌, length}
use Rattle.pattern_match.specs.Units.{units}
use Rattle.pattern_match.specs.Matching.{tokens_match}
use Rattle.pattern_match.proofs.WalkLemmas.{Stands, IsBehind, left_over}
use Rattle.pattern_match.proofs.walk.walk.Given as goal

abbrev pub invariant-walk : goal.invariant-walk
invariant-walk l = record {
  tokens_left : l.next ≤ length l.tokens;
  text_left : l.at ≤ length l.text;
  behind : IsBehind l.next l.at l.retry;
  stands : Stands (tokens_match l.case_sensitive l.tokens (units l.text)) l.case_sensitive l.tokens l.text l.next l.at l.retry;
}

abbrev pub decreases-walk : goal.decreases-walk
decreases-walk l =
    left_over (length l.tokens) (length l.text) l.retry * (length l.tokens + 1) + (length l.tokens - l.next)
