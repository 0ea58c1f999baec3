use Rattle.std.proofs.Common.{append-nil}
use Rattle.pattern_match.proofs.TokenLemmas.{tokens-past}
use Rattle.pattern_match.proofs.tokens.tokens_of.Goals as goal

pub returns : goal.returns
returns c =
    rw (tokens-past c.args.text.now c.tokens.at c.tokens-test.false, append-nil) at c.tokens.invariant
