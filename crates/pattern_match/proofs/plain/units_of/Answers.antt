use Rattle.std.proofs.Common.{append-nil}
use Rattle.pattern_match.proofs.TokenLemmas.{units-past}
use Rattle.pattern_match.proofs.plain.units_of.Goals as goal

pub returns : goal.returns
returns c =
    rw (units-past c.args.text.now c.units.at c.units-test.false, append-nil) at c.units.invariant
