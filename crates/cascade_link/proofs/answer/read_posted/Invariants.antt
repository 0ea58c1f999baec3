use Rattle.std.proofs.Common.{◌≡◌}
use Rattle.cascade_link.proofs.answer.read_posted.Given as goal

abbrev pub invariant-heads : goal.invariant-heads
invariant-heads g l = g.S.Source.faults l.source ≡ g.S.Source.faults l.initial.source
