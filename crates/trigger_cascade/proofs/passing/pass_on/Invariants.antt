use Rattle.std.proofs.Common.{◌+◌, ◌-◌, List}
use Rattle.edge_base.specs.Clock.{Grows}
use Rattle.trigger_cascade.specs.Passing.{Counts}
use Rattle.trigger_cascade.specs.declared.link.LinkCall.{LinkCall}
use Rattle.trigger_cascade.proofs.PassingLemmas.{RoundsOn}
use Rattle.trigger_cascade.proofs.passing.pass_on.Given as goal

abbrev pub invariant-rounds : goal.invariant-rounds
invariant-rounds g l = ((made : List LinkCall) × Grows (g.L.Link.calls l.fn.link) (g.L.Link.calls l.link) made
    × RoundsOn l.body (l.rounds + 1) l.fn.cdns made (l.rounds - l._round) l.cdns)
    × Counts (g.L.Link.faults l.fn.link) (g.L.Link.faults l.link) l.fn.cdns l.cdns
