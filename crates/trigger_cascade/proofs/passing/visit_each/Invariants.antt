use Rattle.std.proofs.Common.{◌≡◌, ◌++◌, List, drop, map, take}
use Rattle.std.specs.declared.option.Option.{Option}
use Rattle.edge_base.specs.Clock.{Grows}
use Rattle.trigger_cascade.specs.Passing.{Counts, Visits}
use Rattle.trigger_cascade.specs.declared.link.LinkCall.{LinkCall}
use Rattle.trigger_cascade.proofs.PassingLemmas.{LeadsOn}
use Rattle.trigger_cascade.proofs.passing.visit_each.Given as goal

abbrev pub invariant-cdns : goal.invariant-cdns
invariant-cdns g l = ((made : List LinkCall) × Grows (g.L.Link.calls l.initial.link) (g.L.Link.calls l.link) made
    × LeadsOn l.body l.initial.cdns made (take l.i l.cdns) (drop l.i l.cdns))
    × Counts (g.L.Link.faults l.initial.link) (g.L.Link.faults l.link) l.initial.cdns l.cdns
