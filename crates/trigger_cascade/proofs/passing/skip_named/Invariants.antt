use Rattle.std.proofs.Common.{◌≡◌, ◌++◌, drop, map, take}
use Rattle.trigger_cascade.specs.Passing.{started}
use Rattle.trigger_cascade.proofs.passing.skip_named.Given as goal

abbrev pub invariant-cdns : goal.invariant-cdns
invariant-cdns l = take l.i l.cdns ++ map (started l.path) (drop l.i l.cdns) ≡ map (started l.path) l.initial.cdns
