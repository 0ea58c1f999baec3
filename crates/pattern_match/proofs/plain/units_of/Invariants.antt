use Rattle.std.proofs.Common.{◌≡◌, ◌-◌, ◌++◌, length, drop}
use Rattle.pattern_match.specs.Units.{units}
use Rattle.pattern_match.proofs.plain.units_of.Given as goal

abbrev pub invariant-units : goal.invariant-units
invariant-units l = l.found.items ++ units (drop l.at l.text) ≡ units l.text

abbrev pub decreases-units : goal.decreases-units
decreases-units l = length l.text - l.at
