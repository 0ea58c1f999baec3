use Rattle.std.proofs.Common.{◌≡◌, ◌++◌, length, map}
use Rattle.metadata_objects.specs.LevelData.{level_view}
use Rattle.inheritance.specs.Chain.{arrays_at}
use Rattle.inheritance.proofs.chain.arrays.Given as goal

abbrev pub invariant-levels : goal.invariant-levels
invariant-levels l = map (λ objects. objects.now) l.arrays.items ++ arrays_at l.path (level_view l.here) ≡ arrays_at l.path (level_view l.level)

abbrev pub decreases-levels : goal.decreases-levels
decreases-levels l = length (arrays_at l.path (level_view l.here))
