use Rattle.std.proofs.Common.{◌≡◌, drop}
use Rattle.metadata_objects.specs.LevelData.{branches_of, paths_view}
use Rattle.inheritance.specs.Chain.{first_below}
use Rattle.inheritance.proofs.chain.level_for.Given as goal

abbrev pub invariant-paths : goal.invariant-paths
invariant-paths l = first_below l.path (branches_of (paths_view (drop l.path_match-index l.paths))) ≡ first_below l.path (branches_of (paths_view l.paths))
