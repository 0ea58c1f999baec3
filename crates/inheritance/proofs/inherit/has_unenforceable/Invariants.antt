use Rattle.std.proofs.Common.{◌≡◌, map, drop}
use Rattle.std.specs.List.{list_any}
use Rattle.metadata_objects.specs.GenericList.{is_unenforceable}
use Rattle.inheritance.proofs.inherit.has_unenforceable.Given as goal

abbrev pub invariant-arrays : goal.invariant-arrays
invariant-arrays l = list_any (list_any is_unenforceable) (map (λ objects. objects.now) (drop l.objects-index l.arrays)) ≡ list_any (list_any is_unenforceable) (map (λ objects. objects.now) l.arrays)
