use Rattle.std.proofs.Common.{◌≡◌, map, drop}
use Rattle.std.specs.List.{find}
use Rattle.metadata_objects.specs.GenericList.{is_unenforceable}
use Rattle.inheritance.proofs.inherit.unenforceable_in.Given as goal

abbrev pub invariant-objects : goal.invariant-objects
invariant-objects l = find is_unenforceable (map (λ object. object.now) (drop l.object-index l.list)) ≡ find is_unenforceable (map (λ object. object.now) l.list)
