use Rattle.std.proofs.Common.{◌≡◌, map, drop}
use Rattle.std.specs.List.{list_any}
use Rattle.metadata_objects.specs.GenericList.{is_of_kind}
use Rattle.inheritance.proofs.inherit.has_kind.Given as goal

abbrev pub invariant-objects : goal.invariant-objects
invariant-objects l = list_any (is_of_kind l.kind) (map (λ object. object.now) (drop l.object-index l.list)) ≡ list_any (is_of_kind l.kind) (map (λ object. object.now) l.list)
