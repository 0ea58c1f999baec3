use Rattle.std.proofs.Common.{◌≡◌, drop}
use Rattle.std.specs.List.{find}
use Rattle.metadata_objects.specs.GenericList.{is_of_kind}
use Rattle.inheritance.proofs.inherit.first_of_kind.Given as goal

abbrev pub invariant-objects : goal.invariant-objects
invariant-objects l = find (is_of_kind l.kind) (drop l.object-index l.objects) ≡ find (is_of_kind l.kind) l.objects
