use Rattle.std.proofs.Common.{◌≡◌, map, drop, option_map}
use Rattle.std.specs.Option.{option_or}
use Rattle.metadata_objects.specs.GenericList.{kind_name}
use Rattle.inheritance.specs.Effective.{innermost}
use Rattle.inheritance.proofs.objects.Effective.object.Given as goal

abbrev pub invariant-arrays : goal.invariant-arrays
invariant-arrays l = option_or (innermost (kind_name l.kind) (map (λ objects. objects.now) (drop l.objects-index l.objects-items))) (option_map (λ object. object.now) l.found) ≡ innermost (kind_name l.kind) (map (λ objects. objects.now) l.objects-items)
