use Rattle.std.proofs.Common.{◌≡◌, ◌++◌, List, map, take}
use Rattle.metadata_objects.specs.declared.generic.Generic.{Generic}
use Rattle.inheritance.specs.Effective.{overriding, firsts}
use Rattle.inheritance.proofs.inherit.add_types.Given as goal

abbrev pub invariant-objects : goal.invariant-objects
invariant-objects l = (before : List Generic) → map (λ object. object.now) l.initial.list.items ≡ map (overriding (map (λ objects. objects.now) l.arrays)) (firsts before)
    → map (λ object. object.now) l.list.items ≡ map (overriding (map (λ objects. objects.now) l.arrays)) (firsts (before ++ take l.object-index l.objects))
