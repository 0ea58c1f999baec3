use Rattle.std.proofs.Common.{◌≡◌, map, take}
use Rattle.inheritance.specs.Effective.{overriding, firsts, all_objects}
use Rattle.inheritance.proofs.inherit.overlaid.Given as goal

abbrev pub invariant-arrays : goal.invariant-arrays
invariant-arrays l = map (λ object. object.now) l.list.items ≡ map (overriding (map (λ objects. objects.now) l.arrays)) (firsts (all_objects (take l.i (map (λ objects. objects.now) l.arrays))))
