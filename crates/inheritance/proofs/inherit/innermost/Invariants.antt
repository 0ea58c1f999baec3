use Rattle.std.proofs.Common.{◌≡◌, map, drop, option_map}
use Rattle.std.specs.Option.{option_or}
use Rattle.inheritance.specs.Effective.{innermost}
use Rattle.inheritance.proofs.inherit.innermost.Given as goal

abbrev pub invariant-arrays : goal.invariant-arrays
invariant-arrays l = option_or (innermost l.kind (map (λ objects. objects.now) (drop l.objects-index l.arrays))) (option_map (λ object. object.now) l.found) ≡ innermost l.kind (map (λ objects. objects.now) l.arrays)
