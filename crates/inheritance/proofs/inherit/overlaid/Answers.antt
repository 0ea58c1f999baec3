use Rattle.std.proofs.Common.{◌<◌, ◌≤◌, ◌∙◌, refl, sym, ap, map, arith, length, take}
use Rattle.std.proofs.Math.ListN.{get_or-map}
use Rattle.std.proofs.lemmas.List.{length-map}
use Rattle.inheritance.specs.Effective.{all_objects}
use Rattle.inheritance.proofs.Innermost.{none_yet, array_more, whole_effective}
use Rattle.inheritance.proofs.inherit.overlaid.Goals as goal

pub arrays-init : goal.arrays-init
arrays-init c = rw (c.new-list.ensures.items, none_yet) refl

pub arrays-preserved : goal.arrays-preserved
arrays-preserved c =
    let below : c.arrays.i < length (map (λ objects. objects.now) c.args.arrays.now) = omega (arith, length-map c.args.arrays.now (λ objects. objects.now)) in
    let here = ap (λ objects. objects.now) c.index-arrays-i.is ∙ sym (get_or-map (λ objects. objects.now) c.args.arrays.now c.arrays.i c.index-arrays-i.result) in
    let h = rw c.as_slice.ensures at c.in_ok-add_types.ensures (all_objects (take c.arrays.i (map (λ objects. objects.now) c.args.arrays.now))) c.arrays.invariant in
    rw (array_more (map (λ objects. objects.now) c.args.arrays.now) c.arrays.i c.index-arrays-i.result.now below here) h

pub returns : goal.returns
returns c =
    let over : length (map (λ objects. objects.now) c.args.arrays.now) ≤ c.arrays.i = omega (arith, length-map c.args.arrays.now (λ objects. objects.now)) in
    c.arrays.invariant ∙ whole_effective (map (λ objects. objects.now) c.args.arrays.now) c.arrays.i over
