use Rattle.std.proofs.Common.{◌∙◌, sym, map}
use Rattle.std.proofs.lemmas.List.{map-append}
use Rattle.inheritance.proofs.Innermost.{added, kept}
use Rattle.inheritance.proofs.inherit.add_types.Goals as goal
use Rattle.inheritance.proofs.inherit.add_types.Goals.{then-not-has_kind+in_ok-push, else-not-has_kind}

pub objects-preserved : goal.objects-preserved
objects-preserved c = λ before start.
    let so_far = c.objects.invariant before start in
    let there = rw (c.deref.ensures.value, c.bytes.ensures.bytes) at c.has_kind.ensures in
    elim c.if-not-has_kind.branch [
      | then-not-has_kind+in_ok-push w ↦ rw (w.list-is, w.in_ok-push.ensures.items, map-append, w.overriding.ensures)
          (added (map (λ objects. objects.now) c.args.arrays.now) _ before c.args.objects.now c.objects.object-index c.object-item.result c.objects-test.true c.object-item.is so_far (sym there ∙ w.if-not-has_kind.true))
      | else-not-has_kind w ↦ rw w.list-is
          (kept (map (λ objects. objects.now) c.args.arrays.now) _ before c.args.objects.now c.objects.object-index c.object-item.result c.objects-test.true c.object-item.is so_far (sym there ∙ w.if-not-has_kind.false))
    ]
