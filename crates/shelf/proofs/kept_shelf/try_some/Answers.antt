use Rattle.std.proofs.Common.{map, refl, arith, ◌∙◌}
use Rattle.shelf.proofs.HeldLemmas.{part_same}
use Rattle.shelf.proofs.TriedLemmas.{part_both}
use Rattle.shelf.proofs.kept_shelf.try_some.Goals as goal
use Rattle.shelf.specs.KeptShelf.{kept_object}

pub objects-init : goal.objects-init
objects-init c = record {
  kept = refl;
  held = part_same (map kept_object c.args.table.now.objects);
  tried = λ aimed more tried. tried;
  left = omega arith;
  up_to = λ top up. up;
  limit = refl;
  spare = refl;
}

pub objects-preserved : goal.objects-preserved
objects-preserved c =
    let v = c.objects.invariant in
    let e = c.try_next.ensures in
    let left = e.left in record {
      kept = e.kept ∙ v.kept;
      held = part_both (map kept_object c.args.table.now.objects) (map kept_object c.objects.table.objects) (map kept_object c.try_next.new.table.objects) v.held e.held;
      tried = λ aimed more tried. e.tried aimed more (v.tried aimed more tried);
      left = omega (arith, left, v.left);
      up_to = λ top up. e.up_to top (v.up_to top up);
      limit = e.limit ∙ v.limit;
      spare = e.spare ∙ v.spare;
    }
