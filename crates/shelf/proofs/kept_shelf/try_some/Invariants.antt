use Rattle.std.proofs.Common.{◌≡◌, ◌≤◌, ◌-◌, ℕ, length, map, take}
use Rattle.shelf.specs.KeptShelf.{AreTried, AreUpToEpoch, IsPartOf, kept_in, kept_object}
use Rattle.shelf.proofs.kept_shelf.try_some.Given as goal

abbrev pub invariant-objects : goal.invariant-objects
invariant-objects l = record {
  kept : kept_in l.epochs.known.starts l.noted l.table.objects ≡ kept_in l.epochs.known.starts l.noted l.initial.table.objects;
  held : IsPartOf (map kept_object l.table.objects) (map kept_object l.initial.table.objects);
  tried : (aimed : ℕ) → l.noted ≤ aimed
      → AreTried l.epochs.known.starts l.noted aimed (take l.initial.table.passed l.initial.table.objects)
      → AreTried l.epochs.known.starts l.noted aimed (take l.table.passed l.table.objects);
  left : length l.table.objects - l.table.passed ≤ length l.initial.table.objects - l.initial.table.passed - l._step;
  up_to : (top : ℕ) → AreUpToEpoch top l.initial.table.objects → AreUpToEpoch top l.table.objects;
  limit : l.table.limit ≡ l.initial.table.limit;
  spare : l.table.spare ≡ l.initial.table.spare;
}
