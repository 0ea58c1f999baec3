use Rattle.std.proofs.Common.{map, sym, subst, take, arith, ◌∙◌}
use Rattle.object_cache.specs.ObjectTable as objects
use Rattle.shelf.proofs.HeldLemmas.{part_same}
use Rattle.shelf.proofs.TriedLemmas.{kept_removed, none_left, part_removed, take_removed, tried_one, up_removed}
use Rattle.shelf.proofs.kept_shelf.try_next.Goals as goal
use Rattle.shelf.specs.KeptShelf.{AreTried, AreUpToEpoch, IsPartOf, kept_object}

pub returns-then-is_gone-clause-kept : goal.returns-then-is_gone-clause-kept
returns-then-is_gone-clause-kept c =
    let t = c.args.table.now in
    rw c.take_next.ensures.after (kept_removed c.args.epochs.now.known.starts c.args.noted t.objects t.passed c.in-Some.object.now c.in-Some.ensures
    (sym c.is_gone.ensures ∙ c.if-is_gone.true))

pub returns-then-is_gone-clause-held : goal.returns-then-is_gone-clause-held
returns-then-is_gone-clause-held c =
    let t = c.args.table.now in
    subst (λ (v : objects.Kept). IsPartOf (map kept_object v.objects) (map kept_object t.objects)) (sym c.take_next.ensures.after) (part_removed t.objects t.passed)

pub returns-then-is_gone-clause-tried : goal.returns-then-is_gone-clause-tried
returns-then-is_gone-clause-tried c aimed more tried =
    let t = c.args.table.now in
    let starts = c.args.epochs.now.known.starts in
    subst (λ (v : objects.Kept). AreTried starts c.args.noted aimed (take v.passed v.objects)) (sym c.take_next.ensures.after)
    (subst (AreTried starts c.args.noted aimed) (sym (take_removed t.objects t.passed)) tried)

pub returns-then-is_gone-clause-up_to : goal.returns-then-is_gone-clause-up_to
returns-then-is_gone-clause-up_to c top up =
    let t = c.args.table.now in
    subst (λ (v : objects.Kept). AreUpToEpoch top v.objects) (sym c.take_next.ensures.after) (up_removed top t.objects t.passed up)

pub returns-else-is_gone-clause-held : goal.returns-else-is_gone-clause-held
returns-else-is_gone-clause-held c =
    let t = c.args.table.now in
    subst (λ (v : objects.Kept). IsPartOf (map kept_object v.objects) (map kept_object t.objects)) (sym c.pass.ensures) (part_same (map kept_object t.objects))

pub returns-else-is_gone-clause-tried : goal.returns-else-is_gone-clause-tried
returns-else-is_gone-clause-tried c aimed more tried =
    let t = c.args.table.now in
    let starts = c.args.epochs.now.known.starts in
    subst (λ (v : objects.Kept). AreTried starts c.args.noted aimed (take v.passed v.objects)) (sym c.pass.ensures)
    (tried_one starts c.args.noted aimed t.passed t.objects c.in-Some.object.now more c.in-Some.ensures (sym c.is_gone.ensures ∙ c.if-is_gone.false) tried)

pub returns-in-None-clause-left : goal.returns-in-None-clause-left
returns-in-None-clause-left c =
    let none = none_left c.args.table.now.objects c.args.table.now.passed c.in-None.ensures in
    omega (arith, none)
