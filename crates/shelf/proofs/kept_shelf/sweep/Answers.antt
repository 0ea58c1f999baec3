use Rattle.std.proofs.Common.{◌≡◌, ◌≤◌, arith, length, map, sym, ap, ◌∙◌}
use Rattle.object_cache.specs.ObjectTable as objects
use Rattle.shelf.proofs.TriedLemmas.{aimed_newest, tried_kept}
use Rattle.epochs.specs.EpochsList.{is_stale}
use Rattle.shelf.proofs.StaleLemmas.{all_kept}
use Rattle.shelf.proofs.kept_shelf.sweep.Goals as goal
use Rattle.shelf.specs.KeptShelf.{kept_in, kept_object}

pub returns-then-noted-newest-clause-fresh : goal.returns-then-noted-newest-clause-fresh
returns-then-noted-newest-clause-fresh c swept up =
    let known = c.args.epochs.now.known in
    let at = c.newest-newest.ensures.newest in
    ap (λ n. kept_in known.starts n swept) (c.if-noted-newest.true ∙ at)
    ∙ all_kept known.starts known.newest (λ key ccid. ap (λ n. is_stale known.starts n key ccid) (sym at) ∙ c.newest-newest.ensures.none key ccid) swept up

pub returns-then-noted-newest-clause-kept : goal.returns-then-noted-newest-clause-kept
returns-then-noted-newest-clause-kept c =
    let known = c.args.epochs.now.known in
    let at = c.newest-newest.ensures.newest in
    let os = c.args.table.now.objects in
    sym (ap (λ n. kept_in known.starts n os) (c.if-noted-newest.true ∙ at)
    ∙ all_kept known.starts known.newest (λ key ccid. ap (λ n. is_stale known.starts n key ccid) (sym at) ∙ c.newest-newest.ensures.none key ccid) os c.requires.objects)

-- each object was tried with all starts
all_tried : (c : goal.After-try_some) → map kept_object c.try_some.new.table.objects ≡ kept_in c.args.epochs.now.known.starts c.args.noted.now c.args.table.now.objects
all_tried c =
    let known = c.args.epochs.now.known in
    let at = c.newest-newest.ensures.newest in
    let w = c.walk_if in
    let t = c.try_some.new.table in
    let left = c.try_some.ensures.left in
    let all : length t.objects ≤ t.passed = omega (arith, left, c.len.ensures) in
    let aim : w.new.aimed ≡ known.newest = aimed_newest c.args.aimed.now c.newest-newest.result w.new.aimed (omega (arith, c.requires.aim.1, at)) (λ t. w.ensures.due t ∙ sym at) w.ensures.under_way ∙ at in
    let up = c.try_some.ensures.up_to known.newest (rw w.ensures.table c.requires.objects) in
    sym (all_kept known.starts known.newest (λ key ccid. ap (λ n. is_stale known.starts n key ccid) (sym at) ∙ c.newest-newest.ensures.none key ccid) t.objects up)
    ∙ ap (λ n. kept_in known.starts n t.objects) (sym aim)
    ∙ tried_kept known.starts c.args.noted.now w.new.aimed t.passed t.objects all (c.try_some.ensures.tried w.new.aimed w.ensures.aim.0 w.ensures.tried)
    ∙ c.try_some.ensures.kept ∙ ap (λ (v : objects.Kept). kept_in known.starts c.args.noted.now v.objects) w.ensures.table

pub returns-clause-kept : goal.returns-clause-kept
returns-clause-kept c = all_tried c

pub returns-clause-fresh : goal.returns-clause-fresh
returns-clause-fresh c swept up =
    let known = c.args.epochs.now.known in
    let at = c.newest-newest.ensures.newest in
    ap (λ n. kept_in known.starts n swept) at
    ∙ all_kept known.starts known.newest (λ key ccid. ap (λ n. is_stale known.starts n key ccid) (sym at) ∙ c.newest-newest.ensures.none key ccid) swept up

pub returns-clause-objects : goal.returns-clause-objects
returns-clause-objects c = c.try_some.ensures.up_to c.args.epochs.now.known.newest (rw c.walk_if.ensures.table c.requires.objects)
