use Rattle.std.proofs.Common.{map, not, ap, ◌∙◌}
use Rattle.object_cache.specs.ObjectTable as objects
use Rattle.shelf.proofs.HeldLemmas.{part_others, part_same}
use Rattle.shelf.proofs.StaleLemmas.{kept_others, past_twice, up_filter}
use Rattle.shelf.proofs.TriedLemmas.{tried_passed}
use Rattle.shelf.proofs.kept_shelf.let_go.Goals as goal
use Rattle.shelf.specs.KeptShelf.{kept_in, kept_object, least_needed}

pub returns-then-newest-noted-clause-kept : goal.returns-then-newest-noted-clause-kept
returns-then-newest-noted-clause-kept c =
    let starts = c.args.epochs.now.known.starts in
    c.settle.ensures.kept ∙ ap (λ (t : objects.Kept). kept_in starts c.args.noted t.objects) c.take.ensures.after ∙ kept_others starts c.args.noted c.args.key.now c.args.table.now.objects c.requires.none

pub returns-then-newest-noted-clause-held : goal.returns-then-newest-noted-clause-held
returns-then-newest-noted-clause-held c = rw c.take.ensures.after (part_others c.args.key.now c.args.table.now.objects)

pub returns-then-newest-noted-clause-up_to : goal.returns-then-newest-noted-clause-up_to
returns-then-newest-noted-clause-up_to c = λ top before. rw c.take.ensures.after (up_filter top (λ o. not (objects.is_of c.args.key.now o)) c.args.table.now.objects before)

pub returns-then-newest-noted-clause-settled : goal.returns-then-newest-noted-clause-settled
returns-then-newest-noted-clause-settled c = rw (c.settle.ensures.newest, c.settle.ensures.starts)
    (past_twice (least_needed c.args.epochs.now.known.newest c.args.noted c.take.new.self.objects c.args.flights.now.items) c.args.epochs.now.known.starts)

pub returns-else-newest-noted-clause-held : goal.returns-else-newest-noted-clause-held
returns-else-newest-noted-clause-held c = part_same (map kept_object c.args.table.now.objects)

pub returns-then-newest-noted-clause-tried : goal.returns-then-newest-noted-clause-tried
returns-then-newest-noted-clause-tried c aimed more tried =
    c.settle.ensures.tried aimed more (tried_passed c.args.epochs.now.known.starts c.args.noted aimed c.args.table.now c.take.new.self c.take.ensures.passed tried)
