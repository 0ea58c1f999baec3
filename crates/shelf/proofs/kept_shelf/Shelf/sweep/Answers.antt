use Rattle.std.proofs.Common.{arith, ap, sym, ◌∙◌}
use Rattle.shelf.proofs.ShelfLemmas.{shelf}
use Rattle.shelf.proofs.StaleLemmas.{past_twice}
use Rattle.shelf.proofs.TriedLemmas.{tried_equal}
use Rattle.shelf.proofs.kept_shelf.Shelf.sweep.Goals as goal
use Rattle.shelf.specs.KeptShelf.{ShelfView, least_needed}

pub invariant_of-self : goal.invariant_of-self
invariant_of-self c =
    let i = c.self.inside in
    let v = c.self.invariant in
    let noted = c.sweep.ensures.noted in
    let aimed = c.sweep.ensures.aimed in
    let same = c.settle.ensures.newest in record {
      room = rw c.sweep.ensures.spare v.room;
      numbered = v.numbered;
      rising = v.rising;
      begun = rw c.settle.ensures.newest v.begun;
      up_to = rw c.settle.ensures.newest c.sweep.ensures.objects;
      aim = (omega (arith, noted, aimed), omega (arith, aimed, same));
      tried = tried_equal _ _ _ _ (noted ∙ sym aimed);
      settled = rw (c.settle.ensures.newest, c.settle.ensures.starts) (past_twice (least_needed i.epochs.known.newest c.sweep.new.noted c.sweep.new.table.objects i.flights.items) i.epochs.known.starts);
    }

pub returns : goal.returns
returns c =
    let i = c.self.inside in
    let limit = c.sweep.ensures.limit in
    let kept = c.settle.ensures.kept ∙ c.sweep.ensures.fresh c.sweep.new.table.objects c.sweep.ensures.objects ∙ c.sweep.ensures.kept in
    let fetches = c.settle.ensures.fetches in
    let newest = c.settle.ensures.newest in
    (λ j. shelf (limit j) (kept j) (c.sweep.ensures.kept j) (fetches j) i.fetched (newest j)) ∙ ap (λ (s : ShelfView). record s { held = s.kept }) c.self.view_is
