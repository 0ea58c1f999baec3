use Rattle.std.proofs.Common.{◌≡◌, ◌+◌, ◌||◌, ◌≤◌, ℕ, List, map, take, arith, ap, ◌∙◌}
use Rattle.std.specs.declared.option.Option.{Option}
use Rattle.cdni_base.specs.Key.{KeyParts}
use Rattle.epochs.specs.EpochsList.{Known, is_stale}
use Rattle.trigger_command.specs.Selection.{hits}
use Rattle.shelf.proofs.ShelfLemmas.{shelf}
use Rattle.shelf.proofs.StaleLemmas.{begun_higher, past_twice, started_fetches, started_kept, up_later}
use Rattle.shelf.proofs.TriedLemmas.{tried_started, up_take}
use Rattle.shelf.proofs.kept_shelf.Shelf.start.Goals as goal
use Rattle.shelf.specs.KeptShelf.{ShelfView, content_of, kept_object, least_needed, start_after}

pub settle-requires-clause-begun : goal.settle-requires-clause-begun
settle-requires-clause-begun c =
    let i = c.self.inside in
    rw c.in_ok-start.ensures.known (begun_higher 0 i.epochs.known.newest (i.epochs.known.newest + 1) i.flights.items c.self.invariant.begun (omega arith))

-- what the new start hits
more : (c : goal.After-settle) → (begun : ℕ) (key : KeyParts) (ccid : Option (List ℕ)) → begun ≤ c.self.inside.epochs.known.newest
    → is_stale c.start.new.self.known.starts begun key ccid ≡ (is_stale c.self.inside.epochs.known.starts begun key ccid || hits (content_of c.args.selection.now) key ccid)
more c begun key ccid before =
    c.in_ok-start.ensures.hits begun key ccid before
    ∙ ap (λ selection. is_stale c.self.inside.epochs.known.starts begun key ccid || hits selection key ccid) c.in_ok-copy.ensures

pub invariant_of-self-2 : goal.invariant_of-self-2
invariant_of-self-2 c =
    let i = c.self.inside in
    let v = c.self.invariant in
    let newest = i.epochs.known.newest in
    let same = c.settle.ensures.newest in
    let later = ap (λ (k : Known). k.newest) c.in_ok-start.ensures.known in record {
      room = v.room;
      numbered = v.numbered;
      rising = v.rising;
      begun = rw (c.settle.ensures.newest, c.in_ok-start.ensures.known) (begun_higher 0 newest (newest + 1) i.flights.items v.begun (omega arith));
      up_to = rw (c.settle.ensures.newest, c.in_ok-start.ensures.known) (up_later newest (newest + 1) i.table.objects v.up_to (omega arith));
      aim = (v.aim.0, omega (arith, v.aim.1, same, later));
      tried = c.settle.ensures.tried i.aimed v.aim.0
          (tried_started i.epochs.known.starts c.start.new.self.known.starts newest c.args.selection.now (more c) i.noted i.aimed (take i.table.passed i.table.objects)
          (omega (arith, v.aim.0, v.aim.1)) v.aim.1 (up_take newest i.table.passed i.table.objects v.up_to) v.tried);
      settled = rw (c.settle.ensures.newest, c.settle.ensures.starts) (past_twice (least_needed c.start.new.self.known.newest i.noted i.table.objects i.flights.items) c.start.new.self.known.starts);
    }

pub returns-clause-after : goal.returns-clause-after
returns-clause-after c =
    let i = c.self.inside in
    let v = c.self.invariant in
    let known = i.epochs.known in
    let selection = c.args.selection.now in
    let kept = c.settle.ensures.kept ∙ started_kept known.starts c.start.new.self.known.starts known.newest selection (more c) i.noted i.table.objects (omega (arith, v.aim.0, v.aim.1)) v.up_to in
    let fetches = c.settle.ensures.fetches ∙ started_fetches known.starts c.start.new.self.known.starts known.newest selection (more c) 0 i.flights.items v.begun in
    let newest = c.settle.ensures.newest ∙ ap (λ (k : Known). k.newest) c.in_ok-start.ensures.known in
    (λ j. shelf i.table.limit (kept j) (map kept_object i.table.objects) (fetches j) i.fetched (newest j)) ∙ ap (λ (s : ShelfView). start_after s selection) c.self.view_is
