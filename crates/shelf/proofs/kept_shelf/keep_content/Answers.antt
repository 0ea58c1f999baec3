use Rattle.std.proofs.Common.{sym, ◌∙◌}
use Rattle.std.proofs.lemmas.Bool.{eq-eqb, ne_eqb}
use Rattle.shelf.proofs.ShelfLemmas.{brought_full, brought_other, gained_full}
use Rattle.shelf.proofs.StaleLemmas.{up_filled}
use Rattle.shelf.proofs.TriedLemmas.{tried_equal}
use Rattle.shelf.proofs.kept_shelf.keep_content.Goals as goal
use Rattle.shelf.proofs.HeldLemmas.{part_or_kept, part_or_same}
use Rattle.shelf.specs.KeptShelf.{flight_of, kept_in}

pub returns-then-status-ne200-clause-kept : goal.returns-then-status-ne200-clause-kept
returns-then-status-ne200-clause-kept c =
    let starts = c.args.epochs.now.known.starts in
    let other = ne_eqb c.args.got.status 200 (λ is. c.if-status-ne200.true (c.status.ensures.status ∙ is)) in
    rw c.give_back.ensures (brought_other c.args.table.now.limit (kept_in starts c.args.noted.now c.args.table.now.objects) (flight_of starts c.args.flight) c.args.got other)

pub returns-clause-objects : goal.returns-clause-objects
returns-clause-objects c = rw c.fill_reserved.ensures.after (up_filled c.args.epochs.now.known.newest c.sweep.new.table.limit c.sweep.new.table.objects _ c.sweep.ensures.objects c.requires.begun)

pub returns-clause-reply : goal.returns-clause-reply
returns-clause-reply c =
    let flight = flight_of c.args.epochs.now.known.starts c.args.flight in
    let full = eq-eqb c.args.got.status 200 (sym c.status.ensures.status ∙ c.if-status-ne200.false) in
    rw (c.fill_reserved.ensures.reply, c.into_parts-kind.ensures.body, c.sweep.ensures.limit, ← c.sweep.ensures.kept)
    (sym (gained_full c.args.table.now.limit c.sweep.new.table.objects flight c.args.got c.args.flight.what.begun full c.requires.unhit))

pub returns-clause-kept : goal.returns-clause-kept
returns-clause-kept c =
    let flight = flight_of c.args.epochs.now.known.starts c.args.flight in
    let full = eq-eqb c.args.got.status 200 (sym c.status.ensures.status ∙ c.if-status-ne200.false) in
    c.sweep.ensures.fresh c.fill_reserved.new.self.objects (returns-clause-objects c)
    ∙ rw (c.fill_reserved.ensures.after, c.into_parts-kind.ensures.kind, c.into_parts-kind.ensures.body, c.sweep.ensures.limit, ← c.sweep.ensures.kept)
    (sym (brought_full c.args.table.now.limit c.sweep.new.table.objects flight c.args.got c.args.flight.what.begun full c.requires.unhit))

pub returns-then-status-ne200-clause-held : goal.returns-then-status-ne200-clause-held
returns-then-status-ne200-clause-held c = rw c.give_back.ensures (part_or_same _ _)

pub returns-clause-held : goal.returns-clause-held
returns-clause-held c = part_or_kept _ _ _ (c.sweep.ensures.fresh c.fill_reserved.new.self.objects (returns-clause-objects c))

pub returns-clause-tried : goal.returns-clause-tried
returns-clause-tried c = tried_equal _ _ _ _ (c.sweep.ensures.noted ∙ sym c.sweep.ensures.aimed)
