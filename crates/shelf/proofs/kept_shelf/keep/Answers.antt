use Rattle.std.proofs.Common.{rules, sym, ◌∙◌}
use Rattle.shelf.proofs.ShelfLemmas.{brought_hit}
use Rattle.shelf.proofs.kept_shelf.keep.Goals as goal
use Rattle.shelf.proofs.HeldLemmas.{part_or_same}
use Rattle.shelf.specs.KeptShelf.{flight_of, kept_in}

pub returns-then-is_hit-clause-kept : goal.returns-then-is_hit-clause-kept
returns-then-is_hit-clause-kept c =
    let starts = c.args.epochs.now.known.starts in
    rw c.give_back.ensures (brought_hit c.args.table.now.limit (kept_in starts c.args.noted.now c.args.table.now.objects) (flight_of starts c.args.flight) c.args.outcome
    (sym c.is_hit.ensures ∙ c.if-is_hit.true))

pub returns-then-is_hit-clause-held : goal.returns-then-is_hit-clause-held
returns-then-is_hit-clause-held c = rw c.give_back.ensures (part_or_same _ _)

pub returns-in_default : goal.returns-in_default
returns-in_default c = record {
  reply = search rules;
  kept = search rules;
  held = rw c.give_back-in_default.ensures (part_or_same _ _);
  limit = search rules;
  spare = search rules;
  aim = search rules;
  tried = rw c.give_back-in_default.ensures c.requires.tried;
  objects = search rules;
}
