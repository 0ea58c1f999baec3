use Rattle.std.proofs.Common.{◌≡◌, ◌+◌, ◌≤◌, length}
use Rattle.measures.proofs.journals.pass_through.Given as goal

-- the places that are left, and how many entries are stored
abbrev pub invariant-entries : goal.invariant-entries
invariant-entries l = record {
  spare : l.count ≤ l.journal.spare + l.number;
  stored : length l.journal.stored ≡ length l.initial.journal.stored;
}
