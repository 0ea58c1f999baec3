use Rattle.std.proofs.Common.{◌≡◌, ◌≤◌, drop}
use Rattle.std.specs.VecDeque.{deque_len, deque_capacity}
use Rattle.journal.proofs.Journal.retire.Given as goal

-- what is left of the entries, in the same capacity
abbrev pub invariant-retire : goal.invariant-retire
invariant-retire g l = record {
  left : l.self-inside.entries.items ≡ drop l.counter l.initial.self-inside.entries.items;
  fewer : deque_len l.self-inside.entries ≤ deque_len l.initial.self-inside.entries;
  capacity : deque_capacity l.self-inside.entries ≡ deque_capacity l.initial.self-inside.entries;
  retired : l.self-inside.retired ≡ l.initial.self-inside.retired;
}
