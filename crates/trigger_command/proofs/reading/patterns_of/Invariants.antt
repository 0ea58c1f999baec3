use Rattle.std.proofs.Common.{◌≡◌, ◌+◌, drop, length}
use Rattle.trigger_command.specs.Draft.{each_from}
use Rattle.trigger_command.specs.Reading.{pattern_item_at}
use Rattle.trigger_command.proofs.Loops.{with_front}
use Rattle.trigger_command.proofs.reading.patterns_of.Given as goal

abbrev pub invariant-drafts : goal.invariant-drafts
invariant-drafts l = record {
  read : with_front l.list (each_from pattern_item_at (l.from + l.i) (drop l.i l.drafts)) ≡ each_from pattern_item_at l.from l.drafts;
  count : length l.list ≡ l.i;
}
