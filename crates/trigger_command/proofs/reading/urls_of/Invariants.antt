use Rattle.std.proofs.Common.{◌≡◌, ◌+◌, drop, length}
use Rattle.trigger_command.specs.Draft.{each_from}
use Rattle.trigger_command.specs.Reading.{url_at}
use Rattle.trigger_command.proofs.Loops.{with_front}
use Rattle.trigger_command.proofs.reading.urls_of.Given as goal

abbrev pub invariant-texts : goal.invariant-texts
invariant-texts l = record {
  read : with_front l.list (each_from url_at (l.from + l.i) (drop l.i l.texts)) ≡ each_from url_at l.from l.texts;
  count : length l.list ≡ l.i;
}
