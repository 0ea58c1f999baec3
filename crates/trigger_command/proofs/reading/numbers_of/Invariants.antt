use Rattle.std.proofs.Common.{◌≡◌, drop}
use Rattle.trigger_command.specs.Draft.{each_from}
use Rattle.trigger_command.specs.Reading.{number_at}
use Rattle.trigger_command.proofs.Loops.{with_front}
use Rattle.trigger_command.proofs.reading.numbers_of.Given as goal

abbrev pub invariant-texts : goal.invariant-texts
invariant-texts l = with_front l.list (each_from (number_at l.control) l.i (drop l.i l.texts)) ≡ each_from (number_at l.control) 0 l.texts
