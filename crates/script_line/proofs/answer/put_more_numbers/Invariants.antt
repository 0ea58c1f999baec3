use Rattle.std.proofs.Common.{◌≡◌, ◌++◌, take}
use Rattle.std.specs.List.{flat_map}
use Rattle.script_line.specs.Answer.{more_number}
use Rattle.script_line.proofs.answer.put_more_numbers.Given as goal

abbrev pub invariant-numbers : goal.invariant-numbers
invariant-numbers l = l.out.items ≡ l.initial.out.items ++ flat_map more_number (take l.number-index l.numbers)
