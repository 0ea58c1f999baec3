use Rattle.std.proofs.Common.{◌≡◌, ◌++◌, take}
use Rattle.std.specs.List.{flat_map}
use Rattle.script_line.specs.Answer.{more_status}
use Rattle.script_line.proofs.answer.put_more_statuses.Given as goal

abbrev pub invariant-statuses : goal.invariant-statuses
invariant-statuses l = l.out.items ≡ l.initial.out.items ++ flat_map more_status (take l.status-index l.statuses)
