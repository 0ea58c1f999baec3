use Rattle.std.proofs.Common.{◌≡◌, ◌++◌, take}
use Rattle.std.specs.List.{flat_map}
use Rattle.script_line.specs.Answer.{endpoint_word}
use Rattle.script_line.proofs.answer.put_plan.Given as goal

abbrev pub invariant-endpoints : goal.invariant-endpoints
invariant-endpoints l = l.out.items ≡ l.initial.out.items ++ flat_map endpoint_word (take l.endpoint-index l.plan)
