use Rattle.std.proofs.Common.{◌≡◌, ◌++◌, length}
use Rattle.hex.specs.Hex.{encode_lower}
use Rattle.script_line.proofs.answer.put_hex.Given as goal

-- what was written, and the digits of the rest
abbrev pub invariant-parts : goal.invariant-parts
invariant-parts l = l.out.items ++ encode_lower l.rest ≡ l.initial.out.items ++ encode_lower l.bytes

abbrev pub decreases-parts : goal.decreases-parts
decreases-parts l = length l.rest
