use Rattle.std.proofs.Common.{◌≡◌, map, take}
use Rattle.control_core.proofs.control.Control.file_numbers.Given as goal

abbrev pub invariant-files : goal.invariant-files
invariant-files l = l.numbers ≡ map (λ file. file.number) (take l.file-index l.file-items)
