use Rattle.std.proofs.Common.{◌≡◌, length}
use Rattle.client_hub.specs.Behind.{lines_of, head_lines}
use Rattle.client_hub.proofs.behind.request_line.Given as goal

abbrev pub invariant-lines : goal.invariant-lines
invariant-lines l = head_lines (lines_of l.rest) ≡ head_lines (lines_of l.head)

abbrev pub decreases-lines : goal.decreases-lines
decreases-lines l = length l.rest
