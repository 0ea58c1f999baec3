use Rattle.std.proofs.Common.{◌≡◌, length}
use Rattle.client_hub.specs.Behind.{says_close}
use Rattle.client_hub.proofs.behind.says_close.Given as goal

abbrev pub invariant-options : goal.invariant-options
invariant-options l = says_close l.rest ≡ says_close l.options

abbrev pub decreases-options : goal.decreases-options
decreases-options l = length l.rest
