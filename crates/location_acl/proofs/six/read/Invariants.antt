use Rattle.std.proofs.Common.{◌≡◌, ℕ, List, ◌++◌, take, drop}
use Rattle.location_acl.specs.Six.{six_run, six_of, IsSound}
use Rattle.location_acl.proofs.six.read.Given as goal

-- the front is that of the bytes so far
abbrev pub invariant-bytes : goal.invariant-bytes
invariant-bytes l = record { sound : IsSound l.front; rest : six_run l.front (drop l.at l.text) ≡ six_of l.text; reached : (more : List ℕ) → six_of (take l.at l.text ++ more) ≡ six_run l.front more }
