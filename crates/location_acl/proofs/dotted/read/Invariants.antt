use Rattle.std.proofs.Common.{◌≡◌, ℕ, List, ◌++◌, take, drop}
use Rattle.location_acl.specs.Dotted.{dotted_run, dotted_of}
use Rattle.location_acl.proofs.dotted.read.Given as goal

-- the front is that of the bytes so far
abbrev pub invariant-bytes : goal.invariant-bytes
invariant-bytes l = record { rest : dotted_run l.front (drop l.at l.text) ≡ dotted_of l.text; reached : (more : List ℕ) → dotted_of (take l.at l.text ++ more) ≡ dotted_run l.front more }
