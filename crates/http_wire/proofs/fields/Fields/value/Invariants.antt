use Rattle.std.proofs.Common.{◌≡◌, [], ◌∷◌, take, MatchOption}
use Rattle.http_wire.specs.Fields.{values_of}
use Rattle.http_wire.proofs.fields.Fields.value.Given as goal

abbrev pub invariant-loop-i : goal.invariant-loop-i
invariant-loop-i l = let values = values_of l.name (take l.i l.self.headers) in MatchOption l.found (values ≡ []) (λ value. values ≡ value.now ∷ [])
