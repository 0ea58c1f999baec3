-- Tries at bytes.
use Rattle.std.proofs.Common.{ℕ, List}
use Rattle.http_wire.specs.Reading.{Tries, TriesSome}
use Rattle.http_wire.specs.declared.reading.Tried.{Tried}
use Rattle.http_wire.specs.declared.reading.Tried.TheVariants as tried

module _ {H : Type 0} (Spells : List ℕ → H → Type 0) (HasNone IsOpen IsOver : List ℕ → Type 0) where
  pub tries_some : (bytes : List ℕ) (result : Tried H) → Tries Spells HasNone IsOpen IsOver bytes result → TriesSome Spells HasNone IsOpen IsOver bytes result
  tries_some bytes (tried.Whole head size) tries = tries
  tries_some bytes tried.More tries = λ some. tries
  tries_some bytes tried.Never tries = tries
  tries_some bytes tried.Memory tries = tt
