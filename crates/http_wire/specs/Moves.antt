-- What a reading took.
use Rattle.std.specs.Prelude.{◌≡◌, ℕ, List, ◌++◌, Some}
use Rattle.std.specs.declared.option.Option.{Option}
use Rattle.std.specs.Io.KnownBytes.{Consumes}

-- these bytes were taken off the front of what was read ahead and then of what the source has left
pub record Moves (old new : Option (List ℕ)) (before after bytes : List ℕ) : Type 0 where
  pub taken : List ℕ
  pub consumed : Consumes old new taken
  pub parts : before ++ taken ≡ bytes ++ after

-- a source that tells has these bytes left, and they follow those that were read ahead
abbrev pub IsToCome : Option (List ℕ) → List ℕ → List ℕ → Type 0
IsToCome old before text = (left : List ℕ) × (old ≡ Some left) × (before ++ left ≡ text)
