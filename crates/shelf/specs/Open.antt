-- What passes began under numbers.
use Rattle.std.specs.Prelude.{ℕ, ◌<◌, ◌≤◌, Bool, not, ◌==◌, ◌&&◌, List, [], ◌∷◌, filter}
use Rattle.shelf.specs.declared.open.Open.{Open}

module _ {T : Type 0} where
  -- this pass began it under this number
  abbrev pub is_named : ℕ → ℕ → Open T → Bool
  is_named number pass one = one.number == number && one.pass == pass

  -- the others
  abbrev pub unnamed : ℕ → ℕ → List (Open T) → List (Open T)
  unnamed number pass all = filter (λ one. not (is_named number pass one)) all

  -- none has a greater number
  abbrev pub AreUpTo : ℕ → List (Open T) → Type 0
  AreUpTo last [] = Unit {0}
  AreUpTo last (one ∷ others) = (one.number ≤ last) × AreUpTo last others

  -- their numbers rise, from above this one on
  abbrev pub AreRising : ℕ → List (Open T) → Type 0
  AreRising low [] = Unit {0}
  AreRising low (one ∷ others) = (low < one.number) × AreRising one.number others
