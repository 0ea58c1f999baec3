-- A text with room that was taken before.
use Rattle.std.specs.Prelude.{◌≡◌, ℕ, ◌+◌, ◌<◌, ◌≤◌, Bool, true, false, List, ◌++◌, length}

pub record Room : Type 0 where
  pub text : List ℕ
  pub room : ℕ

-- the bytes were added where they fit, and nothing changed where they do not
abbrev pub Puts : Room → Room → List ℕ → Bool → Type 0
Puts old new bytes true = (length old.text + length bytes ≤ old.room)
    × (new ≡ record { text = old.text ++ bytes; room = old.room })
Puts old new bytes false = (old.room < length old.text + length bytes) × (new ≡ old)
