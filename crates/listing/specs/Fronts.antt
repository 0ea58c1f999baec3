-- How much of a text some accepted text begins with.
use Rattle.std.specs.Prelude.{ℕ, ◌≤◌, List, ◌++◌, length, take}

-- the longest prefix of the text with which some accepted text begins has this length
pub record IsLongestFront (IsAccepted : List ℕ → Type 0) (text : List ℕ) (at : ℕ) : Type 0 where
  pub within : at ≤ length text
  pub begins : (rest : List ℕ) × IsAccepted (take at text ++ rest)
  pub longest : (n : ℕ) (rest : List ℕ) → n ≤ length text → IsAccepted (take n text ++ rest) → n ≤ at
