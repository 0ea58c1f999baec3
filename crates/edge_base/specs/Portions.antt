-- How much each call of a source or a sink in memory moves.
use Rattle.std.specs.Prelude.{ℕ, List, [], ◌∷◌, min}

-- what the next call may move: all that there is room for, where no number is left
abbrev pub portion : ℕ → List ℕ → ℕ
portion room [] = room
portion room (number ∷ numbers) = min number room
