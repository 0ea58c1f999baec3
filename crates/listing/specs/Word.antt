-- Words of a line.
use Rattle.std.specs.Prelude.{ℕ, ◌+◌, List, take, drop, position, ◌==◌, None, Some}
use Rattle.std.specs.Option.{option_map, option_map_or}
use Rattle.std.specs.declared.option.Option.{Option}

-- what stands before the first such byte, and what stands after it
unfoldable pub parts_at : ℕ → List ℕ → Option (List ℕ × List ℕ)
parts_at byte text = option_map (λ place. (take place text, drop (place + 1) text)) (position (λ x. x == byte) text)

-- what stands before the first such byte, and what stands after it; the whole alone where there is none
abbrev pub parts_or_whole : ℕ → List ℕ → List ℕ × Option (List ℕ)
parts_or_whole byte text = option_map_or (λ parts. (parts.0, Some parts.1)) (parts_at byte text) (text, None)

-- what follows from what was found
infixl 10 ◌>>=◌
abbrev pub ◌>>=◌ : {A B : Type 0} → Option A → (A → Option B) → Option B
◌>>=◌ None next = None
◌>>=◌ (Some a) next = next a
