-- Items of a list that either all read, or the list is not understood.
use Rattle.std.specs.Prelude.{◌≡◌, ℕ, List, [], ◌∷◌, ◌++◌, Bool, true, false, None, Some}
use Rattle.std.specs.Option.{option_map, option_and_then}
use Rattle.std.specs.declared.option.Option.{Option}
use Rattle.serde_json.specs.Data.{Data, Items, no_items, item}
use Rattle.serde_json.specs.Find.{as_str}

-- each item, where all of them read
unfoldable pub each_of : {A : Type 0} → (Data → Option A) → Items → Option (List A)
each_of read no_items = Some []
each_of read (item value values) =
    option_and_then (λ first. option_map (λ others. first ∷ others) (each_of read values)) (read value)

-- an item that is a text
unfoldable pub name_in : Data → Option (List ℕ)
name_in value = as_str value

-- a reader of items that adds them to a list tells whether they read
abbrev pub Adds : {A : Type 0} → List A → Bool → List A → Option (List A) → Type 0
Adds before added after None = added ≡ false
Adds before added after (Some items) = (added ≡ true) × (after ≡ before ++ items)
