-- What a log of places is seen as: each place has an item or is a gap.
use Rattle.std.specs.Prelude.{◌≡◌, ℕ, Bool, true, List, None, Some, map, get_or, set, slice_get, option_map, filter_map}
use Rattle.std.specs.declared.option.Option.{Option}

-- the places in order, how many more items can be pushed without memory, and how many places can be added without it
pub record CellsSeen (T : Type 0) : Type 0 where
  pub cells : List (Option T)
  pub spare : ℕ
  pub room : ℕ

module _ {T : Type 0} where
  -- what stands at a place that names the entry of an item
  abbrev pub cell_of : List (T × ℕ) → Option ℕ → Option T
  cell_of entries None = None
  cell_of entries (Some i) = option_map (λ e. e.0) (slice_get entries i)

  -- what stands at each place of a log
  abbrev pub cells_of : List (T × ℕ) → List (Option ℕ) → List (Option T)
  cells_of entries log = map (cell_of entries) log

  -- each entry knows its place in the log, and each place that is no gap its entry
  pub record AreTied (entries : List (T × ℕ)) (log : List (Option ℕ)) : Type 0 where
    pub back : (i : ℕ) (o : T) (p : ℕ) → slice_get entries i ≡ Some (o, p) → get_or log p None ≡ Some i
    pub there : (p i : ℕ) → get_or log p None ≡ Some i → (o : T) × (slice_get entries i ≡ Some (o, p))

  -- the log in which the place of this entry names it by its number
  abbrev pub relinked : Option (T × ℕ) → ℕ → List (Option ℕ) → List (Option ℕ)
  relinked None i log = log
  relinked (Some e) i log = set log e.1 (Some i)

  -- the items that stand in these places, in order
  abbrev pub present : List (Option T) → List T
  present cells = filter_map (λ cell. cell) cells

  -- two places whose items pass the test are one
  abbrev pub AreApart : (T → Bool) → List (Option T) → Type 0
  AreApart test cells = (p q : ℕ) (a b : T) → get_or cells p None ≡ Some a → get_or cells q None ≡ Some b
      → test a ≡ true → test b ≡ true → p ≡ q

  -- the places after this, which stands at one place, was moved to another
  abbrev pub slid : List (Option T) → ℕ → ℕ → Option T → List (Option T)
  slid cells p to None = cells
  slid cells p to (Some o) = set (set cells p None) to (Some o)
