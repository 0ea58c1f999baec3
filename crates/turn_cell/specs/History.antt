-- Histories: entries, each with the number of the pass that made it, oldest first.
use Rattle.std.specs.Prelude.{◌≡◌, ℕ, zero, suc, ◌+◌, ◌<◌, List, [], ◌∷◌, ◌++◌, length, if◌then◌else◌, nat_lt}
use Rattle.std.specs.List.{All, Contains}

-- m numbers, from a on
abbrev pub numbers_from : ℕ → ℕ → List ℕ
numbers_from a zero = []
numbers_from a (suc m) = a ∷ numbers_from (a + 1) m

module _ {E : Type 0} where
  -- no entry has one of these numbers
  abbrev pub NoneOf : List ℕ → List (ℕ × E) → Type 0
  NoneOf numbers entries = All (λ e. ¬ (Contains numbers e.0)) entries

  -- each entry has this number
  abbrev pub AllOf : ℕ → List (ℕ × E) → Type 0
  AllOf number entries = All (λ e. e.0 ≡ number) entries

  -- each entry has a number below this one
  abbrev pub AllBelow : ℕ → List (ℕ × E) → Type 0
  AllBelow passes entries = All (λ e. e.0 < passes) entries

  -- the second history is the first, followed by entries that have none of these numbers
  abbrev pub FollowedByOthers : List ℕ → List (ℕ × E) → List (ℕ × E) → Type 0
  FollowedByOthers numbers before after = (others : List (ℕ × E)) × (after ≡ before ++ others) × NoneOf numbers others

  -- the same, with this entry at the end
  abbrev pub FollowedByOthersAnd : List ℕ → List (ℕ × E) → ℕ × E → List (ℕ × E) → Type 0
  FollowedByOthersAnd numbers before entry after = (others : List (ℕ × E))
      × (after ≡ (before ++ others) ++ entry ∷ []) × NoneOf numbers others

  -- the second history is the first, followed by entries of this number
  abbrev pub FollowedByOwn : ℕ → List (ℕ × E) → List (ℕ × E) → Type 0
  FollowedByOwn number before after = (own : List (ℕ × E)) × (after ≡ before ++ own) × AllOf number own

  -- the longer of two histories
  abbrev pub longer : List (ℕ × E) → List (ℕ × E) → List (ℕ × E)
  longer a b = (if nat_lt (length a) (length b) then b else a)
