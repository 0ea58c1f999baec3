-- Clocks in memory.
use Rattle.std.specs.Prelude.{ℕ, zero, suc, ◌+◌, ◌-◌, min, List, [], ◌∷◌, ◌++◌, length, slice_index, ◌==◌, if◌then◌else◌, None, Some}
use Rattle.std.specs.declared.option.Option.{Option}
use Rattle.edge_base.specs.declared.list_clock.TheConstants.{MOST_CALLS}

-- the moments to give, and the number of calls so far
pub record Ticks : Type 0 where
  pub moments : List ℕ
  pub calls : ℕ

-- the moment of a call before which there were so many: the last one of the list where it has no more, 0 where it has
-- none
abbrev pub moment_at : List ℕ → ℕ → ℕ
moment_at moments calls = slice_index moments (min calls (length moments - 1))

-- the moments of the first n calls
unfoldable pub first_moments : List ℕ → ℕ → List ℕ
first_moments moments zero = []
first_moments moments (suc n) = first_moments moments n ++ moment_at moments n ∷ []

-- what a clock tells that it gave
abbrev pub moments_given : Ticks → Option (List ℕ)
moments_given clock = if clock.calls == MOST_CALLS then None else Some (first_moments clock.moments clock.calls)

-- the clock after one call more
abbrev pub after_moment : Ticks → Ticks
after_moment clock = record { moments = clock.moments; calls = min (clock.calls + 1) MOST_CALLS }
