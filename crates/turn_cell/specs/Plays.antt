-- What each step tells the seat that makes it.
use Rattle.std.specs.Prelude.{◌≡◌, ◌≢◌, ℕ, ◌%◌, ◌^◌, List, ◌∷◌, Option, Some}
use Rattle.atomic_table.specs.Table.{Step, Me, rest}
use Rattle.turn_cell.specs.declared.view.View.{View}
use Rattle.turn_cell.specs.declared.view.Stage.TheVariants.{Resting, Waiting, Serving, Joined}
use Rattle.turn_cell.specs.History.{AllBelow, FollowedByOthers}
use Rattle.turn_cell.specs.View.{at_stage, having_seen}

-- a seat's view, with the slots that are out with it
abbrev Sat : Type 0 → Type 0 → Type 0
Sat V E = Me (Option V) (View E)

module _ {V E : Type 0} where
  -- the number found is the seat's ticket
  abbrev pub drew : Step (Option V) → Sat V E → ℕ → Sat V E → Type 0
  drew st m found m' = (k : ℕ) × (found ≡ k % 2 ^ 64) × (m' ≡ (at_stage (Waiting k) m.0, m.1))

  -- what a seat learns as it gets the turn: the whole history, and the slot with a value that stands for it
  abbrev pub Gets : (V → List (ℕ × E) → Type 0) → ℕ → Sat V E → Sat V E → Type 0
  Gets stands k m m' = (x : V) × (h : List (ℕ × E)) × (m' ≡ (having_seen h (Serving k) m.0, (0, Some x) ∷ m.1))
      × FollowedByOthers m.0.numbers m.0.seen h × AllBelow m.0.passes h × stands x h

  -- the seat gets the turn where the number found is its ticket
  abbrev pub looked : (V → List (ℕ × E) → Type 0) → Step (Option V) → Sat V E → ℕ → Sat V E → Type 0
  looked stands st m found m' = (k : ℕ) → m.0.stage ≡ Waiting k → (found ≡ k % 2 ^ 64 → Gets stands k m m')
      × (found ≢ k % 2 ^ 64 → m' ≡ m)

  -- the history is this one, and the turn and the slot are given back
  abbrev pub passed_on : List (ℕ × E) → Step (Option V) → Sat V E → ℕ → Sat V E → Type 0
  passed_on history st m found m' = m' ≡ (having_seen history Resting m.0, rest m.1)

  -- a seat that was made of two learns what follows what each of them had seen
  abbrev pub learned : Step (Option V) → Sat V E → ℕ → Sat V E → Type 0
  learned st m found m' = (m' ≡ (at_stage Resting m.0, m.1))
      × ((ms ns : List ℕ) (a b : List (ℕ × E)) → m.0.stage ≡ Joined ms a ns b → FollowedByOthers ms a m.0.seen
      × FollowedByOthers ns b m.0.seen × AllBelow m.0.passes m.0.seen)
