-- The rule of a cell, which holds between any two atomic steps. Word 0 is the next ticket, word 1 the ticket that is
-- served, slot 0 the value.
use Rattle.std.specs.Prelude.{◌≡◌, ℕ, ◌+◌, ◌%◌, ◌^◌, ◌<◌, ◌≤◌, ◌⊎◌, List, [], ◌∷◌, length, Option, Some}
use Rattle.std.specs.List.{Contains}
use mathlib.Core.Option as maybe
use lib.ListN.{get_elem?}
use Rattle.atomic_table.specs.Table.{State}
use Rattle.turn_cell.specs.declared.view.View.{View}
use Rattle.turn_cell.specs.declared.view.Stage.{Stage}
use Rattle.turn_cell.specs.declared.view.Stage.TheVariants.{Making, Resting, Waiting, Serving, Joined}
use Rattle.turn_cell.specs.History.{numbers_from, AllBelow, FollowedByOthers}

module _ {E : Type 0} where
  -- the seat has drawn this ticket, and has not passed its turn on
  abbrev pub HasTicket : Stage E → ℕ → Type 0
  HasTicket (Waiting k) t = k ≡ t
  HasTicket (Serving k) t = k ≡ t
  HasTicket _ t = ⊥

  abbrev pub tickets_of : Stage E → ℕ
  tickets_of (Waiting k) = 1
  tickets_of (Serving k) = 1
  tickets_of _ = 0

  -- how many seats have a ticket
  abbrev pub tickets : List (View E) → ℕ
  tickets [] = 0
  tickets (v ∷ vs) = tickets_of v.stage + tickets vs

  -- somebody has the turn
  abbrev pub IsServed : List (View E) → Type 0
  IsServed views = (id : ℕ) × (v : View E) × (k : ℕ) × (get_elem? views id ≡ maybe.some v) × (v.stage ≡ Serving k)

  -- nobody has the turn
  abbrev pub IsFree : List (View E) → Type 0
  IsFree views = (id : ℕ) (v : View E) (k : ℕ) → get_elem? views id ≡ maybe.some v → v.stage ≡ Serving k → ⊥

  module _ (passes served drawn seats : ℕ) (log : List (ℕ × E)) (id : ℕ) (v : View E) where
    -- The maker is the first seat, and has numbers in order. A ticket is one of those that were drawn and not yet
    -- passed on. The turn belongs to the ticket served, and who has it has seen the whole history.
    abbrev pub IsAt : Stage E → Type 0
    IsAt Making = (id ≡ 0) × (seats + length v.numbers ≤ passes + 1) × (v.seen ≡ []) × ((a : ℕ)
        × (v.numbers ≡ numbers_from a (length v.numbers)))
    IsAt Resting = Unit {0}
    IsAt (Waiting k) = (served ≤ k) × (k < drawn) × (0 < length v.numbers)
    IsAt (Serving k) = (k ≡ served) × (k < drawn) × (0 < length v.numbers) × (v.seen ≡ log)
    IsAt (Joined ms a ns b) = FollowedByOthers ms a v.seen × FollowedByOthers ns b v.seen

  -- What the rule says of one seat: each of its numbers belongs to it alone, and so does its ticket, and what it has
  -- seen is a beginning of the history, past which no entry has a number of its own.
  pub record Fits (passes served drawn seats : ℕ) (log : List (ℕ × E)) (owner holder : ℕ
      → ℕ) (id : ℕ) (v : View E) : Type 0 where
    pub knows_passes : 0 < length v.numbers → v.passes ≡ passes
    pub numbers : (x : ℕ) → Contains v.numbers x → (x < passes) × (owner x ≡ id)
    pub ticket : (k : ℕ) → HasTicket v.stage k → holder k ≡ id
    pub begins : FollowedByOthers v.numbers v.seen log
    pub stage : IsAt passes served drawn seats log id v v.stage

  -- Where somebody has the turn, the value is out with it. Otherwise the slot has a value that stands for the whole
  -- history.
  abbrev pub Slot : {V : Type 0} → (V → List (ℕ × E) → Type 0) → List (ℕ × E) → List (maybe.Option (Option V))
      → List (View E) → Type 0
  Slot {V} stands log homes views = (IsServed views × (homes ≡ maybe.none ∷ []))
      ⊎ (IsFree views × ((x : V) × (homes ≡ maybe.some (Some x) ∷ []) × stands x log))

-- The tickets below `served` were passed on, and those from `served` up to `drawn` are waiting or served, one with each
-- seat that has a ticket. They count without an end. `owner x` is the seat to which the number x belongs, and `holder
-- k` the seat with the ticket k. The history is the longest that a seat has seen.
pub record Kept {V E : Type 0} (stands : V → List (ℕ × E)
    → Type 0) (passes : ℕ) (s : State (Option V) (View E)) : Type 0 where
  pub served : ℕ
  pub drawn : ℕ
  pub log : List (ℕ × E)
  pub owner : ℕ → ℕ
  pub holder : ℕ → ℕ
  pub longest : ℕ
  pub words : s.words ≡ (drawn % 2 ^ 64) ∷ (served % 2 ^ 64) ∷ []
  pub counted : drawn ≡ served + tickets s.views
  pub few_seats : length s.views ≤ passes + 1
  pub few_passes : passes < 2 ^ 32
  pub made : AllBelow passes log
  pub each_seat : (id : ℕ) (v : View E) → get_elem? s.views id ≡ maybe.some v
      → Fits passes served drawn (length s.views) log owner holder id v
  pub each_number : (x : ℕ) → x < passes → (v : View E) × (get_elem? s.views (owner x) ≡ maybe.some v)
      × Contains v.numbers x
  pub seen_by : (v : View E) × (get_elem? s.views longest ≡ maybe.some v) × (v.seen ≡ log)
  pub slot : Slot stands log s.homes s.views
