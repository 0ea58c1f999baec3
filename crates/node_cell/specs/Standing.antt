-- Where a pass stands that calls through a home.
use Rattle.std.specs.Prelude.{◌≡◌, ℕ, List}
use Rattle.atomic_table.specs.Seated.{TableId}
use Rattle.history.specs.declared.call.Call.{Call}

-- its cell and how many passes that was made with, the number of the pass, the numbers that belong to it, and the calls
-- that it has seen
pub record Standing : Type 0 where
  pub table : TableId
  pub passes : ℕ
  pub number : ℕ
  pub numbers : List ℕ
  pub seen : List (ℕ × Call)

-- it is in the same cell, and the same numbers belong to it
pub record StaysIn (old new : Standing) : Type 0 where
  pub table : new.table ≡ old.table
  pub passes : new.passes ≡ old.passes
  pub number : new.number ≡ old.number
  pub numbers : new.numbers ≡ old.numbers
