-- What callers can take from the words of the contracts.
use Rattle.std.proofs.Common.{◌≡◌, ◌≢◌, ℕ, List, ◌++◌, All, Contains, sym, subst, arith}
use Rattle.turn_cell.specs.declared.pass.Pass.{Pass}
use Rattle.turn_cell.specs.declared.cell.TurnCell.{TurnCell}
use Rattle.turn_cell.specs.History.{numbers_from, AllBelow, FollowedByOthers}
use Rattle.turn_cell.specs.Cell.{number_of, numbers_of, seen_of, numbers_in, seen_in, passes_of, IsOf, HasAllNumbers}
use Rattle.turn_cell.proofs.Histories.{numbers_from-has}

module _ {V E : Type 0} (cell : TurnCell V E) (pass : Pass E) where
  -- a pass without a turn has its own number
  pub own_number : IsOf cell pass → Contains (numbers_of pass) (number_of pass)
  own_number is = subst (λ views. Contains (numbers_in views) pass.number) (sym is.2.1) is.2.2.2

  -- each entry that it has seen has a number of the cell's passes
  pub seen_below : IsOf cell pass → AllBelow (passes_of cell) (seen_of pass)
  seen_below is = subst (λ views. AllBelow (passes_of cell) (seen_in views)) (sym is.2.1) is.2.2.3

  -- a pass with the numbers of all passes can close the cell
  pub has_all_numbers : numbers_of pass ≡ numbers_from 0 (passes_of cell) → HasAllNumbers cell pass
  has_all_numbers is x lt = subst (λ ns. Contains ns x) (sym is) (numbers_from-has 0 (passes_of cell) x (omega arith) (omega arith))

-- entries of others have none of the numbers
pub others_without : {E : Type 0} (numbers : List ℕ) (a b : List (ℕ × E)) (x : ℕ) → FollowedByOthers numbers a b → Contains numbers x → (others : List (ℕ × E)) × (b ≡ a ++ others) × All (λ e. e.0 ≢ x) others
others_without numbers a b x f has = (f.0, f.1, (λ k d lt e. f.2 k d lt (subst (λ y. Contains numbers y) (sym e) has)))
