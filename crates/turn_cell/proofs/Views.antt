-- Facts on views: the tickets among them, and how what a seat's stage says lasts.
use Rattle.std.proofs.Common.{◌≡◌, ◌≢◌, ℕ, zero, suc, ◌+◌, ◌<◌, ◌≤◌, List, [], ◌∷◌, ◌++◌, length, set, sym, ap, subst, arith}
use mathlib.Core.Option.{some, some-injective, some-ne-none}
use lib.ListN.{get_elem?}
use Rattle.turn_cell.specs.declared.view.View.{View}
use Rattle.turn_cell.specs.declared.view.Stage.{Stage}
use Rattle.turn_cell.specs.declared.view.Stage.TheVariants.{Making, Resting, Waiting, Serving, Joined}
use Rattle.turn_cell.specs.Rule.{HasTicket, tickets_of, tickets, IsAt}

module _ {E : Type 0} where
  tickets_of-le : (st : Stage E) → tickets_of st ≤ 1
  tickets_of-le Making = omega arith
  tickets_of-le Resting = omega arith
  tickets_of-le (Waiting k) = omega arith
  tickets_of-le (Serving k) = omega arith
  tickets_of-le (Joined ms a ns b) = omega arith

  pub tickets-le : (vs : List (View E)) → tickets vs ≤ length vs
  tickets-le [] = omega arith
  tickets-le (v ∷ vs) = let h = tickets-le vs in let one = tickets_of-le v.stage in omega arith

  pub tickets-push : (vs : List (View E)) (v : View E) → tickets (vs ++ v ∷ []) ≡ tickets vs + tickets_of v.stage
  tickets-push [] v = omega arith
  tickets-push (w ∷ vs) v = let h = tickets-push vs v in omega arith

  pub tickets-set : (vs : List (View E)) (i : ℕ) (v w : View E) → get_elem? vs i ≡ some v → tickets (set vs i w) + tickets_of v.stage ≡ tickets vs + tickets_of w.stage
  tickets-set [] i v w e = absurd (some-ne-none v (sym e))
  tickets-set (u ∷ vs) zero v w e = let same : tickets_of u.stage ≡ tickets_of v.stage = ap (λ (x : View E). tickets_of x.stage) (some-injective u v e) in omega arith
  tickets-set (u ∷ vs) (suc i) v w e = let h = tickets-set vs i v w e in omega arith

  -- the same, by the stages
  pub tickets-set_at : (vs : List (View E)) (i : ℕ) (v w : View E) (st : Stage E) → get_elem? vs i ≡ some v → v.stage ≡ st → tickets (set vs i w) + tickets_of st ≡ tickets vs + tickets_of w.stage
  tickets-set_at vs i v w st e is = subst (λ (z : Stage E). tickets (set vs i w) + tickets_of z ≡ tickets vs + tickets_of w.stage) is (tickets-set vs i v w e)

  abbrev pub NotServing : Stage E → Type 0
  NotServing st = (k : ℕ) → st ≡ Serving k → ⊥

module _ {E : Type 0} (passes served drawn seats : ℕ) (log : List (ℕ × E)) (id : ℕ) (v : View E) where
  -- a ticket of a seat was drawn
  pub ticket_below : (st : Stage E) → IsAt passes served drawn seats log id v st → (t : ℕ) → HasTicket st t → t < drawn
  ticket_below Making at t h = absurd h
  ticket_below Resting at t h = absurd h
  ticket_below (Waiting k) at t h = let lt = at.1 in omega arith
  ticket_below (Serving k) at t h = let lt = at.1 in omega arith
  ticket_below (Joined ms a ns b) at t h = absurd h

  -- one more ticket is drawn
  pub at_drawn : (st : Stage E) → IsAt passes served drawn seats log id v st → IsAt passes served (drawn + 1) seats log id v st
  at_drawn Making at = at
  at_drawn Resting at = at
  at_drawn (Waiting k) at = let lt = at.1 in (at.0, omega arith, at.2)
  at_drawn (Serving k) at = let lt = at.1 in (at.0, omega arith, at.2, at.3)
  at_drawn (Joined ms a ns b) at = at

  -- the turn is passed on by another seat
  pub at_next : (st : Stage E) (log' : List (ℕ × E)) → IsAt passes served drawn seats log id v st → (HasTicket st served → ⊥) → IsAt passes (served + 1) drawn seats log' id v st
  at_next Making log' at other = at
  at_next Resting log' at other = at
  at_next (Waiting k) log' at other = let le = at.0 in let ne : k ≢ served = other in (omega arith, at.1, at.2)
  at_next (Serving k) log' at other = absurd (other at.0)
  at_next (Joined ms a ns b) log' at other = at

  -- there are more seats, but for the maker
  pub at_seats : (st : Stage E) (seats' : ℕ) → IsAt passes served drawn seats log id v st → id ≢ 0 → IsAt passes served drawn seats' log id v st
  at_seats Making seats' at other = absurd (other at.0)
  at_seats Resting seats' at other = at
  at_seats (Waiting k) seats' at other = at
  at_seats (Serving k) seats' at other = at
  at_seats (Joined ms a ns b) seats' at other = at
