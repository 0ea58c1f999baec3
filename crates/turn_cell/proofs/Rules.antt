-- Each part of the rule by itself.
use Rattle.std.proofs.Common.{◌≡◌, ℕ, ◌<◌, ◌≤◌, ◌⊎◌, List, [], ◌∷◌, ◌++◌, length, Contains, Option, Some, sym, ◌∙◌, subst, inl, inr, ⊎_elim, arith}
use Rattle.std.proofs.lemmas.List.Elements.{Contains-append_left, Contains-append_cases, All-contains}
use mathlib.Core.Logic.{dite}
use mathlib.Core.Option as maybe
use native.Mathlib.Decide.{dec_le}
use Rattle.atomic_table.specs.Table.{State}
use Rattle.turn_cell.specs.declared.view.View.{View}
use Rattle.turn_cell.specs.declared.view.Stage.{Stage}
use Rattle.turn_cell.specs.declared.view.Stage.TheVariants.{Making, Resting, Waiting, Serving, Joined}
use Rattle.turn_cell.specs.History.{AllBelow}
use Rattle.turn_cell.specs.Rule.{HasTicket, IsServed, IsFree, IsAt, Kept}
use Rattle.turn_cell.specs.Laws.{IsBeginning, SeenInOneOrder, NumbersHaveOneOwner, OwnersHaveSeen, TicketsAreCounted, IsLongest, SlotHasLongest}
use Rattle.turn_cell.proofs.Histories.{all_left, between}
use Rattle.turn_cell.proofs.Views.{ticket_below}
use Rattle.turn_cell.proofs.Steps.{stage_at}

module _ {E : Type 0} where
  -- two beginnings of one history
  pub one_of : (a o b p : List (ℕ × E)) → a ++ o ≡ b ++ p → IsBeginning a b ⊎ IsBeginning b a
  one_of a o b p e = dite (dec_le (length a) (length b))
      (λ le. let m = between a o b p e le in inl (m.0, m.1))
      (λ more. let m = between b p a o (sym e) (omega arith) in inr (m.0, m.1))

  module _ (passes served drawn seats : ℕ) (log : List (ℕ × E)) (id : ℕ) (v : View E) where
    ticket_from : (st : Stage E) → IsAt passes served drawn seats log id v st → (k : ℕ) → HasTicket st k → served ≤ k
    ticket_from Making at k h = absurd h
    ticket_from Resting at k h = absurd h
    ticket_from (Waiting t) at k h = let le = at.0 in omega arith
    ticket_from (Serving t) at k h = let e = at.0 in omega arith
    ticket_from (Joined ms a ns b) at k h = absurd h

module _ {V E : Type 0} (stands : V → List (ℕ × E) → Type 0) (passes : ℕ) (s : State (Option V) (View E)) (r : Kept stands passes s) where
  pub one_order : SeenInOneOrder s.views
  one_order i j v w at at' =
      let f = r.each_seat i v at in
      let g = r.each_seat j w at' in
      one_of v.seen f.begins.0 w.seen g.begins.0 (sym f.begins.1 ∙ g.begins.1)

  pub one_owner : NumbersHaveOneOwner passes s.views
  one_owner = (
    (λ x lt. let o = r.each_number x lt in (r.owner x, o.0, o.1, o.2, (λ j w at c. sym (((r.each_seat j w at).numbers x c).1)))),
    (λ i v x at c. ((r.each_seat i v at).numbers x c).0),
  )

  pub owners_see : OwnersHaveSeen passes s.views
  owners_see i v at =
      let f = r.each_seat i v at in
      let made : AllBelow passes (v.seen ++ f.begins.0) = subst (AllBelow passes) f.begins.1 r.made in (
        all_left (λ (e : ℕ × E). e.0 < passes) v.seen f.begins.0 made,
        (λ j w e at' seen own.
            let g = r.each_seat j w at' in
            let whole : Contains (w.seen ++ g.begins.0) e = subst (λ (l : List (ℕ × E)). Contains l e) (sym f.begins.1 ∙ g.begins.1) (Contains-append_left v.seen f.begins.0 e seen) in
            ⊎_elim (λ (c : Contains w.seen e). c) (λ (c : Contains g.begins.0 e). absurd (All-contains (λ (z : ℕ × E). ¬ (Contains w.numbers z.0)) g.begins.0 e g.begins.2 c own)) (Contains-append_cases w.seen g.begins.0 e whole)),
      )

  pub tickets_counted : TicketsAreCounted s.words s.views
  tickets_counted = (
    r.served,
    r.drawn,
    r.words,
    r.counted,
    (λ i v k at h. let f = r.each_seat i v at in (
      ticket_from passes r.served r.drawn (length s.views) r.log i v v.stage f.stage k h,
      ticket_below passes r.served r.drawn (length s.views) r.log i v v.stage f.stage k h,
      (λ j w at' h'. sym ((r.each_seat j w at').ticket k h') ∙ f.ticket k h),
    )),
    (λ i v k at is. (stage_at stands passes s r i v (Serving k) at is).0),
  )

  longest : IsLongest s.views r.log
  longest = ((λ i v at. let f = r.each_seat i v at in (f.begins.0, f.begins.1)), (r.longest, r.seen_by.0, r.seen_by.1, r.seen_by.2))

  pub slot_has_longest : SlotHasLongest stands s
  slot_has_longest = (
    (λ free. ⊎_elim (λ (t : IsServed s.views × (s.homes ≡ maybe.none ∷ [])). absurd (free t.0.0 t.0.1 t.0.2 t.0.3 t.0.4))
        (λ (t : IsFree s.views × ((x : V) × (s.homes ≡ maybe.some (Some x) ∷ []) × stands x r.log)). (t.1.0, r.log, t.1.1, t.1.2, longest)) r.slot),
    (λ i v k at is. (
      ⊎_elim (λ (t : IsServed s.views × (s.homes ≡ maybe.none ∷ [])). t.1)
          (λ (t : IsFree s.views × ((x : V) × (s.homes ≡ maybe.some (Some x) ∷ []) × stands x r.log)). absurd (t.0 i v k at is)) r.slot,
      subst (IsLongest s.views) (sym ((stage_at stands passes s r i v (Serving k) at is).3)) longest,
    )),
  )
