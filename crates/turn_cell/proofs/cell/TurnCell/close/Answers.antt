use Rattle.std.proofs.Common.{Contains, sym, ap, subst}
use Rattle.turn_cell.specs.Cell.{seen_in, numbers_in}
use Rattle.turn_cell.proofs.Seats.{resting, same_some}
use Rattle.turn_cell.proofs.Passes.{closed_value}
use Rattle.turn_cell.proofs.cell.TurnCell.close.Goals as goal

pub unreachable-requires : goal.unreachable-requires
unreachable-requires g c =
    let same = c.into_seat.ensures.2 in
    let a = resting _ _ _ _ same c.requires.pass.2 in
    let v = closed_value g.V.Stands.stands _ _ _ _ _ _ c.close_with-closed.ensures.values.2 c.take-old.ensures.value a.0 (λ x lt. subst (λ vs. Contains (numbers_in vs) x) same (c.requires.all x lt)) in
    c.in_default.not-Some v.0 v.1

pub returns : goal.returns
returns g c =
    let same = c.into_seat.ensures.2 in
    let a = resting _ _ _ _ same c.requires.pass.2 in
    let v = closed_value g.V.Stands.stands _ _ _ _ _ _ c.close_with-closed.ensures.values.2 c.take-old.ensures.value a.0 (λ x lt. subst (λ vs. Contains (numbers_in vs) x) same (c.requires.all x lt)) in
    subst (g.V.Stands.stands c.in-Some.value) (sym (ap seen_in same)) (subst (λ x. g.V.Stands.stands x c.into_seat.result.me.0.seen) (same_some _ _ _ v.1 c.in-Some.is) v.2)
