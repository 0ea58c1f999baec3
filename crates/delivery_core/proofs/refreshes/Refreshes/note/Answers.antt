use Rattle.std.proofs.Common.{◌+◌, ◌-◌, [], ◌∷◌, length, arith, sym, ap, length-append}
use Rattle.delivery_core.proofs.RefreshLemmas.{between_higher, refreshes, with_no_starts, with_since_more}
use Rattle.delivery_core.proofs.refreshes.Refreshes.note.Goals as goal

pub invariant_of-self : goal.invariant_of-self
invariant_of-self c =
    let i = c.self.invariant in
    let few = i.2 in (
      rw (c.push_reserved.ensures, length-append) (between_higher _ _ _ _ i.0 (omega arith)),
      i.1,
      rw (c.push_reserved.ensures, length-append) (omega (arith, few)),
    )

pub returns-in-Some : goal.returns-in-Some
returns-in-Some c =
    let i = c.self.inside in
    rw (← c.self.view_is, c.in-Some.is, c.push_reserved.ensures)
    (ap (λ all. refreshes all i.refreshed (i.started + 1) (i.starts.spare - 1))
    (with_since_more i.first (i.first + length i.starts.stored) i.first i.starts.stored (c.in-Some.start ∷ []) i.row.items c.self.invariant.0 (omega arith) (omega arith)))

pub returns-in-None : goal.returns-in-None
returns-in-None c =
    let i = c.self.inside in
    rw (← c.self.view_is, c.in-None.is) (ap (λ all. refreshes all i.refreshed (i.started + 1) i.starts.spare) (sym (with_no_starts _)))
