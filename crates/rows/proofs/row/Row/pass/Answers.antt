use Rattle.std.proofs.Common.{◌<◌, ◌+◌, ℕ, arith, length, sym, ap, subst, ◌∙◌}
use Rattle.rows.specs.Cells.{present}
use Rattle.rows.specs.Row.{RowSeen}
use Rattle.rows.proofs.RowLemmas.{count_item, next_placed, seen}
use Rattle.rows.proofs.row.Row.pass.Goals as goal

pub overflow_add-p : goal.overflow_add-p
overflow_add-p g c =
    let i = c.self.inside in
    let e = c.next_place-p.ensures in
    let left = subst (λ (v : RowSeen g.row.T.Denot). v.passed < length v.items) (sym c.self.view_is) c.requires in
    let place = next_placed i.cells.cells i.walk c.next_place-p.result e.same e.within e.there left in
    omega (arith, place.within, e.small)

pub next_place-self-inside-requires : goal.next_place-self-inside-requires
next_place-self-inside-requires g c =
    let i = c.self.inside in
    let e = c.next_place-p.ensures in
    let left = subst (λ (v : RowSeen g.row.T.Denot). v.passed < length v.items) (sym c.self.view_is) c.requires in
    let place = next_placed i.cells.cells i.walk c.next_place-p.result e.same e.within e.there left in
    omega (arith, place.within)

pub returns : goal.returns
returns g c =
    let i = c.self.inside in
    let e = c.next_place-p.ensures in
    let left = subst (λ (v : RowSeen g.row.T.Denot). v.passed < length v.items) (sym c.self.view_is) c.requires in
    let place = next_placed i.cells.cells i.walk c.next_place-p.result e.same e.within e.there left in
    ap (seen (present i.cells.cells) i.spare)
    (ap length c.next_place-self-inside.ensures.same ∙ count_item i.cells.cells c.next_place-p.result place.within place.there ∙ ap (λ (n : ℕ). n + 1) place.before)
    ∙ ap (λ (v : RowSeen g.row.T.Denot). seen v.items v.spare (v.passed + 1)) c.self.view_is
