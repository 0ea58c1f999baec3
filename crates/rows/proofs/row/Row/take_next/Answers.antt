use Rattle.std.proofs.Common.{List, Option, length, remove, slice_get, take, sym, ap, ◌∙◌}
use Rattle.rows.specs.Cells.{present}
use Rattle.rows.specs.Row.{RowSeen}
use Rattle.rows.proofs.RowLemmas.{gone_set, index_placed, row_taken, seen, taken_before}
use Rattle.rows.proofs.row.Row.take_next.Goals as goal

pub first_place-self-inside-requires-clause-gone : goal.first_place-self-inside-requires-clause-gone
first_place-self-inside-requires-clause-gone g c =
    let i = c.self.inside in
    ap (λ (xs : List (Option g.row.T.Denot)). present (take i.front xs)) c.take-taken.ensures.cells
    ∙ gone_set i.cells.cells i.front c.next_place-p.result c.self.invariant.gone

pub invariant_of-self : goal.invariant_of-self
invariant_of-self g c =
    let i = c.self.inside in
    let now = c.take-taken.new.self in
    row_taken i.cells now i.count i.front i.spare i.walk c.first_place-self-inside.result c.next_place-p.result c.next_place-self-inside.result c.in-Some.item c.self.invariant
    (sym c.take-taken.ensures.taken ∙ c.in-Some.is) c.take-taken.ensures.cells c.take-taken.ensures.spare c.take-taken.ensures.room
    c.first_place-self-inside.ensures.gone c.first_place-self-inside.ensures.within
    c.next_place-self-inside.ensures.within

pub returns-clause-out : goal.returns-clause-out
returns-clause-out g c =
    let i = c.self.inside in
    let p = c.next_place-p.result in
    ap (λ (v : RowSeen g.row.T.Denot). slice_get v.items v.passed) (sym c.self.view_is)
    ∙ (index_placed i.cells.cells p (length (present (take i.walk i.cells.cells))) c.in-Some.item (ap length c.next_place-p.ensures.same)
    (sym c.take-taken.ensures.taken ∙ c.in-Some.is)).0

pub returns-clause-after : goal.returns-clause-after
returns-clause-after g c =
    let i = c.self.inside in
    let p = c.next_place-p.result in
    let now = c.take-taken.new.self.cells in
    let n = length (present (take i.walk i.cells.cells)) in
    ap (seen (present now) i.spare)
    (ap length c.next_place-self-inside.ensures.same
    ∙ ap (λ (xs : List (Option g.row.T.Denot)). length (present (take p xs))) c.take-taken.ensures.cells
    ∙ ap length (taken_before i.cells.cells p ∙ c.next_place-p.ensures.same))
    ∙ ap (λ (xs : List g.row.T.Denot). seen xs i.spare n)
    (ap present c.take-taken.ensures.cells
    ∙ (index_placed i.cells.cells p n c.in-Some.item (ap length c.next_place-p.ensures.same) (sym c.take-taken.ensures.taken ∙ c.in-Some.is)).1)
    ∙ ap (λ (v : RowSeen g.row.T.Denot). seen (remove v.items v.passed) v.spare v.passed) c.self.view_is
