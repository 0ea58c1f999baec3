use Rattle.std.proofs.Common.{◌++◌, ◌∷◌, List, Option, None, length, length-set, get_or, take, option_to_list, arith, sym, ap, ◌∙◌}
use Rattle.rows.specs.Cells.{present}
use Rattle.rows.specs.Row.{RowSeen}
use Rattle.rows.proofs.RowLemmas.{item_at, some_counted, gone_set, row_taken, first_taken}
use Rattle.rows.proofs.row.Row.take_first.Goals as goal

pub overflow_sub-self : goal.overflow_sub-self
overflow_sub-self g c =
    let i = c.self.inside in
    let p = c.first_place-p.result in
    let o = item_at (get_or i.cells.cells p None)
    (c.first_place-p.ensures.there (omega (arith, c.first_place-p.ensures.within, c.if-p-len.false, c.len.ensures))) in
    some_counted i.cells i.count i.front i.spare i.walk p o.0 c.self.invariant o.1

pub invariant_of-self-2 : goal.invariant_of-self-2
invariant_of-self-2 g c =
    let i = c.self.inside in
    let p = c.first_place-p.result in
    let o = item_at (get_or i.cells.cells p None)
    (c.first_place-p.ensures.there (omega (arith, c.first_place-p.ensures.within, c.if-p-len.false, c.len.ensures))) in
    row_taken i.cells c.take-taken.new.self i.count i.front i.spare i.walk p p 0 o.0 c.self.invariant o.1
    c.take-taken.ensures.cells c.take-taken.ensures.spare c.take-taken.ensures.room
    (ap (λ (xs : List (Option g.row.T.Denot)). present (take p xs)) c.take-taken.ensures.cells ∙ gone_set i.cells.cells p p c.first_place-p.ensures.gone)
    (omega (arith, c.first_place-p.ensures.within, ap length c.take-taken.ensures.cells, length-set i.cells.cells p None))
    (omega arith)

pub returns-clause-taken : goal.returns-clause-taken
returns-clause-taken g c =
    let i = c.self.inside in
    let p = c.first_place-p.result in
    let o = item_at (get_or i.cells.cells p None)
    (c.first_place-p.ensures.there (omega (arith, c.first_place-p.ensures.within, c.if-p-len.false, c.len.ensures))) in
    ap (λ (v : RowSeen g.row.T.Denot). v.items) (sym c.self.view_is) ∙ first_taken i.cells.cells p o.0 c.first_place-p.ensures.gone o.1
    ∙ ap (λ (xs : List (Option g.row.T.Denot)). o.0 ∷ present xs) (sym c.take-taken.ensures.cells)
    ∙ ap (λ (r : Option g.row.T.Denot). option_to_list r ++ present c.take-taken.new.self.cells) (sym (c.take-taken.ensures.taken ∙ o.1))
