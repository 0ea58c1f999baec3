use Rattle.std.proofs.Common.{◌<◌, ◌++◌, ◌∷◌, ◌-◌, [], List, find, length, take, sym, ap, subst, ◌∙◌}
use Rattle.rows.specs.Cells.{present}
use Rattle.rows.specs.Row.{RowSeen, ArePassed}
use Rattle.rows.proofs.RowLemmas.{passed_pushed, seen, none_there, row_roomed, row_pushed, present_pushed}
use Rattle.rows.proofs.row.Row.push.Goals as goal

pub push-requires-clause-absent : goal.push-requires-clause-absent
push-requires-clause-absent g c =
    let test = g.T.PartialEq.eq c.args.item in
    none_there test c.make_room.new.cells.cells
    (ap (find test) c.make_room.ensures.items ∙ ap (λ (v : RowSeen g.row.T.Denot). find test v.items) c.self.view_is ∙ c.requires.absent)

pub invariant_of-self : goal.invariant_of-self
invariant_of-self g c =
    let i = c.self.inside in
    let m = c.make_room in
    let some = subst (λ (v : RowSeen g.row.T.Denot). 0 < v.spare) (sym c.self.view_is) c.requires.spare in
    row_pushed m.new.cells c.push.new.self i.count m.new.front i.spare m.new.walk c.args.item
    (row_roomed i.cells m.new.cells i.count i.front i.spare i.walk m.new.front m.new.walk c.self.invariant m.ensures.items m.ensures.gone m.ensures.within
    m.ensures.spare m.ensures.total m.ensures.walk) some c.push.ensures.cells c.push.ensures.spare c.push.ensures.room

pub returns-clause-passed : goal.returns-clause-passed
returns-clause-passed g c =
    let i = c.self.inside in
    let m = c.make_room in
    let now = c.push.new.self.cells in
    subst (λ (v : RowSeen g.row.T.Denot). ArePassed v (seen (present now) (i.spare - 1) (length (present (take m.new.walk now))))) c.self.view_is
    (passed_pushed i.cells.cells m.new.cells.cells now i.walk m.new.walk i.spare (i.spare - 1) c.args.item m.ensures.passed m.ensures.walk c.push.ensures.cells)

pub returns-clause-after : goal.returns-clause-after
returns-clause-after g c =
    let i = c.self.inside in
    let n = length (present (take c.make_room.new.walk c.push.new.self.cells)) in
    ap (λ (xs : List g.row.T.Denot). seen xs (i.spare - 1) n)
    (ap present c.push.ensures.cells ∙ present_pushed c.make_room.new.cells.cells c.args.item
    ∙ ap (λ (xs : List g.row.T.Denot). xs ++ c.args.item ∷ []) c.make_room.ensures.items)
    ∙ ap (λ (v : RowSeen g.row.T.Denot). seen (v.items ++ c.args.item ∷ []) (v.spare - 1) n) c.self.view_is
