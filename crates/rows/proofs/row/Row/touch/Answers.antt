use Rattle.std.proofs.Common.{List, Option, None, Some, not, filter, find, take, set, length, length-set, arith, ap, subst, ◌∙◌}
use Rattle.std.proofs.lemmas.List.{length_push}
use Rattle.rows.specs.Cells.{present}
use Rattle.rows.specs.Row.{RowSeen, ArePassed, moved, IsTakenOut}
use Rattle.rows.proofs.RowLemmas.{passed_moved, seen, seen_before, row_roomed, row_moved, gone_moved, moved_none, moved_one, out_none, out_one}
use Rattle.rows.proofs.row.Row.touch.Goals as goal

pub returns-in_default-clause-after : goal.returns-in_default-clause-after
returns-in_default-clause-after g c =
    let i = c.self.inside in
    let test = g.Q.Equivalent.equivalent c.args.query in
    let n = length (present (take c.make_room.new.walk c.make_room.new.cells.cells)) in
    ap (λ (xs : List g.row.T.Denot). seen xs i.spare n)
    (moved_none test c.make_room.new.cells.cells c.in_default.ensures.none ∙ ap (moved test) c.make_room.ensures.items)
    ∙ ap (λ (v : RowSeen g.row.T.Denot). seen (moved test v.items) v.spare n) c.self.view_is

pub returns-in_default-clause-passed : goal.returns-in_default-clause-passed
returns-in_default-clause-passed g c =
    let i = c.self.inside in
    let m = c.make_room in
    subst (λ (v : RowSeen g.row.T.Denot). ArePassed v (seen (present m.new.cells.cells) i.spare (length (present (take m.new.walk m.new.cells.cells)))))
    c.self.view_is (seen_before i.cells.cells m.new.cells.cells i.walk m.new.walk i.spare i.spare m.ensures.passed)

pub returns-in_default-clause-one : goal.returns-in_default-clause-one
returns-in_default-clause-one g c =
    let test = g.Q.Equivalent.equivalent c.args.query in
    let items = c.make_room.ensures.items ∙ ap (λ (v : RowSeen g.row.T.Denot). v.items) c.self.view_is in
    subst (λ (xs : List g.row.T.Denot). IsTakenOut (find test xs) xs (filter (λ o. not (test o)) xs)) items
    (out_none test c.make_room.new.cells.cells c.in_default.ensures.none)

pub first_place-self-inside-requires-clause-gone : goal.first_place-self-inside-requires-clause-gone
first_place-self-inside-requires-clause-gone g c =
    let f = c.in-Some.ensures.found in
    let m = c.make_room in
    ap (λ (xs : List (Option g.row.T.Denot)). present (take m.new.front xs)) (c.move_to_end.ensures.moved f.0 f.1)
    ∙ gone_moved m.new.cells.cells m.new.front c.in-Some.p f.0 m.ensures.within m.ensures.gone

pub first_place-self-inside-requires-clause-within : goal.first_place-self-inside-requires-clause-within
first_place-self-inside-requires-clause-within g c =
    let f = c.in-Some.ensures.found in
    let m = c.make_room in
    omega (
      arith,
      m.ensures.within,
      ap length (c.move_to_end.ensures.moved f.0 f.1),
      length_push (set m.new.cells.cells c.in-Some.p None) (Some f.0),
      length-set m.new.cells.cells c.in-Some.p None,
    )

pub invariant_of-self-2 : goal.invariant_of-self-2
invariant_of-self-2 g c =
    let i = c.self.inside in
    let m = c.make_room in
    let f = c.in-Some.ensures.found in
    row_moved m.new.cells c.move_to_end.new.cells i.count m.new.front i.spare m.new.walk c.first_place-self-inside.result c.in-Some.p f.0
    (row_roomed i.cells m.new.cells i.count i.front i.spare i.walk m.new.front m.new.walk c.self.invariant m.ensures.items m.ensures.gone m.ensures.within
    m.ensures.spare m.ensures.total m.ensures.walk) f.1 (c.move_to_end.ensures.moved f.0 f.1) c.move_to_end.ensures.spare c.move_to_end.ensures.room
    c.first_place-self-inside.ensures.gone c.first_place-self-inside.ensures.within

pub returns-clause-passed : goal.returns-clause-passed
returns-clause-passed g c =
    let i = c.self.inside in
    let m = c.make_room in
    let f = c.in-Some.ensures.found in
    let now = c.move_to_end.new.cells.cells in
    subst (λ (v : RowSeen g.row.T.Denot). ArePassed v (seen (present now) i.spare (length (present (take m.new.walk now))))) c.self.view_is
    (passed_moved i.cells.cells m.new.cells.cells now i.walk m.new.walk c.in-Some.p i.spare f.0 m.ensures.passed m.ensures.walk
    (c.move_to_end.ensures.moved f.0 f.1))

pub returns-clause-after : goal.returns-clause-after
returns-clause-after g c =
    let i = c.self.inside in
    let test = g.Q.Equivalent.equivalent c.args.query in
    let f = c.in-Some.ensures.found in
    let n = length (present (take c.make_room.new.walk c.move_to_end.new.cells.cells)) in
    ap (λ (xs : List g.row.T.Denot). seen xs i.spare n)
    (ap present (c.move_to_end.ensures.moved f.0 f.1)
    ∙ moved_one test c.make_room.new.cells.cells c.in-Some.p f.0 c.in-Some.ensures.apart f.1 f.2 ∙ ap (moved test) c.make_room.ensures.items)
    ∙ ap (λ (v : RowSeen g.row.T.Denot). seen (moved test v.items) v.spare n) c.self.view_is

pub returns-clause-one : goal.returns-clause-one
returns-clause-one g c =
    let test = g.Q.Equivalent.equivalent c.args.query in
    let f = c.in-Some.ensures.found in
    let items = c.make_room.ensures.items ∙ ap (λ (v : RowSeen g.row.T.Denot). v.items) c.self.view_is in
    subst (λ (xs : List g.row.T.Denot). IsTakenOut (find test xs) xs (filter (λ o. not (test o)) xs)) items
    (out_one test c.make_room.new.cells.cells c.in-Some.p f.0 c.in-Some.ensures.apart f.1 f.2)
