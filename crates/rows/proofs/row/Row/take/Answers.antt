use Rattle.std.proofs.Common.{List, Option, Some, length, not, filter, find, take, sym, ap, subst, ◌∙◌}
use Rattle.rows.specs.Cells.{present}
use Rattle.rows.specs.Row.{RowSeen, ArePassed, IsTakenOut}
use Rattle.rows.proofs.RowLemmas.{passed_taken, seen, seen_same, walk_taken, one_find, none_found, some_counted, gone_set, row_taken, taken_out}
use Rattle.rows.proofs.row.Row.take.Goals as goal

pub returns-in_default-clause-found : goal.returns-in_default-clause-found
returns-in_default-clause-found g c =
    let i = c.self.inside in
    let test = g.Q.Equivalent.equivalent c.args.query in
    sym (none_found test i.cells.cells c.in_default.ensures.none).0
    ∙ ap (λ (v : RowSeen g.row.T.Denot). find test v.items) c.self.view_is

pub returns-in_default-clause-after : goal.returns-in_default-clause-after
returns-in_default-clause-after g c =
    let i = c.self.inside in
    let test = g.Q.Equivalent.equivalent c.args.query in
    sym c.self.view_is
    ∙ ap (λ (xs : List g.row.T.Denot). seen xs i.spare (length (present (take i.walk i.cells.cells)))) (sym (none_found test i.cells.cells c.in_default.ensures.none).1)
    ∙ ap (λ (v : RowSeen g.row.T.Denot). seen (filter (λ o. not (test o)) v.items) v.spare v.passed) c.self.view_is

pub returns-in_default-clause-passed : goal.returns-in_default-clause-passed
returns-in_default-clause-passed g c = seen_same c.args.self.now

pub overflow_sub-self : goal.overflow_sub-self
overflow_sub-self g c =
    let i = c.self.inside in
    let f = c.in-Some.ensures.found in
    some_counted i.cells i.count i.front i.spare i.walk c.in-Some.p f.0 c.self.invariant f.1

pub first_place-self-inside-requires-clause-gone : goal.first_place-self-inside-requires-clause-gone
first_place-self-inside-requires-clause-gone g c =
    let i = c.self.inside in
    ap (λ (xs : List (Option g.row.T.Denot)). present (take i.front xs)) c.take-taken.ensures.cells
    ∙ gone_set i.cells.cells i.front c.in-Some.p c.self.invariant.gone

pub invariant_of-self : goal.invariant_of-self
invariant_of-self g c =
    let i = c.self.inside in
    let f = c.in-Some.ensures.found in
    row_taken i.cells c.take-taken.new.self i.count i.front i.spare i.walk c.first_place-self-inside.result c.in-Some.p i.walk f.0 c.self.invariant f.1
    c.take-taken.ensures.cells c.take-taken.ensures.spare c.take-taken.ensures.room
    c.first_place-self-inside.ensures.gone c.first_place-self-inside.ensures.within
    (walk_taken i.cells.cells c.take-taken.new.self.cells i.walk c.in-Some.p c.self.invariant.walked c.take-taken.ensures.cells)

pub returns-clause-found : goal.returns-clause-found
returns-clause-found g c =
    let i = c.self.inside in
    let test = g.Q.Equivalent.equivalent c.args.query in
    let f = c.in-Some.ensures.found in
    c.take-taken.ensures.taken ∙ f.1 ∙ sym (one_find test i.cells.cells c.in-Some.p f.0 c.in-Some.ensures.apart f.1 f.2).0
    ∙ ap (λ (v : RowSeen g.row.T.Denot). find test v.items) c.self.view_is

pub returns-clause-after : goal.returns-clause-after
returns-clause-after g c =
    let i = c.self.inside in
    let test = g.Q.Equivalent.equivalent c.args.query in
    let f = c.in-Some.ensures.found in
    let n = length (present (take i.walk c.take-taken.new.self.cells)) in
    ap (λ (xs : List g.row.T.Denot). seen xs i.spare n)
    (ap present c.take-taken.ensures.cells ∙ sym (one_find test i.cells.cells c.in-Some.p f.0 c.in-Some.ensures.apart f.1 f.2).1)
    ∙ ap (λ (v : RowSeen g.row.T.Denot). seen (filter (λ o. not (test o)) v.items) v.spare n) c.self.view_is

pub returns-clause-passed : goal.returns-clause-passed
returns-clause-passed g c =
    let i = c.self.inside in
    let now = c.take-taken.new.self.cells in
    subst (λ (v : RowSeen g.row.T.Denot). ArePassed v (seen (present now) i.spare (length (present (take i.walk now))))) c.self.view_is
    (passed_taken i.cells.cells now i.walk c.in-Some.p i.spare c.take-taken.ensures.cells)

pub returns-clause-one : goal.returns-clause-one
returns-clause-one g c =
    let i = c.self.inside in
    let f = c.in-Some.ensures.found in
    let now = c.take-taken.new.self.cells in
    subst (λ (r : Option g.row.T.Denot). IsTakenOut r c.args.self.now.items (present now)) (sym (c.take-taken.ensures.taken ∙ f.1))
    (subst (λ (v : RowSeen g.row.T.Denot). IsTakenOut (Some f.0) v.items (present now)) c.self.view_is
    (subst (λ (xs : List (Option g.row.T.Denot)). IsTakenOut (Some f.0) (present i.cells.cells) (present xs)) (sym c.take-taken.ensures.cells)
    (taken_out i.cells.cells c.in-Some.p f.0 f.1)))
