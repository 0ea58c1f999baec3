use Rattle.std.proofs.Common.{length, ap, sym, ◌∙◌, arith}
use Rattle.delivery_core.specs.Edge.{Holding}
use Rattle.std.proofs.lemmas.Bool.{eq-eqb, ne_eqb}
use Rattle.node_core.proofs.LogLemmas.{file_told, filed_by, full_told, heads_are, nothing_told, spent_told}
use Rattle.node_core.proofs.state.State.cut.Goals as goal

pub returns-then-len-eq0-clause-told : goal.returns-then-len-eq0-clause-told
returns-then-len-eq0-clause-told c = λ made h pass s. rw (← c.self.view_is) (nothing_told made h c.self.inside.edge.seen c.self.inside.control c.self.inside.heading c.self.inside.opened (rw (← c.self.view_is) at s) pass c.args.moment
    (omega (arith, c.if-len-eq0.true, c.len.ensures, ap length c.unfiled.ensures)))

pub returns-then-count-limits-clause-told : goal.returns-then-count-limits-clause-told
returns-then-count-limits-clause-told c = λ made h pass s. rw (c.file_count-count.ensures, ← c.self.view_is) (full_told made h c.self.inside.edge.seen c.self.inside.control c.self.inside.heading c.self.inside.opened (rw (← c.self.view_is) at s) pass c.args.moment
    (omega (arith, c.if-len-eq0.false, c.len.ensures, ap length c.unfiled.ensures))
    (eq-eqb (length c.self.inside.control.files) c.self.inside.edge.seen.limits.files (rw (← c.file_count-count.ensures) (rw (← c.limits.ensures) (rw (← c.limits-2.view_is) c.if-count-limits.true)))))

pub returns-then-self-limits-clause-told : goal.returns-then-self-limits-clause-told
returns-then-self-limits-clause-told c = λ made h pass s. rw (← c.self.view_is) (spent_told made h c.self.inside.edge.seen c.self.inside.control c.self.inside.heading c.self.inside.opened (rw (← c.self.view_is) at s) pass c.args.moment
    (omega (arith, c.if-len-eq0.false, c.len.ensures, ap length c.unfiled.ensures))
    (ne_eqb (length c.self.inside.control.files) c.self.inside.edge.seen.limits.files (rw (← c.file_count-count.ensures) (rw (← c.limits.ensures) (rw (← c.limits-2.view_is) c.if-count-limits.false))))
    (eq-eqb c.self.inside.opened c.self.inside.edge.seen.limits.opened (rw (← c.limits-3.ensures) (rw (← c.limits-4.view_is) c.if-self-limits.true))))

pub returns-clause-told : goal.returns-clause-told
returns-clause-told c = λ made h pass s.
    let filed = filed_by c.self.inside.control c.file.new.self c.in-Some.number _ _ _ _ (sym c.in-Some.is ∙ c.file.ensures.reply) c.file.ensures.after
    (heads_are c.args.moment _ _ _ _ c.filed.ensures c.in_ok-heading.ensures) c.in_ok-rows.ensures.rows in
    file_told made h c.self.inside.edge.seen c.self.inside.control c.self.inside.heading c.self.inside.opened (rw (← c.self.view_is) at s) pass c.args.moment _ _ _
    (omega (arith, c.if-len-eq0.false, c.len.ensures, ap length c.unfiled.ensures))
    (ne_eqb (length c.self.inside.control.files) c.self.inside.edge.seen.limits.files (rw (← c.file_count-count.ensures) (rw (← c.limits.ensures) (rw (← c.limits-2.view_is) c.if-count-limits.false))))
    (ne_eqb c.self.inside.opened c.self.inside.edge.seen.limits.opened (rw (← c.limits-3.ensures) (rw (← c.limits-4.view_is) c.if-self-limits.false)))
    filed.0 (ap (λ (v : Holding). v.seen) c.in_ok-rows.ensures.after) filed.1
