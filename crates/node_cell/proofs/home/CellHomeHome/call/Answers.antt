use Rattle.std.proofs.Common.{[], ◌∷◌, ◌++◌, ap, sym, ◌∙◌, subst}
use Rattle.history.specs.Event.{event_of}
use Rattle.history.specs.History.{reply_to}
use Rattle.node_cell.proofs.HomeLemmas.{answered_at, open_at, own_of, unanswered_at}
use Rattle.node_cell.specs.Entries.{history_of}
use Rattle.node_core.specs.Home.{EndsOpen}
use Rattle.node_core.specs.Node.{Stands as NodeStands}
use Rattle.turn_cell.specs.Cell.{number_of, taken}
use Rattle.node_cell.proofs.home.CellHomeHome.call.Goals as goal

pub returns-in-Ok-clause-seen : goal.returns-in-Ok-clause-seen
returns-in-Ok-clause-seen g c = λ h is.
    let made = g.J.MadeWith.made in
    let held = subst (λ v. NodeStands v.node.value made (history_of (taken c.take-turn.result))) (sym c.value.ensures.value) c.take-turn.ensures.value in
    let stands = subst (λ n. NodeStands n made (history_of (taken c.take-turn.result))) (sym c.deref_mut.ensures.value) held in
    let told = c.in-Ok.ensures.told made (history_of (taken c.take-turn.result)) stands in
    rw (← c.self.view_is) (answered_at made _ _ (own_of _ _ c.self.inside.pass c.self.invariant) _ _ c.take-turn.ensures.history h (rw (← c.self.view_is) at is) _ c.args.call c.in-Ok.reply
    (told.0 ∙ ap (λ n. reply_to made (history_of (taken c.take-turn.result)) (n, event_of c.args.call)) c.number-number.ensures)
    (ap history_of (c.give_entry.ensures.seen ∙ ap (λ n. taken c.take-turn.result ++ (n, c.of-said.result.value) ∷ []) c.take-turn.ensures.number ∙ ap (λ x. taken c.take-turn.result ++ (number_of c.self.inside.pass, x) ∷ []) c.of-said.ensures)))

pub returns-in-Err-clause-seen : goal.returns-in-Err-clause-seen
returns-in-Err-clause-seen g c = λ h is.
    rw (← c.self.view_is) (unanswered_at g.J.MadeWith.made _ _ (own_of _ _ c.self.inside.pass c.self.invariant) _ _ c.take-turn.ensures.history h (rw (← c.self.view_is) at is) _ (ap history_of c.give_same.ensures.seen))

pub returns-in-Err-clause-ended : goal.returns-in-Err-clause-ended
returns-in-Err-clause-ended g c = λ h is begun.
    let made = g.J.MadeWith.made in
    let held = subst (λ v. NodeStands v.node.value made (history_of (taken c.take-turn.result))) (sym c.value.ensures.value) c.take-turn.ensures.value in
    let stands = subst (λ n. NodeStands n made (history_of (taken c.take-turn.result))) (sym c.deref_mut.ensures.value) held in
    let before = open_at made _ _ (own_of _ _ c.self.inside.pass c.self.invariant) _ _ c.take-turn.ensures.history h (rw (← c.self.view_is) at is) (event_of c.args.call) (rw (← c.self.view_is) at begun) in
    c.in-Err.ensures.ended made (history_of (taken c.take-turn.result)) stands (subst (λ n. EndsOpen made (history_of (taken c.take-turn.result)) n (event_of c.args.call)) (sym c.number-number.ensures) before)
