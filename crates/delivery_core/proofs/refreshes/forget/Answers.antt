use Rattle.std.proofs.Common.{◌≡◌, ◌+◌, ◌-◌, drop, length, map, arith, sym, ap, ◌∙◌, subst, length-drop}
use Rattle.delivery_core.proofs.RefreshLemmas.{between_least, least_within, with_since_later}
use Rattle.delivery_core.proofs.refreshes.forget.Goals as goal
use Rattle.delivery_core.specs.Refreshes.{AreBetween, least_place, with_since}

pub overflow_sub-least : goal.overflow_sub-least
overflow_sub-least c =
    let within = least_within _ _ _ c.requires.places in
    omega (arith, within.0, c.least_place-least.ensures ∙ ap (λ k. least_place (c.args.first.now + k) c.args.row.now.items) c.stored.ensures)

pub retire-requires : goal.retire-requires
retire-requires c =
    let within = least_within _ _ _ c.requires.places in
    omega (arith, within.1, c.least_place-least.ensures ∙ ap (λ k. least_place (c.args.first.now + k) c.args.row.now.items) c.stored.ensures)

pub returns-clause-seen : goal.returns-clause-seen
returns-clause-seen c =
    let first = c.args.first.now in
    let starts = c.args.starts.now.stored in
    let all = c.args.row.now.items in
    let high = first + length starts in
    let is : c.least_place-least.result ≡ least_place high all = c.least_place-least.ensures ∙ ap (λ k. least_place (first + k) all) c.stored.ensures in
    rw c.retire.ensures.stored (subst (λ k. map (with_since k (drop (k - first) starts)) all ≡ map (with_since first starts) all) (sym is)
    (with_since_later (least_place high all) high first (least_place high all) starts all (between_least first high all c.requires.places) (least_within first high all c.requires.places).0 (omega arith)))

pub returns-clause-end : goal.returns-clause-end
returns-clause-end c =
    let first = c.args.first.now in
    let within = least_within _ _ _ c.requires.places in
    let is = c.least_place-least.ensures ∙ ap (λ k. least_place (first + k) c.args.row.now.items) c.stored.ensures in
    rw (c.retire.ensures.stored, length-drop) (omega (arith, within.0, within.1, is))

pub returns-clause-places : goal.returns-clause-places
returns-clause-places c =
    let first = c.args.first.now in
    let all = c.args.row.now.items in
    let high = first + length c.args.starts.now.stored in
    let within = least_within _ _ _ c.requires.places in
    let is : c.least_place-least.result ≡ least_place high all = c.least_place-least.ensures ∙ ap (λ k. least_place (first + k) all) c.stored.ensures in
    let end : c.least_place-least.result + length c.retire.new.self.stored ≡ high = rw (c.retire.ensures.stored, length-drop) (omega (arith, within.0, within.1, is)) in
    rw end (subst (λ k. AreBetween k high all) (sym is) (between_least first high all c.requires.places))
