use Rattle.std.proofs.Common.{rules, ap, ◌∙◌, subst}
use Rattle.turn_cell.specs.Plays.{Gets}
use Rattle.turn_cell.proofs.Steps.{looks}
use Rattle.turn_cell.proofs.cell.TurnCell.wait_for.Goals as goal

pub load-served-requires : goal.load-served-requires
load-served-requires g c =
    let k = c.requires.ticket.0 in
    (search rules, search rules, looks g.V.Stands.stands _ _ _ _ _ (k, ap (λ m. m.0.stage) c.loop.invariant.2 ∙ c.requires.ticket.1) (ap (λ m. m.1) c.loop.invariant.2 ∙ c.requires.slot))

pub returns-then-served-ticket-clause-turn : goal.returns-then-served-ticket-clause-turn
returns-then-served-ticket-clause-turn g c =
    let k = c.requires.ticket.0 in
    let same = c.loop.invariant.2 in
    let told = c.load-served.ensures.2 k (ap (λ m. m.0.stage) same ∙ c.requires.ticket.1) in
    (k, subst (λ m. Gets g.V.Stands.stands k m c.load-served.new.seat.me) same (told.0 (c.if-served-ticket.true ∙ c.requires.ticket.2)))
