use Rattle.std.proofs.Common.{rules, Some, Contains, sym, ap, ◌∙◌, subst}
use Rattle.turn_cell.specs.History.{AllBelow}
use Rattle.turn_cell.proofs.Seats.{resting, has_some, last_taken, followed, the_turn, told}
use Rattle.turn_cell.proofs.Steps.{draws}
use Rattle.turn_cell.proofs.cell.TurnCell.take.Goals as goal

pub fetch_add-ticket-requires : goal.fetch_add-ticket-requires
fetch_add-ticket-requires g c =
    let r = resting _ _ _ _ (sym (ap (λ b. b.views) c.replace-badge.ensures.value) ∙ c.into_seat-seat.ensures.2) c.requires.2 in
    (search rules, search rules, draws g.V.Stands.stands _ _ _ _ _ r.0 (has_some _ _ r.2))

pub exchange-old-requires : goal.exchange-old-requires
exchange-old-requires g c =
    let t = c.wait_for.ensures.turn.1 in
    (search rules, (Some t.0, last_taken _ _ _ (ap (λ m. m.1) t.2)))

pub returns-clause-turn : goal.returns-clause-turn
returns-clause-turn g c =
    let r = resting _ _ _ _ (sym (ap (λ b. b.views) c.replace-badge.ensures.value) ∙ c.into_seat-seat.ensures.2) c.requires.2 in
    let t = c.wait_for.ensures.turn in
    let d = c.fetch_add-ticket.ensures.2.2 in
    let u = told c.into_seat-seat.result.me c.fetch_add-ticket.new.seat.me _ t.1.1 d (t.1.3, t.1.4) in
    let e = the_turn c.into_seat-seat.result.me c.fetch_add-ticket.new.seat.me c.wait_for.new.seat.me c.exchange-old.new.seat.me _ t.0 t.1.0 t.1.1 c.into_seat-seat.ensures.3 d t.1.2 c.exchange-old.ensures.3 in
    record {
      table = search rules;
      serves = (t.0, ap (λ m. m.0.stage) e);
      slot = ap (λ m. m.1) e;
      passes = ap (λ m. m.0.passes) e ∙ r.1;
      number = c.requires.1;
      own = subst (λ ns. Contains ns c.args.pass.now.number) (sym (ap (λ m. m.0.numbers) e)) r.2;
      made = subst (AllBelow c.args.self.now.table.shared.key) (sym (ap (λ m. m.0.seen) e)) (subst (λ n. AllBelow n t.1.1) r.1 u.1);
    }

pub returns-clause-history : goal.returns-clause-history
returns-clause-history g c =
    let t = c.wait_for.ensures.turn in
    let d = c.fetch_add-ticket.ensures.2.2 in
    let u = told c.into_seat-seat.result.me c.fetch_add-ticket.new.seat.me _ t.1.1 d (t.1.3, t.1.4) in
    let e = the_turn c.into_seat-seat.result.me c.fetch_add-ticket.new.seat.me c.wait_for.new.seat.me c.exchange-old.new.seat.me _ t.0 t.1.0 t.1.1 c.into_seat-seat.ensures.3 d t.1.2 c.exchange-old.ensures.3 in
    followed _ _ _ _ (sym (ap (λ b. b.views) c.replace-badge.ensures.value) ∙ c.into_seat-seat.ensures.2) (ap (λ m. m.0.seen) e) u.0
