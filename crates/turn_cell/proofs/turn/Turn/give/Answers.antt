use Rattle.std.proofs.Common.{ℕ, Contains, sym, ap, subst}
use Rattle.turn_cell.specs.History.{FollowedByOwn}
use Rattle.turn_cell.proofs.turn.Turn.give.Goals as goal

pub pass_on-requires-clause-own : goal.pass_on-requires-clause-own
pass_on-requires-clause-own g c =
    let turn = c.requires.1.1.0 in
    let own = c.requires.1.1.1.1.0 in
    subst (λ v. (x : ℕ) × Contains v.numbers x × FollowedByOwn x v.seen g.history) (sym (ap (λ m. m.0) c.exchange-old.ensures.3)) (c.args.self.number, turn.own, own)
