use Rattle.std.proofs.Common.{◌≡◌, Some, ◌∷◌, [], sym, ap, ◌∙◌}
use Rattle.std.proofs.lemmas.List.Elements.{All-pop}
use Rattle.turn_cell.specs.Cell.{IsOf, number_of, numbers_of}
use Rattle.thread_tests.proofs.turns.last_of.Goals as goal

pub returns-then-number-clause-cell : goal.returns-then-number-clause-cell
returns-then-number-clause-cell c = (All-pop (λ p. IsOf c.args.cell.now p) _ _ (Some c.in_ok-pass.pass) c.in_ok-pass.ensures c.requires.cell).0

pub returns-then-number-clause-found : goal.returns-then-number-clause-found
returns-then-number-clause-found c =
    let cell = All-pop (λ p. IsOf c.args.cell.now p) _ _ (Some c.in_ok-pass.pass) c.in_ok-pass.ensures c.requires.cell in
    let own = All-pop (λ p. numbers_of p ≡ number_of p ∷ []) _ _ (Some c.in_ok-pass.pass) c.in_ok-pass.ensures c.requires.own in
    (cell.1, own.1 ∙ ap (λ k. k ∷ []) (sym c.number.ensures ∙ c.if-number.true))

pub returns-else-number-clause-cell : goal.returns-else-number-clause-cell
returns-else-number-clause-cell c = (All-pop (λ p. IsOf c.args.cell.now p) _ _ (Some c.in_ok-pass.pass) c.in_ok-pass.ensures c.requires.cell).0
