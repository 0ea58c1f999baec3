use Rattle.std.proofs.Common.{◌≡◌, List, [], ◌∷◌, ◌++◌, Option, Some, None, MatchOption, sym, ◌∙◌, ap}
use Rattle.std.specs.Option.{option_to_list}
use Rattle.std.proofs.lemmas.List.Elements.{All-pop}
use Rattle.turn_cell.specs.Cell.{IsOf}
use Rattle.thread_tests.proofs.turns.any_of.Goals as goal

popped : {X : Type 0} (old new : List X) (last : Option X) → MatchOption last ((old ≡ []) × (new ≡ [])) (λ x. old ≡ new ++ x ∷ []) → old ≡ new ++ option_to_list last
popped old new None both = both.0 ∙ sym (ap (λ xs. xs ++ []) both.1)
popped old new (Some x) is = is

pub returns-clause-cell : goal.returns-clause-cell
returns-clause-cell g c = (All-pop (λ p. IsOf c.args.cell.now p) _ _ c.pop.result (popped _ _ c.pop.result c.pop.ensures) c.requires).0

pub returns-clause-found : goal.returns-clause-found
returns-clause-found g c = (All-pop (λ p. IsOf c.args.cell.now p) _ _ c.pop.result (popped _ _ c.pop.result c.pop.ensures) c.requires).1
