use Rattle.std.proofs.Common.{Some}
use Rattle.std.proofs.lemmas.List.Elements.{All-pop, All-same}
use Rattle.turn_cell.specs.Cell.{IsOf}
use Rattle.measures.proofs.turns.run.Goals as goal

pub work_all-requires-after_bounds : goal.work_all-requires-after_bounds
work_all-requires-after_bounds g c κs b =
    let cell = c.in_ok-cell.cell in
    All-same (λ p. IsOf cell p) _ _ c.into_vec.ensures (All-pop (λ p. IsOf cell p) _ _ (Some c.in-Some.last) c.in-Some.ensures c.in_ok-cell.ensures.cell).0

pub take-turn-requires : goal.take-turn-requires
take-turn-requires g c =
    let cell = c.in_ok-cell.cell in
    (All-pop (λ p. IsOf cell p) _ _ (Some c.in-Some.last) c.in-Some.ensures c.in_ok-cell.ensures.cell).1
