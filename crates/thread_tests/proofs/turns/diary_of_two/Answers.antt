use Rattle.std.proofs.Common.{◌<◌, ◌++◌, Contains, sym, ◌∙◌, subst, arith}
use Rattle.turn_cell.proofs.Histories.{numbers_from-has}
use Rattle.thread_tests.proofs.turns.diary_of_two.Goals as goal

pub close-requires-clause-all : goal.close-requires-clause-all
close-requires-clause-all g c x lt =
    let a = c.two_work-a.ensures.a.1 ∙ c.in_ok-a.ensures.found.1 in
    let b = c.two_work-a.ensures.b.1 ∙ c.in_ok-b.ensures.found.1 in
    let below : x < 2 = subst (λ n. x < n) c.in-Ok.ensures.count lt in
    subst (λ ns. Contains ns x) (sym (c.join_pass.ensures.numbers ∙ (λ i. a i ++ b i))) (numbers_from-has 0 2 x (omega arith) (omega arith))
