use Rattle.std.proofs.Common.{◌<◌, ◌++◌, Contains, sym, ◌∙◌, subst, arith}
use Rattle.turn_cell.proofs.Histories.{numbers_from-has}
use Rattle.thread_tests.proofs.turns.diary_of_three.Goals as goal

pub close-requires-clause-all : goal.close-requires-clause-all
close-requires-clause-all g c x lt =
    let done = c.three_work-c.ensures in
    let a = done.a.1 ∙ c.in_ok-a.ensures.found.1 in
    let b = done.b.1 ∙ c.in_ok-b.ensures.found.1 in
    let third = done.c.1 ∙ c.in_ok-c.ensures.found.1 in
    let bc = c.join_pass.ensures.numbers ∙ (λ i. b i ++ third i) in
    let below : x < 3 = subst (λ n. x < n) c.in-Ok.ensures.count lt in
    subst (λ ns. Contains ns x) (sym (c.join_pass-2.ensures.numbers ∙ (λ i. a i ++ bc i))) (numbers_from-has 0 3 x (omega arith) (omega arith))
