use Rattle.std.proofs.Common.{◌≡◌, Bool, List, [], ◌∷◌, Some, cond, find, is_some, slice_get, true, nat_eq, ◌&&◌, sym, ap, ◌∙◌}
use Rattle.std.proofs.lemmas.Bool.{eq-eqb}
use Rattle.std.proofs.lemmas.Option.{none-some, same_Some}
use Rattle.shelf.specs.Open.{is_named}
use Rattle.delivery_core.proofs.records.is_first.Goals as goal

first_found : {A : Type 0} (test : A → Bool) (xs : List A) (x : A) → Some x ≡ slice_get xs 0 → test x ≡ true → is_some (find test xs) ≡ true
first_found test [] x first passes = absurd (none-some x (sym first))
first_found test (y ∷ ys) x first passes =
    ap (λ b. is_some (cond b (Some y) (find test ys))) (ap test (sym (same_Some x y first)) ∙ passes)

pub returns-then-first-delivery : goal.returns-then-first-delivery
returns-then-first-delivery c of_pass =
    let first = c.in-Some.first.now in
    first_found (is_named c.args.delivery c.args.pass) c.args.deliveries.now.items first c.in-Some.ensures
    (ap (λ b. b && nat_eq first.pass c.args.pass) (eq-eqb first.number c.args.delivery c.if-first-delivery.true) ∙ of_pass)
