use Rattle.std.proofs.Common.{ℕ, List}
use Rattle.std.proofs.lemmas.Result.{err_from_is_err_and}
use Rattle.listing.specs.Number.{number_of}
use Rattle.script_line.specs.declared.grammar.TheConstants.{COMMA}
use Rattle.script_line.proofs.GrammarLemmas.{cut_shorter, fails_on, part_fails, part_read, last_fails, last_read}
use Rattle.script_line.proofs.grammar.read_ids.Goals as goal

pub returns-in_err-id : goal.returns-in_err-id
returns-in_err-id c =
    let p = err_from_is_err_and c.from_residual.result c.from_residual.ensures.1 in
    rw (p.1, p.2) (fails_on {A = ℕ} {C = List ℕ} (λ one. one) (λ all. all) _ c.in_err-id.ensures (part_fails COMMA number_of c.ids.rest.now c.ids.ids _ c.ids.invariant c.in-Some.number.now c.in-Some.after.now c.in-Some.ensures))

pub ids-smaller : goal.ids-smaller
ids-smaller c = cut_shorter COMMA c.ids.rest.now c.in-Some.number.now c.in-Some.after.now c.in-Some.ensures

pub ids-preserved : goal.ids-preserved
ids-preserved c = rw c.in_ok-push.ensures.ok (part_read COMMA number_of c.ids.rest.now c.ids.ids _ c.ids.invariant c.in-Some.number.now c.in-Some.after.now c.in_ok-id.id c.in-Some.ensures c.in_ok-id.ensures)

pub returns-in_err-id-2 : goal.returns-in_err-id-2
returns-in_err-id-2 c =
    let p = err_from_is_err_and c.from_residual-in_err-id-2.result c.from_residual-in_err-id-2.ensures.1 in
    rw (p.1, p.2) (fails_on {A = ℕ} {C = List ℕ} (λ one. one) (λ all. all) _ c.in_err-id-2.ensures (last_fails COMMA number_of c.ids.rest.now c.ids.ids _ c.ids.invariant c.in_default.ensures))

pub returns : goal.returns
returns c = rw c.in_ok-push-2.ensures.ok (last_read COMMA number_of c.ids.rest.now c.ids.ids _ c.ids.invariant c.in_ok-id-2.id c.in_default.ensures c.in_ok-id-2.ensures)
