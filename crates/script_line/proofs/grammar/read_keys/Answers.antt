use Rattle.std.proofs.Common.{List}
use Rattle.std.proofs.lemmas.Result.{err_from_is_err_and}
use Rattle.cdni_base.specs.Key.{KeyParts}
use Rattle.script_line.specs.Grammar.{key_of_url}
use Rattle.script_line.specs.declared.grammar.TheConstants.{BAR}
use Rattle.script_line.proofs.GrammarLemmas.{cut_shorter, fails_on, part_fails, part_read, last_fails, last_read}
use Rattle.script_line.proofs.grammar.read_keys.Goals as goal

pub returns-in_err-key : goal.returns-in_err-key
returns-in_err-key c =
    let p = err_from_is_err_and c.from_residual.result c.from_residual.ensures.1 in
    rw (p.1, p.2) (fails_on {A = KeyParts} {C = List KeyParts} (λ one. one) (λ all. all) _ c.in_err-key.ensures (part_fails BAR key_of_url c.urls.rest.now c.urls.keys _ c.urls.invariant c.in-Some.url.now c.in-Some.after.now c.in-Some.ensures))

pub urls-smaller : goal.urls-smaller
urls-smaller c = cut_shorter BAR c.urls.rest.now c.in-Some.url.now c.in-Some.after.now c.in-Some.ensures

pub urls-preserved : goal.urls-preserved
urls-preserved c = rw c.in_ok-push.ensures.ok (part_read BAR key_of_url c.urls.rest.now c.urls.keys _ c.urls.invariant c.in-Some.url.now c.in-Some.after.now c.in_ok-key.key c.in-Some.ensures c.in_ok-key.ensures)

pub returns-in_err-key-2 : goal.returns-in_err-key-2
returns-in_err-key-2 c =
    let p = err_from_is_err_and c.from_residual-in_err-key-2.result c.from_residual-in_err-key-2.ensures.1 in
    rw (p.1, p.2) (fails_on {A = KeyParts} {C = List KeyParts} (λ one. one) (λ all. all) _ c.in_err-key-2.ensures (last_fails BAR key_of_url c.urls.rest.now c.urls.keys _ c.urls.invariant c.in_default.ensures))

pub returns : goal.returns
returns c = rw c.in_ok-push-2.ensures.ok (last_read BAR key_of_url c.urls.rest.now c.urls.keys _ c.urls.invariant c.in_ok-key-2.key c.in_default.ensures c.in_ok-key-2.ensures)
