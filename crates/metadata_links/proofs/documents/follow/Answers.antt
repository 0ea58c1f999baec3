use Rattle.std.proofs.Common.{[]}
use Rattle.std.proofs.lemmas.Result.{err_from_is_err_and}
use Rattle.upstream_gate.proofs.PlanLemmas.{grows_none}
use Rattle.metadata_links.proofs.Following.{refusal_ends, no_text, text_came, not_fetch, not_passed_on}
use Rattle.metadata_links.proofs.documents.follow.Goals as goal

pub returns-in_err-refuse-clause-follows : goal.returns-in_err-refuse-clause-follows
returns-in_err-refuse-clause-follows g c =
    let p = err_from_is_err_and c.from_residual.result c.from_residual.ensures.1 in
    rw (p.1, p.2) ([], grows_none _, refusal_ends c.args.gathering.now c.args.link.now _ c.in_err-refuse.ensures.refused)

pub returns-in_err-refuse-clause-failed : goal.returns-in_err-refuse-clause-failed
returns-in_err-refuse-clause-failed g c = λ is.
    let p = err_from_is_err_and c.from_residual.result c.from_residual.ensures.1 in
    absurd (not_passed_on c.from_residual.result p.0 _ p.1 p.2 c.in_err-refuse.ensures.no_fetch is)

pub returns-in_err-text-clause-follows : goal.returns-in_err-text-clause-follows
returns-in_err-text-clause-follows g c =
    let p = err_from_is_err_and c.from_residual-in_err-text.result c.from_residual-in_err-text.ensures.1 in
    let asked = c.in_err-text.ensures.fetches in
    rw (p.1, p.2) (asked.0, asked.1, no_text c.args.gathering.now c.args.link.now asked.0 _ c.in_ok-refuse.ensures.refused asked.2)

pub returns-clause-failed : goal.returns-clause-failed
returns-clause-failed g c = λ is. absurd (not_fetch c.receive.result c.receive.ensures.no_fetch is)

pub returns-clause-follows : goal.returns-clause-follows
returns-clause-follows g c =
    let asked = c.in_ok-text.ensures.fetches in
    (asked.0, asked.1, text_came c.args.gathering.now c.args.link.now asked.0 c.in_ok-text.text c.receive.new.self c.receive.result c.in_ok-refuse.ensures.refused asked.2 c.receive.ensures.received)
