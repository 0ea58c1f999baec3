use Rattle.std.proofs.Common.{[], ◌++◌, ◌≡◌, Ok, Err, refl, sym, subst, arith}
use Rattle.std.proofs.lemmas.Result.{err_from_is_err_and}
use Rattle.upstream_gate.proofs.PlanLemmas.{grows_none, grows_on}
use Rattle.metadata_links.specs.Gathering.{step_of}
use Rattle.metadata_links.specs.Answers.{Leads, HasFollowed}
use Rattle.metadata_links.proofs.Following.{at_start, one_followed, is_over, ends_at, ends_or, fails_on, steps_to, not_passed_on}
use Rattle.metadata_links.proofs.documents.follow_rest.Goals as goal

pub links-init : goal.links-init
links-init g c = record { made = ([], grows_none _, at_start _); later = omega arith }

pub returns-in_err-link-clause-reaches : goal.returns-in_err-link-clause-reaches
returns-in_err-link-clause-reaches g c =
    let p = err_from_is_err_and c.from_residual.result c.from_residual.ensures.1 in
    let so = c.links.invariant.made in
    rw (p.1, p.2) (so.0, so.1, is_over _ _ so.0 _ so.2 (ends_or _ _ c.in_err-link.ensures.next))

pub returns-in_err-link-clause-failed : goal.returns-in_err-link-clause-failed
returns-in_err-link-clause-failed g c = λ is.
    let p = err_from_is_err_and c.from_residual.result c.from_residual.ensures.1 in
    absurd (not_passed_on c.from_residual.result p.0 _ p.1 p.2 c.in_err-link.ensures.no_fetch is)

pub returns-clause-reaches : goal.returns-clause-reaches
returns-clause-reaches g c =
    let so = c.links.invariant.made in
    let leads = subst (λ found. Leads (step_of c.links.gathering) c.next_link.new.self (Ok found)) c.in_default.is c.in_ok-link.ensures.next in
    (so.0, so.1, is_over _ _ so.0 _ so.2 (ends_at _ _ _ leads refl))

pub returns-in_err-follow_one-clause-reaches : goal.returns-in_err-follow_one-clause-reaches
returns-in_err-follow_one-clause-reaches g c =
    let p = err_from_is_err_and c.from_residual-in_err-follow_one.result c.from_residual-in_err-follow_one.ensures.1 in
    let so = c.links.invariant.made in
    let leads = subst (λ found. Leads (step_of c.links.gathering) c.next_link.new.self (Ok found)) c.in-Some.is c.in_ok-link.ensures.next in
    let one = c.in_err-follow_one.ensures.follows in
    rw (p.1, p.2) (so.0 ++ one.0, grows_on _ _ _ so.0 one.0 so.1 one.1, fails_on _ _ so.0 one.0 _ (steps_to _ _ so.0 _ c.in-Some.link so.2 leads) one.2)

pub links-preserved : goal.links-preserved
links-preserved g c =
    let so = c.links.invariant.made in
    let leads = subst (λ found. Leads (step_of c.links.gathering) c.next_link.new.self (Ok found)) c.in-Some.is c.in_ok-link.ensures.next in
    let one = c.in_ok-follow_one.ensures.follows in
    record {
      made = (so.0 ++ one.0, grows_on _ _ _ so.0 one.0 so.1 one.1, one_followed _ _ so.0 one.0 _ c.in_ok-follow_one.field-0 (steps_to _ _ so.0 _ c.in-Some.link so.2 leads) one.2);
      later = omega (arith, c.links.invariant.later, c.in_ok-follow_one.ensures.later);
    }
