use Rattle.std.proofs.Common.{true, false, subst}
use Rattle.upstream_gate.specs.declared.outcome.Outcome.{Outcome}
use Rattle.session_base.specs.Content.{IsShown, brought_shown}
use Rattle.session_base.specs.Content.{IsBounded}
use Rattle.content_request.proofs.CourseLemmas.{fetched, none_given, some_given}
use Rattle.content_request.proofs.content.deliver_fetched.Goals as goal

pub returns-in-Some-clause-does : goal.returns-in-Some-clause-does
returns-in-Some-clause-does g c =
    let shown = some_given _ _ c.args.outcome c.in-Some.is c.shared-shown.ensures.some in
    let end = c.end_fetch.ensures.made in
    let fin = c.finish.ensures.made in
    fetched _ _ _ _ _ _ _ _ _ _ c.show-sent.result c.show-sent.ensures.says c.args.manner.now c.args.delivery c.args.fetch c.args.outcome false end.0 end.1 fin.0 fin.1 c.next_of.result c.next_of.ensures
    (λ answer is. (shown.1, subst IsBounded shown.0 c.show-sent.ensures.bounded, subst (λ (o : Outcome). IsShown (brought_shown c.args.manner.now o) answer) shown.0 is)) end.2 end.3 fin.2 _ c.end_fetch.ensures.who fin.3

pub returns-clause-does : goal.returns-clause-does
returns-clause-does g c =
    let end = c.end_fetch.ensures.made in
    let fin = c.finish-in-None.ensures.made in
    fetched _ _ _ _ _ _ _ _ _ _ c.refuse-sent.result c.refuse-sent.ensures.says c.args.manner.now c.args.delivery c.args.fetch c.args.outcome true end.0 end.1 fin.0 fin.1 c.next_of-in-None.result c.next_of-in-None.ensures
    (λ answer is. (none_given _ _ c.in-None.is c.shared-shown.ensures.none, is)) end.2 end.3 fin.2 _ c.end_fetch.ensures.who fin.3
