use Rattle.std.proofs.Common.{refl}
use Rattle.content_request.specs.Refresh.{NotDue, Crowded, NoBegin}
use Rattle.session_base.proofs.DoingLemmas.{made_as, made_none}
use Rattle.content_request.proofs.RefreshLemmas.{not_begun, gathered, ungathered}
use Rattle.content_request.proofs.refresh.refresh.Goals as goal

pub returns-in-Ok-NotDue-clause-does : goal.returns-in-Ok-NotDue-clause-does
returns-in-Ok-NotDue-clause-does g c =
    not_begun _ _ _ _ _ c.args.root.now c.args.moment (NotDue c.in-Ok-NotDue.field-0-0) refl refl tt (made_as _ _ c.in-Ok-NotDue.field-0-is _ _ _ _ c.in-Ok-NotDue.ensures.seen)

pub returns-in-Ok-Full-clause-does : goal.returns-in-Ok-Full-clause-does
returns-in-Ok-Full-clause-does g c =
    not_begun _ _ _ _ _ c.args.root.now c.args.moment (Crowded c.in-Ok-Full.count) refl refl tt (made_as _ _ c.in-Ok-Full.field-0-is _ _ _ _ c.in-Ok-Full.ensures.seen)

pub returns-in-Ok-gather-clause-does : goal.returns-in-Ok-gather-clause-does
returns-in-Ok-gather-clause-does g c =
    let due = c.in-Ok-Due in
    let asked = c.in-Ok-gather.ensures.gathers in
    let end = c.end_refresh.ensures.made in
    gathered _ _ _ _ _ _ _ _ c.args.root.now c.args.moment due.refresh asked.0 _ end.0 end.1 asked.2 (made_as _ _ due.field-0-is _ _ _ _ due.ensures.seen) asked.1 end.2
    _ c.call.ensures.who end.3

pub returns-in-Ok-Due-clause-does : goal.returns-in-Ok-Due-clause-does
returns-in-Ok-Due-clause-does g c =
    let due = c.in-Ok-Due in
    let asked = c.in-Err-gather.ensures.gathers in
    let end = c.end_refresh-in-Err-gather.ensures.made in
    ungathered _ _ _ _ _ _ _ _ c.args.root.now c.args.moment due.refresh asked.0 end.0 end.1 asked.2 (made_as _ _ due.field-0-is _ _ _ _ due.ensures.seen) asked.1 end.2
    _ c.call.ensures.who end.3

pub returns-clause-does : goal.returns-clause-does
returns-clause-does g c =
    not_begun _ _ _ _ _ c.args.root.now c.args.moment NoBegin refl refl tt (made_none _ _ _ c.in-Err.ensures.seen)
