use Rattle.std.proofs.Common.{refl}
use Rattle.history.specs.declared.reply.Reply.TheVariants as reply
use Rattle.control_request.specs.declared.advance.Step.TheVariants as step
use Rattle.control_request.proofs.AdvanceLemmas.{called_at, lacked, moved_fetch, moved_refresh, only_moved}
use Rattle.control_request.proofs.advance.advance_once.Goals as goal

pub returns-in-Ok-Started-clause-does : goal.returns-in-Ok-Started-clause-does
returns-in-Ok-Started-clause-does g c =
    let read = c.read_clock-moment.ensures.read in
    only_moved _ _ _ _ _ _ _ c.args.root.now c.args.id read.0 reply.Started step.Goes read.1 (called_at _ _ _ c.args.id read.0 _ _ _ c.in-Ok-Started.field-0-is read.2 c.in-Ok-Started.ensures.seen) (refl, refl)

pub returns-in-Ok-Skipped-clause-does : goal.returns-in-Ok-Skipped-clause-does
returns-in-Ok-Skipped-clause-does g c =
    let read = c.read_clock-moment.ensures.read in
    only_moved _ _ _ _ _ _ _ c.args.root.now c.args.id read.0 _ step.Goes read.1 (called_at _ _ _ c.args.id read.0 _ _ _ c.in-Ok-Skipped.field-0-is read.2 c.in-Ok-Skipped.ensures.seen) (refl, refl)

pub returns-in-Ok-Fetch-clause-does : goal.returns-in-Ok-Fetch-clause-does
returns-in-Ok-Fetch-clause-does g c =
    let read = c.read_clock-moment.ensures.read in
    let begun = c.in-Ok-Fetch in
    moved_fetch _ _ _ _ _ _ _ _ _ _ _ c.args.root.now c.args.id read.0 begun.fetch begun.plan begun.target c.fetch_for.result read.1 (called_at _ _ _ c.args.id read.0 _ _ _ begun.field-0-is read.2 begun.ensures.seen)
    _ c.call.ensures.who c.fetch_for.ensures.does

pub returns-in-Ok-Refresh-clause-does : goal.returns-in-Ok-Refresh-clause-does
returns-in-Ok-Refresh-clause-does g c =
    let read = c.read_clock-moment.ensures.read in
    let begun = c.in-Ok-Refresh in
    moved_refresh _ _ _ _ _ _ _ _ _ _ _ c.args.root.now c.args.id read.0 begun.refresh c.refresh_for.result read.1 (called_at _ _ _ c.args.id read.0 _ _ _ begun.field-0-is read.2 begun.ensures.seen)
    _ c.call.ensures.who c.refresh_for.ensures.does

pub returns-in-Ok-Final-clause-does : goal.returns-in-Ok-Final-clause-does
returns-in-Ok-Final-clause-does g c =
    let read = c.read_clock-moment.ensures.read in
    only_moved _ _ _ _ _ _ _ c.args.root.now c.args.id read.0 _ step.Rests read.1 (called_at _ _ _ c.args.id read.0 _ _ _ c.in-Ok-Final.field-0-is read.2 c.in-Ok-Final.ensures.seen) (refl, refl)

pub returns-in-Ok-Unknown-clause-does : goal.returns-in-Ok-Unknown-clause-does
returns-in-Ok-Unknown-clause-does g c =
    let read = c.read_clock-moment.ensures.read in
    only_moved _ _ _ _ _ _ _ c.args.root.now c.args.id read.0 _ step.Rests read.1 (called_at _ _ _ c.args.id read.0 _ _ _ c.in-Ok-Unknown.field-0-is read.2 c.in-Ok-Unknown.ensures.seen) (refl, refl)

pub returns-in-Ok-Full-clause-does : goal.returns-in-Ok-Full-clause-does
returns-in-Ok-Full-clause-does g c =
    let read = c.read_clock-moment.ensures.read in
    only_moved _ _ _ _ _ _ _ c.args.root.now c.args.id read.0 _ step.Rests read.1 (called_at _ _ _ c.args.id read.0 _ _ _ c.in-Ok-Full.field-0-is read.2 c.in-Ok-Full.ensures.seen) (refl, refl)

pub returns-in-Ok-Claimed-clause-does : goal.returns-in-Ok-Claimed-clause-does
returns-in-Ok-Claimed-clause-does g c =
    let read = c.read_clock-moment.ensures.read in
    only_moved _ _ _ _ _ _ _ c.args.root.now c.args.id read.0 _ step.Rests read.1 (called_at _ _ _ c.args.id read.0 _ _ _ c.in-Ok-Claimed.field-0-is read.2 c.in-Ok-Claimed.ensures.seen) (refl, refl)

pub returns-in-Ok-StepOpen-clause-does : goal.returns-in-Ok-StepOpen-clause-does
returns-in-Ok-StepOpen-clause-does g c =
    let read = c.read_clock-moment.ensures.read in
    only_moved _ _ _ _ _ _ _ c.args.root.now c.args.id read.0 _ step.Rests read.1 (called_at _ _ _ c.args.id read.0 _ _ _ c.in-Ok-StepOpen.field-0-is read.2 c.in-Ok-StepOpen.ensures.seen) (refl, refl)

pub returns-in-Err-clause-does : goal.returns-in-Err-clause-does
returns-in-Err-clause-does g c =
    let read = c.read_clock-moment.ensures.read in
    lacked _ _ _ _ _ _ _ c.args.root.now c.args.id read.0 read.1 c.in-Err.ensures.seen
