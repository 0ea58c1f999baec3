use Rattle.shelf.proofs.HeldLemmas.{part_or_same}
use Rattle.node_core.proofs.PurgedLemmas.{completes_is, part_or_eq}
use Rattle.std.proofs.Common.{sym}
use Rattle.node_core.proofs.TriggerLemmas.{claimed_told, final_told, open_told, unknown_told}
use Rattle.node_core.proofs.state.State.advance.Goals as goal

pub returns-in-Unknown-clause-told : goal.returns-in-Unknown-clause-told
returns-in-Unknown-clause-told c = λ made h s. rw (← c.self.view_is) (unknown_told made h c.self.inside.edge.seen c.self.inside.control c.self.inside.heading c.self.inside.opened (rw (← c.self.view_is) at s) c.args.pass c.args.id c.args.moment (sym c.in-Unknown.ensures.value))

pub returns-in-Final-clause-told : goal.returns-in-Final-clause-told
returns-in-Final-clause-told c = λ made h s. rw (c.ended_step.ensures.reply, c.ended_step.ensures.seen, ← c.self.view_is) (final_told made h c.self.inside.edge.seen c.self.inside.control c.self.inside.heading c.self.inside.opened (rw (← c.self.view_is) at s) c.args.pass c.args.id c.args.moment c.in-Final.status (sym c.in-Final.ensures.value) c.in-Final.ensures.ended)

pub returns-in-Claimed-clause-told : goal.returns-in-Claimed-clause-told
returns-in-Claimed-clause-told c = λ made h s. rw (← c.self.view_is) (claimed_told made h c.self.inside.edge.seen c.self.inside.control c.self.inside.heading c.self.inside.opened (rw (← c.self.view_is) at s) c.args.pass c.args.id c.args.moment c.in-Claimed.claimant (sym c.in-Claimed.ensures.value))

pub returns-in-StepOpen-clause-told : goal.returns-in-StepOpen-clause-told
returns-in-StepOpen-clause-told c = λ made h s. rw (← c.self.view_is) (open_told made h c.self.inside.edge.seen c.self.inside.control c.self.inside.heading c.self.inside.opened (rw (← c.self.view_is) at s) c.args.pass c.args.id c.args.moment c.in-StepOpen.number (sym c.in-StepOpen.ensures.value))

pub returns-in-Unknown-clause-held : goal.returns-in-Unknown-clause-held
returns-in-Unknown-clause-held c = part_or_same _ _

pub returns-in-Claimed-clause-held : goal.returns-in-Claimed-clause-held
returns-in-Claimed-clause-held c = part_or_same _ _

pub returns-in-StepOpen-clause-held : goal.returns-in-StepOpen-clause-held
returns-in-StepOpen-clause-held c = part_or_same _ _

pub returns-in-Start-clause-held : goal.returns-in-Start-clause-held
returns-in-Start-clause-held c = part_or_eq _ _ _ c.start_step.ensures.held

pub returns-in-Refresh-clause-held : goal.returns-in-Refresh-clause-held
returns-in-Refresh-clause-held c = part_or_eq _ _ _ c.refresh_step.ensures.held

pub returns-in-Url-clause-held : goal.returns-in-Url-clause-held
returns-in-Url-clause-held c = part_or_eq _ _ _ c.url_step.ensures.held

pub returns-in-Final-clause-swept : goal.returns-in-Final-clause-swept
returns-in-Final-clause-swept c = λ so. c.ended_step.ensures.swept (completes_is _ c.args.id c.args.moment c.in-Final.status (rw c.ended_step.ensures.reply at so))

pub returns-in-End-clause-swept : goal.returns-in-End-clause-swept
returns-in-End-clause-swept c = λ so. c.end_step.ensures.swept (completes_is _ c.args.id c.args.moment c.in-End.status (rw c.end_step.ensures.reply at so))
