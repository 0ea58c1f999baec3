use Rattle.std.specs.Option.{option_map}
use Rattle.std.proofs.Common.{ap, ◌∙◌}
use Rattle.delivery_core.specs.Edge.{Holding}
use Rattle.node_core.proofs.PurgedLemmas.{swept_held, swept_seen}
use Rattle.node_core.proofs.TriggerLemmas.{end_told}
use Rattle.node_core.proofs.state.State.end_step.Goals as goal

pub returns-clause-told : goal.returns-clause-told
returns-clause-told c = λ made h s. rw (ap (λ (v : Holding). v.seen) c.sweep_after.ensures ∙ swept_seen c.self.inside.edge _) (end_told made h c.self.inside.edge.seen c.self.inside.control c.self.inside.heading c.self.inside.opened (rw (← c.self.view_is) at s) c.args.pass c.args.id c.args.moment _ c.args.status (rw (← c.self.view_is) at c.requires) c.step_done.ensures.after)

pub returns-clause-held : goal.returns-clause-held
returns-clause-held c = rw (← c.self.view_is) (swept_held c.self.inside.edge c.sweep_after.new.edge (option_map (λ j. j.now) c.job.result) c.sweep_after.ensures)
