use Rattle.std.specs.Option.{option_map}
use Rattle.node_core.proofs.PurgedLemmas.{swept_held}
use Rattle.node_core.proofs.state.State.ended_step.Goals as goal

pub returns-clause-held : goal.returns-clause-held
returns-clause-held c = rw (← c.self.view_is) (swept_held c.self.inside.edge c.sweep_after.new.edge (option_map (λ j. j.now) c.job.result) c.sweep_after.ensures)
