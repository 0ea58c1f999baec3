use Rattle.node_core.proofs.PurgedLemmas.{part_or_eq}
use Rattle.node_core.proofs.state.State.end.Goals as goal

pub returns-in-RefreshEnd-clause-held : goal.returns-in-RefreshEnd-clause-held
returns-in-RefreshEnd-clause-held c = part_or_eq _ _ _ c.refresh_end.ensures.held

pub returns-in-Finish-clause-held : goal.returns-in-Finish-clause-held
returns-in-Finish-clause-held c = part_or_eq _ _ _ c.finish.ensures.held
