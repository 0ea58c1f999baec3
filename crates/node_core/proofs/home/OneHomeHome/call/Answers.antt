use Rattle.history.specs.Event.{event_of}
use Rattle.node_core.proofs.HomeLemmas.{seen_by}
use Rattle.node_core.proofs.home.OneHomeHome.call.Goals as goal

pub returns-clause-seen : goal.returns-clause-seen
returns-clause-seen g c = λ h s. seen_by _ _ _ _ h (event_of c.args.call) c.call.ensures.made s (c.call.ensures.told _ h s.0) c.call.ensures.err

pub returns-clause-ended : goal.returns-clause-ended
returns-clause-ended g c = λ h s begun. c.call.ensures.ended _ h s.0 begun
