use Rattle.std.proofs.Common.{ap}
use Rattle.delivery_core.specs.Edge.{Holding}
use Rattle.node_core.proofs.StateLemmas.{stands_at_start}
use Rattle.node_core.proofs.state.State.new.Goals as goal

pub returns-clause-follows : goal.returns-clause-follows
returns-clause-follows c = stands_at_start (record { limits = c.args.limits.now; heading = c.args.heading }) _ _ (ap (λ (v : Holding). v.seen) c.in_ok-new.ensures) c.in_ok-new-2.ensures

pub returns-clause-held : goal.returns-clause-held
returns-clause-held c = ap (λ (v : Holding). v.held) c.in_ok-new.ensures
