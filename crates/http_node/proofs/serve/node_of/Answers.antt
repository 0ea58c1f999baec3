use Rattle.std.proofs.Common.{[], ◌≡◌, IfOk, subst}
use Rattle.history.specs.World.{node_made}
use Rattle.node_core.specs.Node.{Stands}
use Rattle.http_node.proofs.serve.node_of.Goals as goal

pub returns-clause-stands : goal.returns-clause-stands
returns-clause-stands c = subst (λ fields. IfOk c.new.result (λ node. Stands node (node_made c.args.limits.now c.args.origin fields) [])) c.in_ok-logged.ensures c.new.ensures.stands

pub returns-clause-made : goal.returns-clause-made
returns-clause-made c = subst (λ fields. IfOk c.new.result (λ node. node.made ≡ node_made c.args.limits.now c.args.origin fields)) c.in_ok-logged.ensures c.new.ensures.made
