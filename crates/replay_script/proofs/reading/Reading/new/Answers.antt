use Rattle.std.proofs.Common.{[], ap, subst}
use Rattle.node_core.specs.Node.{Stands}
use Rattle.replay_script.specs.Script.{made_with}
use Rattle.replay_script.proofs.ReadingLemmas.{running_start}
use Rattle.replay_script.proofs.reading.Reading.new.Goals as goal

pub returns-clause-start : goal.returns-clause-start
returns-clause-start c = λ before.
    running_start before _ _ _ (ap (λ l. l.ahead) c.in_ok-new.ensures)
    (subst (λ limits. Stands c.in_ok-scripted_node.field-0 (made_with limits).made []) c.standard.ensures c.in_ok-scripted_node.ensures)
