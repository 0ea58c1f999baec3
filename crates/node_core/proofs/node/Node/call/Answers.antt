use Rattle.history.specs.Event.{event_of}
use Rattle.node_core.proofs.NeededLemmas.{holds_of}
use Rattle.node_core.proofs.NodeLemmas.{begun_is_end, ends_open_by}
use Rattle.node_core.proofs.node.Node.call.Goals as goal

pub returns-then-is_err-clause-ended : goal.returns-then-is_err-clause-ended
returns-then-is_err-clause-ended c = λ made h s begun. c.take_in-answer.ensures.ended (begun_is_end made h c.args.pass (event_of c.args.call) begun)
    (ends_open_by c.what_is_open_has_begun_and_not_ended.ensures.deliveries c.what_is_open_has_begun_and_not_ended.ensures.fetches c.what_is_open_has_begun_and_not_ended.ensures.refreshes made h _ (holds_of s) c.args.pass
    (event_of c.args.call) begun)
