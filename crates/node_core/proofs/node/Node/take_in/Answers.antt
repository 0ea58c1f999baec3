use Rattle.history.specs.Event.{event_of}
use Rattle.node_core.proofs.NeededLemmas.{enters_ok, holds_of}
use Rattle.node_core.proofs.node.Node.take_in.Goals as goal

pub returns-then-is_end-clause-told : goal.returns-then-is_end-clause-told
returns-then-is_end-clause-told c = λ made h s. enters_ok c.what_is_open_has_begun_and_not_ended.ensures.deliveries c.what_is_open_has_begun_and_not_ended.ensures.fetches c.what_is_open_has_begun_and_not_ended.ensures.refreshes
    c.later_numbers_are_greater.ensures.deliveries c.later_numbers_are_greater.ensures.fetches c.later_numbers_are_greater.ensures.refreshes
    _ _ made h (c.args.pass, event_of c.args.call) _ (holds_of s) c.end.ensures.told

pub returns-else-is_end-clause-told : goal.returns-else-is_end-clause-told
returns-else-is_end-clause-told c = λ made h s. enters_ok c.what_is_open_has_begun_and_not_ended.ensures.deliveries c.what_is_open_has_begun_and_not_ended.ensures.fetches c.what_is_open_has_begun_and_not_ended.ensures.refreshes
    c.later_numbers_are_greater.ensures.deliveries c.later_numbers_are_greater.ensures.fetches c.later_numbers_are_greater.ensures.refreshes
    _ _ made h (c.args.pass, event_of c.args.call) _ (holds_of s) c.begin.ensures.told
