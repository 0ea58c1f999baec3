use Rattle.std.proofs.Common.{refl, ap, ◌∙◌}
use Rattle.trigger_table.specs.State.{fetch_ended_in}
use Rattle.trigger_table.specs.Triggers.{ids_of}
use Rattle.trigger_table.proofs.Ends.{fetch_id, same_ids, set_upto, whole}
use Rattle.trigger_table.proofs.triggers.end_fetch.Goals as goal

pub states-init : goal.states-init
states-init c = refl

pub states-preserved : goal.states-preserved
states-preserved c = set_upto (fetch_ended_in c.args.fetch c.args.good) c.states.state-index _ c.args.items.now c.states.items _ c.states-test.true c.states.invariant c.fetch_ended.ensures.after

pub returns-clause-after : goal.returns-clause-after
returns-clause-after c = whole (fetch_ended_in c.args.fetch c.args.good) c.states.state-index c.args.items.now c.states.items c.states.invariant c.states-test.false

pub returns-clause-ids : goal.returns-clause-ids
returns-clause-ids c = ap ids_of (whole (fetch_ended_in c.args.fetch c.args.good) c.states.state-index c.args.items.now c.states.items c.states.invariant c.states-test.false)
    ∙ same_ids (fetch_ended_in c.args.fetch c.args.good) (fetch_id c.args.fetch c.args.good) c.args.items.now
