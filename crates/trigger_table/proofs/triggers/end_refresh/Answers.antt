use Rattle.std.proofs.Common.{refl, ap, ◌∙◌}
use Rattle.trigger_table.specs.State.{refresh_ended_in}
use Rattle.trigger_table.specs.Triggers.{ids_of}
use Rattle.trigger_table.proofs.Ends.{refresh_id, same_ids, set_upto, whole}
use Rattle.trigger_table.proofs.triggers.end_refresh.Goals as goal

pub states-init : goal.states-init
states-init c = refl

pub states-preserved : goal.states-preserved
states-preserved c = set_upto (refresh_ended_in c.args.refresh c.args.good) c.states.state-index _ c.args.items.now c.states.items _ c.states-test.true c.states.invariant c.refresh_ended.ensures.after

pub returns-clause-after : goal.returns-clause-after
returns-clause-after c = whole (refresh_ended_in c.args.refresh c.args.good) c.states.state-index c.args.items.now c.states.items c.states.invariant c.states-test.false

pub returns-clause-ids : goal.returns-clause-ids
returns-clause-ids c = ap ids_of (whole (refresh_ended_in c.args.refresh c.args.good) c.states.state-index c.args.items.now c.states.items c.states.invariant c.states-test.false)
    ∙ same_ids (refresh_ended_in c.args.refresh c.args.good) (refresh_id c.args.refresh c.args.good) c.args.items.now
