use Rattle.std.specs.List.{find}
use Rattle.std.specs.Option.{option_map}
use Rattle.shelf.specs.Open.{is_named}
use Rattle.metadata_objects.specs.Tree.{tree_view}
use Rattle.node_core.proofs.EndLemmas.{refresh_ends}
use Rattle.node_core.proofs.StateLemmas.{refresh_end_told, refresh_told_sound, sound_refresh_end}
use Rattle.node_core.proofs.state.State.refresh_end.Goals as goal

pub returns-clause-told : goal.returns-clause-told
returns-clause-told c = λ made h moment s. refresh_end_told made h c.self.inside.edge.seen _ c.self.inside.control _ c.self.inside.heading c.self.inside.opened (rw (← c.self.view_is) at s) c.args.pass c.args.refresh _ moment _ _
    c.refresh_end-ended.ensures.reply c.refresh_end-ended.ensures.after c.reply_of_refresh.ensures c.end_refresh.ensures

pub invariant_of-self : goal.invariant_of-self
invariant_of-self c =
    let edge = c.self.inside.edge.seen in
    refresh_told_sound _ c.self.inside.control c.self.inside.opened
    (rw c.refresh_end-ended.ensures.after
    (sound_refresh_end edge c.self.inside.control c.self.inside.opened c.self.invariant c.args.pass c.args.refresh (option_map tree_view c.args.tree) (find (is_named c.args.refresh c.args.pass) edge.refreshes)))
    _ _ _ c.end_refresh.ensures

pub returns-clause-ends : goal.returns-clause-ends
returns-clause-ends c = rw (← c.self.view_is) (refresh_ends c.self.inside.edge.seen _ c.self.inside.control _ c.self.inside.heading c.self.inside.opened c.args.pass c.args.refresh _ _ _
    c.refresh_end-ended.ensures.reply c.refresh_end-ended.ensures.after c.reply_of_refresh.ensures c.end_refresh.ensures)
