use Rattle.shelf.specs.Open.{is_named}
use Rattle.shelf.specs.KeptShelf.{is_gained}
use Rattle.node_core.proofs.PurgedLemmas.{closed_of}
use Rattle.std.proofs.Common.{find, sym}
use Rattle.std.proofs.Common.{ap, ◌∙◌}
use Rattle.node_core.proofs.EndLemmas.{any_found, fetch_ends}
use Rattle.node_core.proofs.StateLemmas.{fetch_end_told, fetch_told_sound, sound_fetch_end}
use Rattle.node_core.specs.Triggering.{fetch_told}
use Rattle.node_core.proofs.state.State.fetch_end.Goals as goal

pub returns-clause-told : goal.returns-clause-told
returns-clause-told c = λ made h moment s. fetch_end_told made h c.self.inside.edge.seen _ c.self.inside.control _ c.self.inside.heading c.self.inside.opened (rw (← c.self.view_is) at s) c.args.pass c.args.fetch c.args.outcome moment _ _
    c.fetch_end-ended.ensures.reply c.fetch_end-ended.ensures.after c.reply_of_fetch.ensures (c.end_fetch.ensures ∙ ap (fetch_told c.self.inside.control c.args.fetch _) c.is_fetched-good.ensures)

pub invariant_of-self : goal.invariant_of-self
invariant_of-self c = fetch_told_sound _ c.self.inside.control c.self.inside.opened (rw c.fetch_end-ended.ensures.after (sound_fetch_end c.self.inside.edge.seen c.self.inside.control c.self.inside.opened c.self.invariant c.args.pass c.args.fetch c.args.outcome _)) _ _ _ _ c.end_fetch.ensures

pub returns-clause-ends : goal.returns-clause-ends
returns-clause-ends c = rw (← c.self.view_is) (fetch_ends c.self.inside.edge.seen _ c.self.inside.control _ c.self.inside.heading c.self.inside.opened c.args.pass c.args.fetch c.args.outcome _ _
    c.fetch_end-ended.ensures.reply c.fetch_end-ended.ensures.after c.reply_of_fetch.ensures _ c.end_fetch.ensures)

pub returns-clause-held : goal.returns-clause-held
returns-clause-held c = rw (← c.self.view_is) c.fetch_end-ended.ensures.held

pub returns-clause-closed : goal.returns-clause-closed
returns-clause-closed c =
    let test = is_named c.args.fetch c.args.pass in
    rw (← c.self.view_is) (λ none. closed_of (find test c.self.inside.edge.seen.fetches) c.fetch_end-ended.result c.fetch_end-ended.new.self c.self.inside.edge (λ one. is_gained c.self.inside.edge.seen.limits.cache c.self.inside.edge.seen.kept one c.args.outcome) c.fetch_end-ended.ensures.reply
    (sym (any_found test c.self.inside.edge.seen.fetches) ∙ none) c.fetch_end-ended.ensures.closed)
