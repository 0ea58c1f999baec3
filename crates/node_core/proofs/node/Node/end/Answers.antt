use Rattle.std.proofs.Common.{ap, ◌∙◌, arith}
use Rattle.history.specs.Event.{event_of}
use Rattle.node_core.proofs.NodeLemmas.{ends_no_purge, entered, few_left, same_left, was_open, was_not_open, not_ok, on_err}
use Rattle.node_core.proofs.node.Node.end.Goals as goal

pub invariant_of-self : goal.invariant_of-self
invariant_of-self c = (few_left _ _ _ _ _ _ c.end-reply.ensures.ends c.self.invariant.0 c.take_place.ensures.freed c.take_place.ensures.same, c.take_place.ensures.placed, c.take_place.ensures.within)

pub returns-in_err-take_place-clause-ended : goal.returns-in_err-take_place-clause-ended
returns-in_err-take_place-clause-ended c = λ there. absurd (not_ok _ _ c.in_err-take_place.was (c.take_place.ensures.open (was_open _ _ _ _ c.end-reply.ensures.ends (rw (← c.self.view_is) at there))))

pub returns-in_err-take_place-clause-err : goal.returns-in_err-take_place-clause-err
returns-in_err-take_place-clause-err c =
    on_err _ (same_left _ _ _ _ _ _ _ _ _ _ _ c.end-reply.ensures.ends (λ none. c.end-reply.ensures.closed none) (was_not_open _ _ _ c.in_err-take_place.was c.take_place.ensures.open) c.take_place.ensures.retired c.take_place.ensures.stored ∙ c.self.view_is)

pub invariant_of-self-2 : goal.invariant_of-self-2
invariant_of-self-2 c =
    let spare = ap (λ j. j.spare) c.push_reserved.ensures in
    let room = c.in_ok-take_place.ensures.room in
    let within = c.take_place.ensures.within in
    (few_left _ _ _ _ _ _ c.end-reply.ensures.ends c.self.invariant.0 c.take_place.ensures.freed c.take_place.ensures.same, omega (arith, room), omega (arith, spare, room, within))

pub returns-clause-told : goal.returns-clause-told
returns-clause-told c =
    let i = c.self.inside in
    rw (← c.self.view_is) (entered (record { limits = i.limits; heading = i.state.seen.heading }) (record { limits = i.limits; heading = c.end-reply.new.self.seen.heading }) i.state c.end-reply.new.self i.journal c.take_place.new.journal
    c.push_reserved.new.self c.args.pass (event_of c.args.call) c.end-reply.result (record { pass = c.args.pass; call = c.stripped-kept.result; need = c.need_of.result }) c.end-reply.ensures.told c.end-reply.ensures.held (λ so. absurd (ends_no_purge _ (event_of c.args.call) _ c.requires so))
    c.take_place.ensures.stored c.take_place.ensures.retired c.push_reserved.ensures (ap (λ e. (c.args.pass, e)) c.stripped-kept.ensures) c.need_of.ensures)
