use Rattle.std.proofs.Common.{sym, ◌∙◌, false, List, ℕ, subst}
use Rattle.targets.specs.declared.target.Target.{Target}
use Rattle.upstream_gate.specs.Plan.{origin_form, Asked as IsAsked}
use Rattle.session_base.specs.Answer.{Says}
use Rattle.session_base.specs.Content.{IsShown, content_shown}
use Rattle.session_base.proofs.DoingLemmas.{makes_none}
use Rattle.content_request.proofs.CourseLemmas.{barred, kept, full, missed, no_room, write_fault}
use Rattle.session_base.proofs.DoingLemmas.{made_as, made_none}
use Rattle.content_request.proofs.content.deliver.Goals as goal

pub returns-in_default-clause-does : goal.returns-in_default-clause-does
returns-in_default-clause-does g c =
    let s = c.fall_short.ensures.says in
    let who = g.H.Home.who c.args.home.now in
    no_room who _ _ _ _ _ _ s.0 _ _ c.args.asked c.args.place c.args.manner.now _ s.1 s.2 (makes_none who _ _)

pub returns-in-Ok-Denied-clause-does : goal.returns-in-Ok-Denied-clause-does
returns-in-Ok-Denied-clause-does g c =
    let denied = c.in-Ok-Denied in
    let fin = c.finish.ensures.made in
    barred _ _ _ _ _ _ _ _ _ c.deny-sent.result _ _ c.args.asked c.args.place c.args.manner.now denied.delivery denied.rule fin.0 fin.1 c.next_of.result c.deny-sent.ensures.says c.next_of.ensures
    (rw (← c.in-Ok.ensures.extra) (made_as _ _ denied.field-0-is _ _ _ _ denied.ensures.seen)) fin.2 _ c.call.ensures.who fin.3

pub returns-in-Ok-Hit-clause-does : goal.returns-in-Ok-Hit-clause-does
returns-in-Ok-Hit-clause-does g c =
    let hit = c.in-Ok-Hit in
    let fin = c.finish-in-Ok-Hit.ensures.made in
    let says = subst (λ (body : List ℕ). Says (IsShown (content_shown c.args.manner.now hit.kind body)) (g.K.Sink.held c.args.sink.now) (g.K.Sink.held c.give-sent.new.sink) c.give-sent.result) c.bytes.ensures c.give-sent.ensures.says in
    kept _ _ _ _ _ _ _ _ _ c.give-sent.result _ _ c.args.asked c.args.place c.args.manner.now hit.delivery hit.field-0-1 hit.kind hit.body fin.0 fin.1 c.next_of-in-Ok-Hit.result says c.next_of-in-Ok-Hit.ensures
    (rw (← c.in-Ok.ensures.extra) (made_as _ _ hit.field-0-is _ _ _ _ hit.ensures.seen)) fin.2 _ c.call.ensures.who fin.3

pub returns-in-Ok-Hit-clause-write : goal.returns-in-Ok-Hit-clause-write
returns-in-Ok-Hit-clause-write g c = λ stops. c.give-sent.ensures.cause.failed (write_fault c.args.manner.now.leaves false c.give-sent.result.fault (sym c.next_of-in-Ok-Hit.ensures ∙ stops))

pub returns-in-Ok-Miss-clause-does : goal.returns-in-Ok-Miss-clause-does
returns-in-Ok-Miss-clause-does g c =
    let miss = c.in-Ok-Miss in
    let asked = c.ask-outcome.ensures.asked in
    let rest = c.deliver_fetched.ensures.does in
    let planned = subst (λ (target : Target). IsAsked (origin_form target) miss.plan asked.0 c.ask-outcome.result) c.in-Ok.ensures.target asked.2 in
    missed _ _ _ _ _ _ _ _ _ _ _ _ c.args.asked c.args.place c.args.manner.now miss.delivery miss.fetch miss.plan asked.0 c.ask-outcome.result rest.0 c.deliver_fetched.result planned c.ask-outcome.ensures.failed
    (rw (← c.in-Ok.ensures.extra) (made_as _ _ miss.field-0-is _ _ _ _ miss.ensures.seen)) asked.1 rest.1 _ c.call.ensures.who rest.2

pub returns-in-Ok-Full-clause-does : goal.returns-in-Ok-Full-clause-does
returns-in-Ok-Full-clause-does g c =
    let reached = c.in-Ok-Full in
    full _ _ _ _ _ _ _ c.turn_away-sent.result _ _ c.args.asked c.args.place c.args.manner.now reached.count c.next_of-in-Ok-Full.result c.turn_away-sent.ensures.says c.next_of-in-Ok-Full.ensures
    (rw (← c.in-Ok.ensures.extra) (made_as _ _ reached.field-0-is _ _ _ _ reached.ensures.seen))

pub returns-clause-does : goal.returns-clause-does
returns-clause-does g c =
    let s = c.fall_short-in-Err.ensures.says in
    no_room _ _ _ _ _ _ _ s.0 _ _ c.args.asked c.args.place c.args.manner.now _ s.1 s.2 (made_none _ _ _ c.in-Err.ensures.seen)
