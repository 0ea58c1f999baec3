use Rattle.content_request.proofs.CourseLemmas.{content_delivered, content_full, content_short, gate_later}
use Rattle.content_request.proofs.content.content.Goals as goal

pub returns-in-Ready-clause-does : goal.returns-in-Ready-clause-does
returns-in-Ready-clause-does g c =
    let first = c.in-Ready.ensures.does in
    content_delivered _ _ _ _ _ _ _ _ _ _ _ _ _ _ _ c.args.root.now c.args.asked c.args.place c.args.manner.now first.0 c.deliver.result first.1 first.2 (gate_later _ _ _ c.refresh.ensures.later) _ c.refresh.ensures.who c.deliver.ensures.does

pub returns-in-Full-clause-does : goal.returns-in-Full-clause-does
returns-in-Full-clause-does g c =
    let first = c.in-Full.ensures.does in
    content_full _ _ _ _ _ _ _ _ _ c.turn_away-sent.result _ _ c.args.root.now c.args.asked c.args.place c.args.manner.now first.0 c.in-Full.count c.next_of.result c.turn_away-sent.ensures.says c.next_of.ensures first.1 first.2

pub returns-in-Memory-clause-does : goal.returns-in-Memory-clause-does
returns-in-Memory-clause-does g c =
    let first = c.in-Memory.ensures.does in
    let s = c.fall_short.ensures.says in
    content_short _ _ _ _ _ _ _ _ _ s.0 _ _ c.args.root.now c.args.asked c.args.place c.args.manner.now first.0 c.fall_short.result s.1 s.2 first.1 first.2
