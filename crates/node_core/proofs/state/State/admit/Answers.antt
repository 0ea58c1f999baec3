use Rattle.delivery_core.proofs.Places.{admit_places}
use Rattle.history.specs.Event.{request_of}
use Rattle.node_core.proofs.StateLemmas.{admit_sound, admit_told}
use Rattle.node_core.proofs.state.State.admit.Goals as goal

pub invariant_of-self-2 : goal.invariant_of-self-2
invariant_of-self-2 c = admit_sound c.self.inside.edge.seen c.self.inside.control c.self.inside.opened c.self.invariant _ c.args.pass (request_of c.args.asked c.args.place c.args.extra) c.args.moment _ _ c.in_ok-admitted.ensures.reply c.in_ok-admitted.ensures.after c.opened_by.ensures

pub returns-clause-told : goal.returns-clause-told
returns-clause-told c = λ made h s. admit_told made h c.self.inside.edge.seen _ c.self.inside.control c.self.inside.heading c.self.inside.opened (rw (← c.self.view_is) at s) c.args.pass (request_of c.args.asked c.args.place c.args.extra) c.args.moment _ _ _ c.in_ok-admitted.ensures.reply c.in_ok-admitted.ensures.after c.reply_of.ensures c.opened_by.ensures

pub returns-clause-places : goal.returns-clause-places
returns-clause-places c = rw (← c.self.view_is) (admit_places c.self.inside.edge.seen c.args.pass _ c.self.inside.opened (request_of c.args.asked c.args.place c.args.extra) c.args.moment _ _ c.in_ok-admitted.ensures.reply c.in_ok-admitted.ensures.after c.reply_of.ensures)

pub returns-in_err-admitted-clause-held : goal.returns-in_err-admitted-clause-held
returns-in_err-admitted-clause-held c = rw (← c.self.view_is) c.admit.ensures.held

pub returns-clause-held : goal.returns-clause-held
returns-clause-held c = rw (← c.self.view_is) c.admit.ensures.held
