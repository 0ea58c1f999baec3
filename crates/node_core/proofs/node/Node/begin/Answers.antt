use Rattle.std.proofs.Common.{ap}
use Rattle.history.specs.Event.{event_of}
use Rattle.node_core.proofs.NodeLemmas.{entered, ok_as, ok_of, unstripped}
use Rattle.node_core.proofs.node.Node.begin.Goals as goal

pub returns-clause-told : goal.returns-clause-told
returns-clause-told c =
    let i = c.self.inside in
    let r = c.in-Ok.reply in
    let says = c.call-answer.ensures in
    ok_as _ c.call-answer.result r c.in-Ok.is (rw (← c.self.view_is) (entered (record { limits = i.limits; heading = i.state.seen.heading }) (record { limits = i.limits; heading = c.call-answer.new.self.seen.heading }) i.state c.call-answer.new.self
    i.journal c.reserve.new.journal c.push_reserved.new.self c.args.pass (event_of c.args.call) r (record { pass = c.args.pass; call = c.args.call; need = c.need_of-need.result }) (λ m h follows. ok_of _ c.call-answer.result r c.in-Ok.is (says.told m h follows))
    says.held (ok_of _ c.call-answer.result r c.in-Ok.is says.swept) c.reserve.ensures.stored c.reserve.ensures.retired c.push_reserved.ensures (ap (λ e. (c.args.pass, e)) (unstripped (event_of c.args.call) c.requires)) c.need_of-need.ensures))
