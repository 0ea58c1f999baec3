use Rattle.std.proofs.Common.{sym, ◌∙◌}
use Rattle.content_request.proofs.CountLemmas.{content_counts}
use Rattle.session.proofs.TurnLemmas.{for_content, for_control}
use Rattle.session.proofs.turn.serve_whole.Goals as goal

pub returns-then-eq-clause-does : goal.returns-then-eq-clause-does
returns-then-eq-clause-does g c =
    let does = c.serve_control.ensures.does in
    for_control _ _ _ _ _ _ _ _ _ _ _ c.args.settings.now c.args.place c.args.asked c.args.body.now c.args.manner.now c.serve_control.result does.0 (sym c.eq.ensures.value ∙ c.if-eq.true) does.1 does.2 does.3

pub returns-clause-does : goal.returns-clause-does
returns-clause-does g c =
    let does = c.content.ensures.does in
    for_content _ _ _ _ _ _ _ _ _ _ _ c.args.settings.now c.args.place c.args.asked c.args.body.now c.args.manner.now c.content.result does.0 (sym c.eq.ensures.value ∙ c.if-eq.false) does.1 does.3
    (content_counts _ _ c.args.settings.now.root c.args.asked c.args.place c.args.manner.now does.0 c.content.result does.1 c.content.ensures.gate does.2)
