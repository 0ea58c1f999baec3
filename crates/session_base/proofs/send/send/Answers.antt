use Rattle.std.proofs.Common.{refl}
use Rattle.session_base.proofs.AnswerLemmas.{says_both}
use Rattle.session_base.proofs.send.send.Goals as goal

pub returns-clause-says : goal.returns-clause-says
returns-clause-says g c =
    let first = c.write_counted-written.ensures in
    let second = c.write_counted-more.ensures in
    says_both _ (record { status = c.args.status; head = c.args.head.now; body = c.args.body.now }) _ _ _ _ c.write_counted-written.result.taken c.write_counted-more.result.taken
    refl first.held (first.whole c.if-written.false) second.held second.within second.whole second.cut refl refl refl
