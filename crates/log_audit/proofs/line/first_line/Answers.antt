use Rattle.std.proofs.Common.{take, subst, sym}
use Rattle.std.proofs.lemmas.List.{take_rest}
use Rattle.log_audit.specs.Lines.{IsCutOff}
use Rattle.log_audit.proofs.line.first_line.Goals as goal

pub returns : goal.returns
returns c =
    let end = c.end_of_line-end.result in
    subst (IsCutOff c.args.text.now (take end c.args.text.now)) (sym (take_rest c.args.text.now end)) c.end_of_line-end.ensures.cut
