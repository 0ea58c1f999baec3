use Rattle.std.proofs.Common.{◌∙◌, sym, ap, subst, ◌++◌}
use Rattle.workers.proofs.FinishingLemmas.{takes_both}
use Rattle.workers.proofs.finishing.take_in.Goals as goal

pub returns-in-Some : goal.returns-in-Some
returns-in-Some g c = λ home sits numbers seen table passes.
    takes_both _ _ home c.args.kept.now _ c.args.pass _ c.in-Some.is table passes c.join_pass.ensures.pass numbers seen c.join_pass.ensures.numbers c.join_pass.ensures.after_keep c.join_pass.ensures.after_gone
