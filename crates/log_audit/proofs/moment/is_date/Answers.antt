use Rattle.std.proofs.Common.{◌+◌, ◌*◌, arith}
use Rattle.log_audit.proofs.MomentLemmas.{date_test, no_date}
use Rattle.log_audit.proofs.moment.is_date.Goals as goal

pub returns-in-len10 : goal.returns-in-len10
returns-in-len10 c =
    date_test c.args.text.now (c.tens.result * 100 + c.tens-in-len10.result) c.tens-in-len10-2.result c.tens-in-len10-3.result c.is_date_text.result (omega arith)
    (omega (arith, c.tens.ensures.value, c.tens-in-len10.ensures.value)) (omega (arith, c.tens-in-len10-2.ensures.value)) (omega (arith, c.tens-in-len10-3.ensures.value)) c.is_date_text.ensures

pub returns-in_default : goal.returns-in_default
returns-in_default c = no_date c.args.text.now (λ e. absurd (omega (arith, e)))
