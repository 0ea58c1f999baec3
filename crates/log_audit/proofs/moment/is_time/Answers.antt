use Rattle.std.proofs.Common.{◌+◌, ◌*◌, arith}
use Rattle.log_audit.proofs.MomentLemmas.{time_test}
use Rattle.log_audit.proofs.moment.is_time.Goals as goal

pub returns-in-len12 : goal.returns-in-len12
returns-in-len12 c =
    time_test c.args.text.now (c.tens.result * 3600 + c.tens-in-len12.result * 60 + c.tens-in-len12-2.result) (c.tens-in-len12-3.result * 10 + c.ones.result) c.is_time_text.result (omega arith)
    (omega (arith, c.tens.ensures.value, c.tens-in-len12.ensures.value, c.tens-in-len12-2.ensures.value)) (omega (arith, c.tens-in-len12-3.ensures.value, c.ones.ensures.value)) c.is_time_text.ensures
