use Rattle.std.proofs.Common.{◌∙◌}
use Rattle.log_audit.proofs.ValueLemmas.{doubled_step}
use Rattle.log_audit.proofs.value.is_doubled.Goals as goal

pub bytes-preserved : goal.bytes-preserved
bytes-preserved c = doubled_step c.bytes.waits c.in-Some.next c.args.text.now c.bytes.byte-index c.bytes-test.true c.in-Some.ensures ∙ c.bytes.invariant
