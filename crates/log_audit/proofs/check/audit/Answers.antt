use Rattle.log_audit.proofs.AuditLemmas.{accepted_answer, bad_hash_answer, bad_line_answer, too_long_is, written_answer}
use Rattle.log_audit.proofs.SumLemmas.{sums_answer}
use Rattle.log_audit.proofs.check.audit.Goals as goal

pub returns-clause-sums : goal.returns-clause-sums
returns-clause-sums c = sums_answer c.args.bytes.now c.checked.result c.checked.ensures.read c.checked.ensures.sums

pub returns-clause-too_long : goal.returns-clause-too_long
returns-clause-too_long c = too_long_is c.args.bytes.now c.checked.result c.checked.ensures.read c.checked.ensures.fault

pub returns-clause-bad_line : goal.returns-clause-bad_line
returns-clause-bad_line c = bad_line_answer c.args.bytes.now c.checked.result c.checked.ensures.read c.checked.ensures.fault

pub returns-clause-bad_hash : goal.returns-clause-bad_hash
returns-clause-bad_hash c = bad_hash_answer c.args.bytes.now c.checked.result c.checked.ensures.read c.checked.ensures.fault

pub returns-clause-accepted : goal.returns-clause-accepted
returns-clause-accepted c = accepted_answer c.args.bytes.now c.checked.result c.checked.ensures.read c.checked.ensures.fault

pub returns-clause-written : goal.returns-clause-written
returns-clause-written c = written_answer c.args.bytes.now c.checked.result c.checked.ensures.read c.checked.ensures.fault
