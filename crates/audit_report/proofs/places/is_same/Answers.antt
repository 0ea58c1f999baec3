use Rattle.std.proofs.Common.{rules}
use Rattle.audit_report.proofs.OrderLemmas.{same_is}
use Rattle.audit_report.proofs.places.is_same.Goals as goal

pub returns : goal.returns
returns c = same_is c.eq.result c.args.field.now c.args.other.now (search rules)
