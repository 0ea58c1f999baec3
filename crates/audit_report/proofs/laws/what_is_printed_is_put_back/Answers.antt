use Rattle.audit_report.proofs.OrderLemmas.{put_back}
use Rattle.audit_report.proofs.laws.what_is_printed_is_put_back.Goals as goal

pub returns : goal.returns
returns c = put_back
