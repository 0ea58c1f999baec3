use Rattle.std.proofs.Common.{length}
use Rattle.cdni_log.proofs.field_list.+are_apart.Given as goal

abbrev pub decreases-are_apart : goal.decreases-are_apart
decreases-are_apart l = length l.fields.now
