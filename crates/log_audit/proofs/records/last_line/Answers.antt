use Rattle.std.proofs.Common.{ℕ, List, ap, length, ◌==◌, ◌∙◌}
use Rattle.std.proofs.lemmas.Bool.{false≢true}
use Rattle.log_audit.proofs.HeadLemmas.{hash_bad, hash_more}
use Rattle.log_audit.proofs.records.last_line.Goals as goal

pub returns-in_default-clause-bad : goal.returns-in_default-clause-bad
returns-in_default-clause-bad c fields none = hash_bad c.args.number fields c.args.line.now c.args.rest.now none c.in_default.ensures

pub returns-else-is_empty-clause-bad : goal.returns-else-is_empty-clause-bad
returns-else-is_empty-clause-bad c fields none =
    hash_more c.args.number fields c.args.line.now c.args.rest.now c.in-Some.hash.now c.in-Some.ensures.0 c.in-Some.ensures.1 (λ e. false≢true (c.if-is_empty.ensures ∙ ap (λ (t : List ℕ). length t == 0) e))
