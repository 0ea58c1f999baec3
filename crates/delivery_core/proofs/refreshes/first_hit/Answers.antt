use Rattle.std.proofs.Common.{sym, ◌∙◌}
use Rattle.delivery_core.proofs.RefreshLemmas.{noted_hit, noted_miss}
use Rattle.delivery_core.proofs.refreshes.first_hit.Goals as goal

pub starts-preserved : goal.starts-preserved
starts-preserved c =
    sym (noted_miss c.args.resources.now c.args.starts.now.stored c.starts.i c.entry-start.result.now c.entry-start.ensures (sym c.is_hit.ensures ∙ c.if-is_hit.false))
    ∙ c.starts.invariant

pub returns-then-is_hit : goal.returns-then-is_hit
returns-then-is_hit c =
    sym (noted_hit c.args.resources.now c.args.starts.now.stored c.starts.i c.entry-start.result.now c.entry-start.ensures (sym c.is_hit.ensures ∙ c.if-is_hit.true))
    ∙ c.starts.invariant
