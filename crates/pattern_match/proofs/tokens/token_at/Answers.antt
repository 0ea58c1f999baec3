use Rattle.std.proofs.Common.{◌+◌, sym, ◌∙◌}
use Rattle.pattern_match.proofs.TokenLemmas.{first-escape, first-plain, first-last}
use Rattle.pattern_match.proofs.tokens.token_at.Goals as goal
use Rattle.pattern_match.proofs.tokens.token_at.Goals.{then-after-text+else-is_escape, else-after-text}

pub returns-then-is_escape-clause-first : goal.returns-then-is_escape-clause-first
returns-then-is_escape-clause-first c =
    let first = rw (← c.len.ensures) at c.unit_at-unit.ensures.first in
    let second = rw (← c.len-then-is_escape.ensures) at c.unit_at-next.ensures.first in
    first-escape c.args.text.now c.args.at (c.args.at + c.len.result) (c.args.at + c.len.result + c.len-then-is_escape.result) c.unit_at-unit.result c.unit_at-next.result first second (sym c.is_escape.ensures ∙ c.if-is_escape.true)

pub returns-clause-first : goal.returns-clause-first
returns-clause-first c =
    let first = rw (← c.len.ensures) at c.unit_at-unit.ensures.first in
    rw c.token_of.ensures (elim c.if-after-text.branch [ then-after-text+else-is_escape w ↦ first-plain c.args.text.now c.args.at (c.args.at + c.len.result) _ c.unit_at-unit.result w.unit_at-next.result first w.unit_at-next.ensures.first (sym w.is_escape.ensures ∙ w.if-is_escape.false) | else-after-text w ↦ first-last c.args.text.now c.args.at (c.args.at + c.len.result) c.unit_at-unit.result first w.if-after-text.false ])
