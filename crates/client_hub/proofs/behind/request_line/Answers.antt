use Rattle.std.proofs.Common.{sym, ◌∙◌, ap}
use Rattle.client_hub.specs.Behind.{lines_of, head_lines}
use Rattle.client_hub.proofs.BehindLemmas.{line_cut_off, no_line_cut_off, head_begins, head_skips}
use Rattle.client_hub.proofs.behind.request_line.Goals as goal

pub returns-then-not-is_empty_line-clause-some : goal.returns-then-not-is_empty_line-clause-some
returns-then-not-is_empty_line-clause-some c =
    let cut = line_cut_off c.lines.rest.now c.in-Some.line.now c.in-Some.others.now c.in-Some.ensures in
    sym c.lines.invariant ∙ ap head_lines cut.0 ∙ head_begins c.in-Some.line.now (lines_of c.in-Some.others.now) (sym c.is_empty_line.ensures ∙ c.if-not-is_empty_line.true)

pub lines-smaller : goal.lines-smaller
lines-smaller c = (line_cut_off c.lines.rest.now c.in-Some.line.now c.in-Some.others.now c.in-Some.ensures).1

pub lines-preserved : goal.lines-preserved
lines-preserved c =
    let cut = line_cut_off c.lines.rest.now c.in-Some.line.now c.in-Some.others.now c.in-Some.ensures in
    sym (ap head_lines cut.0 ∙ head_skips c.in-Some.line.now (lines_of c.in-Some.others.now) (sym c.is_empty_line.ensures ∙ c.if-not-is_empty_line.false)) ∙ c.lines.invariant

pub returns-in-None-clause-none : goal.returns-in-None-clause-none
returns-in-None-clause-none c = sym c.lines.invariant ∙ ap head_lines (no_line_cut_off c.lines.rest.now c.in-None.ensures)
