use Rattle.std.proofs.Common.{◌&&◌, not, sym, ◌∙◌, ap}
use Rattle.client_hub.specs.Behind.{lines_of, fields_of}
use Rattle.client_hub.proofs.BehindLemmas.{body_rest, last_rest, expects_rest, body_line, last_line, expects_line, line_cut_off, no_line_cut_off, or_false}
use Rattle.client_hub.proofs.behind.told_by.Goals as goal

pub lines-smaller : goal.lines-smaller
lines-smaller c = (line_cut_off c.lines.rest.now c.in-Some.line.now c.in-Some.others.now c.in-Some.ensures).1

pub lines-preserved : goal.lines-preserved
lines-preserved c =
    let cut = line_cut_off c.lines.rest.now c.in-Some.line.now c.in-Some.others.now c.in-Some.ensures in
    let others = lines_of c.in-Some.others.now in record {
      body = ap (λ t. body_rest t (fields_of others)) c.with_line-told.ensures ∙ body_line c.lines.told c.in-Some.line.now others ∙ ap (λ lines. body_rest c.lines.told (fields_of lines)) (sym cut.0) ∙ c.lines.invariant.body;
      expects = ap (λ t. expects_rest t (fields_of others)) c.with_line-told.ensures ∙ expects_line c.lines.told c.in-Some.line.now others ∙ ap (λ lines. expects_rest c.lines.told (fields_of lines)) (sym cut.0) ∙ c.lines.invariant.expects;
      last = ap (λ t. last_rest t (fields_of others)) c.with_line-told.ensures ∙ last_line c.lines.told c.in-Some.line.now others ∙ ap (λ lines. last_rest c.lines.told (fields_of lines)) (sym cut.0) ∙ c.lines.invariant.last;
    }

pub returns-in-None-clause-body : goal.returns-in-None-clause-body
returns-in-None-clause-body c =
    ap (λ b. b.body) c.behind_of.ensures ∙ sym (ap (λ lines. body_rest c.lines.told (fields_of lines)) (no_line_cut_off c.lines.rest.now c.in-None.ensures)) ∙ c.lines.invariant.body

pub returns-in-None-clause-last : goal.returns-in-None-clause-last
returns-in-None-clause-last c =
    ap (λ b. b.last) c.behind_of.ensures ∙ sym (or_false c.lines.told.last) ∙ sym (ap (λ lines. last_rest c.lines.told (fields_of lines)) (no_line_cut_off c.lines.rest.now c.in-None.ensures)) ∙ c.lines.invariant.last

pub returns-in-None-clause-expects : goal.returns-in-None-clause-expects
returns-in-None-clause-expects c =
    ap (λ b. b.expects) c.behind_of.ensures ∙ ap (λ b. b && not c.args.last) (sym (or_false c.lines.told.expects) ∙ sym (ap (λ lines. expects_rest c.lines.told (fields_of lines)) (no_line_cut_off c.lines.rest.now c.in-None.ensures)) ∙ c.lines.invariant.expects)
