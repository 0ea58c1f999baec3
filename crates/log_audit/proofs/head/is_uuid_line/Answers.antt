use Rattle.std.proofs.Common.{◌++◌, ◌∷◌, [], None, Some, sym, ◌∙◌, codes}
use Rattle.cdni_log.specs.Line.{directive, line_end}
use Rattle.log_audit.specs.Lines.{is_urn}
use Rattle.log_audit.proofs.FrameLemmas.{frame_test}
use Rattle.log_audit.proofs.head.is_uuid_line.Goals as goal

pub returns-in-Some : goal.returns-in-Some
unfolding directive
returns-in-Some c = c.is_urn.ensures ∙ sym (frame_test is_urn (codes "#UUID:" ++ 9 ∷ []) line_end c.args.line.now (Some c.in-Some.value.now) c.in-Some.ensures)

pub returns-in-None : goal.returns-in-None
unfolding directive
returns-in-None c = sym (frame_test is_urn (codes "#UUID:" ++ 9 ∷ []) line_end c.args.line.now None c.in-None.ensures)
