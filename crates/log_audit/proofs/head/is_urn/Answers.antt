use Rattle.std.proofs.Common.{◌∷◌, [], None, Some, sym, ◌∙◌, codes}
use Rattle.log_audit.specs.LogFile.{is_uuid}
use Rattle.log_audit.proofs.FrameLemmas.{frame_test}
use Rattle.log_audit.proofs.head.is_urn.Goals as goal

pub returns-in-Some : goal.returns-in-Some
returns-in-Some c = c.is_uuid.ensures ∙ sym (frame_test is_uuid (34 ∷ codes "urn:uuid:") (34 ∷ []) c.args.value.now (Some c.in-Some.text.now) c.in-Some.ensures)

pub returns-in-None : goal.returns-in-None
returns-in-None c = sym (frame_test is_uuid (34 ∷ codes "urn:uuid:") (34 ∷ []) c.args.value.now None c.in-None.ensures)
