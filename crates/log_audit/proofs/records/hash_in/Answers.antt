use Rattle.std.proofs.Common.{◌++◌, ◌∷◌, [], None, sym, codes}
use Rattle.cdni_log.specs.Line.{directive, line_end}
use Rattle.log_audit.specs.LogFile.{is_hash}
use Rattle.log_audit.proofs.FrameLemmas.{frame_test}
use Rattle.log_audit.proofs.records.hash_in.Goals as goal

pub returns-in_default : goal.returns-in_default
unfolding directive
returns-in_default c = frame_test is_hash (codes "#SHA256-hash:" ++ 9 ∷ []) line_end c.args.line.now None c.in_default.ensures

pub returns-then-is_hash : goal.returns-then-is_hash
unfolding directive
returns-then-is_hash c = (c.in-Some.ensures, sym c.if-is_hash.ensures)
