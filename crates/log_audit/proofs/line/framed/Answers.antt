use Rattle.std.proofs.Common.{◌-◌, length, sym, ◌∙◌, arith}
use Rattle.std.proofs.lemmas.Bool.{false≢true}
use Rattle.std.proofs.lemmas.List.{take_rest}
use Rattle.std.proofs.lemmas.Slice.Eq.{bytes_eq-Decides}
use Rattle.log_audit.proofs.FrameLemmas.{frame_first, frame_last, framed_is}
use Rattle.log_audit.proofs.line.framed.Goals as goal

pub returns-then-not-is : goal.returns-then-not-is
returns-then-not-is c middle e = false≢true (c.if-not-is.ensures ∙ (bytes_eq-Decides _ _).1 (frame_first c.args.front.now middle c.args.back.now c.args.line.now e))

pub returns-then-not-is-2 : goal.returns-then-not-is-2
returns-then-not-is-2 c middle e =
    false≢true (c.if-not-is-2.ensures ∙ (bytes_eq-Decides _ _).1 (take_rest c.args.line.now (length c.args.line.now - length c.args.back.now) ∙ frame_last c.args.front.now middle c.args.back.now c.args.line.now e))

pub returns : goal.returns
returns c =
    framed_is c.args.front.now c.args.back.now c.args.line.now (omega arith) ((bytes_eq-Decides _ _).0 (sym c.if-not-is.ensures))
    (sym (take_rest c.args.line.now (length c.args.line.now - length c.args.back.now)) ∙ (bytes_eq-Decides _ _).0 (sym c.if-not-is-2.ensures))
