use Rattle.std.proofs.Common.{sym, ◌∙◌, subst, length-append}
use Rattle.replay_script.specs.Ahead.{StaysShort}
use Rattle.replay_script.proofs.AheadLemmas.{moves_read, moves_on, moves_on-nil, plain_on, moves_long, plain_both}
use Rattle.replay_script.proofs.ahead.Ahead.next_line.Goals as goal

pub returns-in-Line-clause-line : goal.returns-in-Line-clause-line
returns-in-Line-clause-line g c =
    let r = c.in-Some.ensures.refilled.0 in
    let m = moves_read _ _ _ _ _ _ _ _ c.pieces.invariant.moves r.1 r.2 in
    let p = c.in-Line.ensures in
    (moves_on _ _ _ _ _ _ _ _ _ m p.0.1, plain_on _ _ _ _ _ _ c.pieces.invariant.plain p.0.1, p.1)

pub returns-in-TooLong-clause-line : goal.returns-in-TooLong-clause-line
returns-in-TooLong-clause-line g c =
    let r = c.in-Some.ensures.refilled.0 in
    let m = moves_read _ _ _ _ _ _ _ _ c.pieces.invariant.moves r.1 r.2 in
    let p = c.in-TooLong.ensures in
    (_, moves_long _ _ _ _ _ _ p.0 m p.1, plain_both c.pieces.line.items p.0 c.pieces.invariant.plain p.2, length-append c.pieces.line.items p.0 ∙ p.3)

pub returns-in-Memory-clause-line : goal.returns-in-Memory-clause-line
returns-in-Memory-clause-line g c =
    let r = c.in-Some.ensures.refilled.0 in
    let p = c.in-Memory.ensures in
    let m = moves_read _ _ _ _ _ _ _ _ c.pieces.invariant.moves r.1 (p.0 ∙ r.2) in
    (_, m, c.pieces.invariant.plain, subst (StaysShort _) (sym p.0) p.1)

pub pieces-preserved : goal.pieces-preserved
pieces-preserved g c =
    let r = c.in-Some.ensures.refilled.0 in
    let m = moves_read _ _ _ _ _ _ _ _ c.pieces.invariant.moves r.1 r.2 in
    let p = c.in-More.ensures in
    record {
      moves = moves_on-nil _ _ _ _ _ _ _ _ m p.0.1;
      plain = plain_on _ _ _ _ _ _ c.pieces.invariant.plain p.0.1;
      short = p.2;
      answered = c.in-Some.ensures.cause.answered (λ e. cc) ∙ c.pieces.invariant.answered;
    }
