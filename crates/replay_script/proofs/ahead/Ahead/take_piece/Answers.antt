use Rattle.std.proofs.Common.{length, refl, ap, arith, length-append}
use Rattle.replay_script.proofs.AheadLemmas.{place_within, takes_line, takes_long, takes_more, stays_line, stays_open}
use Rattle.replay_script.proofs.ahead.Ahead.take_piece.Goals as goal

pub skip-requires : goal.skip-requires
skip-requires c = place_within c.args.self.now.ahead c.window-window.result.now _ c.in-Some.place c.window-window.ensures c.in-Some.ensures

pub returns-in-Ok : goal.returns-in-Ok
returns-in-Ok c = takes_line _ _ _ _ c.window-window.result.now _ c.in-Some.place c.window-window.ensures c.in-Some.ensures c.skip.ensures c.in-Ok.ensures.items (omega (arith, c.args.line.now.ok.0))

pub returns-in-Err : goal.returns-in-Err
returns-in-Err c = (refl, stays_line _ _ c.window-window.result.now _ c.in-Some.place c.window-window.ensures c.in-Some.ensures (omega (arith, c.args.line.now.ok.0)))

pub returns-then-len-count-eq-LINE_LIMIT : goal.returns-then-len-count-eq-LINE_LIMIT
returns-then-len-count-eq-LINE_LIMIT c = takes_long _ _ c.args.line.now.items c.window-window.result.now _ c.window-window.ensures c.in-None.ensures c.skip-then-len-count-eq-LINE_LIMIT.ensures (omega (arith, c.args.line.now.ok.0))

pub returns-in-Ok-extend_from_slice : goal.returns-in-Ok-extend_from_slice
returns-in-Ok-extend_from_slice c = takes_more _ _ _ _ c.window-window.result.now _ c.window-window.ensures c.in-None.ensures c.skip-in-Ok-extend_from_slice.ensures c.in-Ok-extend_from_slice.ensures.items
    (omega (arith, c.args.line.now.ok.0)) (omega (arith, c.args.line.now.ok.0)) c.requires.some
    (λ long. omega (arith, c.args.line.now.ok.0, ap length c.in-Ok-extend_from_slice.ensures.items, length-append c.args.line.now.items c.window-window.result.now, long, c.if-len-count-eq-LINE_LIMIT.false))

pub returns-in-Err-extend_from_slice : goal.returns-in-Err-extend_from_slice
returns-in-Err-extend_from_slice c =
    (refl, stays_open _ c.args.line.now.items c.window-window.result.now _ c.window-window.ensures c.in-None.ensures (omega (arith, c.args.line.now.ok.0)) (λ long. c.if-len-count-eq-LINE_LIMIT.false (omega (arith, c.args.line.now.ok.0, long))))
