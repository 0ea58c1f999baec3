use Rattle.std.proofs.Common.{length, sym, ◌∙◌, ap, subst, arith}
use Rattle.std.proofs.lemmas.Bool.{eqb-true, eqb-false}
use Rattle.replay_script.specs.Reading.{Running, Ended}
use Rattle.replay_script.proofs.ScriptLemmas.{next_said-fits}
use Rattle.replay_script.proofs.ReadingLemmas.{turn_done, ended_memory, ended_unread, ended_done, ended_open, ended_long, ended_none}
use Rattle.replay_script.proofs.reading.Reading.next.Goals as goal

pub returns-then-is_empty-clause-answers : goal.returns-then-is_empty-clause-answers
returns-then-is_empty-clause-answers g c = λ before given running.
    let l = c.in-End.ensures.line in
    let r = subst (Running before (g.S.Source.left c.args.input.now) given) (sym c.self.view_is) running in
    ended_done _ _ _ _ r _ _ _ l.0 l.1 l.2 (sym (ap length c.line.ensures) ∙ eqb-true _ _ (sym c.is_empty.ensures ∙ c.if-is_empty.true)) l.3 l.4

pub returns-in-End-clause-answers : goal.returns-in-End-clause-answers
returns-in-End-clause-answers g c = λ before given running.
    let l = c.in-End.ensures.line in
    let r = subst (Running before (g.S.Source.left c.args.input.now) given) (sym c.self.view_is) running in
    rw c.stop.ensures (ended_open _ _ _ _ r _ _ _ l.0 l.1 (omega (arith, eqb-false _ _ (sym c.is_empty.ensures ∙ c.if-is_empty.false), ap length c.line.ensures)) l.3 l.4)

pub returns-in-TooLong-clause-answers : goal.returns-in-TooLong-clause-answers
returns-in-TooLong-clause-answers g c = λ before given running.
    let l = c.in-TooLong.ensures.line in
    let r = subst (Running before (g.S.Source.left c.args.input.now) given) (sym c.self.view_is) running in
    rw c.stop-in-TooLong.ensures (ended_long _ _ _ _ r _ _ _ l.1 l.2 l.3)

pub returns-in-Failed-clause-answers : goal.returns-in-Failed-clause-answers
returns-in-Failed-clause-answers g c = λ before given running.
    let l = c.in-Failed.ensures.line in
    let r = subst (Running before (g.S.Source.left c.args.input.now) given) (sym c.self.view_is) running in
    ended_unread _ _ _ _ r _ _ _ l.1 l.2 l.3 l.4

pub returns-in-Memory-clause-answers : goal.returns-in-Memory-clause-answers
returns-in-Memory-clause-answers g c = λ before given running.
    let l = c.in-Memory.ensures.line in
    let r = subst (Running before (g.S.Source.left c.args.input.now) given) (sym c.self.view_is) running in
    ended_memory _ _ _ _ r _ _ _ l.1

pub returns-in-NotALine-clause-answers : goal.returns-in-NotALine-clause-answers
returns-in-NotALine-clause-answers g c = λ before given running.
    let l = c.in-Line.ensures.line in
    let r = subst (Running before (g.S.Source.left c.args.input.now) given) (sym c.self.view_is) running in
    rw c.stop-in-NotALine.ensures (ended_none _ _ _ _ r _ _ _ l.0 l.1 (rw c.line-line.ensures at c.in-NotALine.ensures))

pub returns-in-Memory-answer_one-clause-answers : goal.returns-in-Memory-answer_one-clause-answers
returns-in-Memory-answer_one-clause-answers g c = λ before given running.
    let l = c.in-Line.ensures.line in
    let r = subst (Running before (g.S.Source.left c.args.input.now) given) (sym c.self.view_is) running in
    ended_memory _ _ _ _ r _ _ _ l.0

pub invariant_of-self-2 : goal.invariant_of-self-2
invariant_of-self-2 g c = let f = next_said-fits _ _ _ c.in-Answered.ensures.0 c.in-Answered.ensures.1 in (omega (arith, c.self.invariant.0), omega (arith, f))

pub returns-clause-answers : goal.returns-clause-answers
returns-clause-answers g c = λ before given running.
    let l = c.in-Line.ensures.line in
    let r = subst (Running before (g.S.Source.left c.args.input.now) given) (sym c.self.view_is) running in
    turn_done _ _ _ _ r _ _ _ _ _ _ l.0 l.1 c.in-Answered.ensures c.line-line.ensures _ (ap length c.line-line.ensures)

pub returns-clause-in_time : goal.returns-clause-in_time
returns-clause-in_time g c = let f = next_said-fits _ _ _ c.in-Answered.ensures.0 c.in-Answered.ensures.1 in omega (arith, f)

pub returns-clause-few : goal.returns-clause-few
returns-clause-few g c = let f = next_said-fits _ _ _ c.in-Answered.ensures.0 c.in-Answered.ensures.1 in omega (arith, f, c.self.invariant.0)
