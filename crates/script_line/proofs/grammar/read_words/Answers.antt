use Rattle.std.proofs.Common.{sym, ◌∙◌}
use Rattle.script_line.proofs.GrammarLemmas.{call_of_one, call_worded, line_calls}
use Rattle.script_line.proofs.grammar.read_words.Goals as goal

pub returns-in-Some : goal.returns-in-Some
returns-in-Some c =
    rw (line_calls c.args.line.now _ _ _ c.in_ok-moment.call.now c.in_ok-pass.pass c.in_ok-moment-2.moment c.in_ok-first.ensures (sym (rw c.as_slice.ensures at c.if-eq.ensures)) c.in_ok-pass.ensures.value c.in_ok-moment.ensures c.in_ok-moment-2.ensures
    ∙ call_worded c.in_ok-pass.pass c.in_ok-moment-2.moment c.in_ok-moment.call.now (c.in-Some.word.now, c.in-Some.rest.now) c.in-Some.ensures) c.read_worded.ensures

pub returns-in-None : goal.returns-in-None
returns-in-None c =
    rw (line_calls c.args.line.now _ _ _ c.in_ok-moment.call.now c.in_ok-pass.pass c.in_ok-moment-2.moment c.in_ok-first.ensures (sym (rw c.as_slice.ensures at c.if-eq.ensures)) c.in_ok-pass.ensures.value c.in_ok-moment.ensures c.in_ok-moment-2.ensures
    ∙ call_of_one c.in_ok-pass.pass c.in_ok-moment-2.moment c.in_ok-moment.call.now c.in-None.ensures) c.read_one.ensures
