use Rattle.std.proofs.Common.{sym, ◌∙◌}
use Rattle.upstream_http.proofs.AnswerLemmas.{moves_none, ends_framed, settles}
use Rattle.upstream_http.proofs.answer.read_rest.Goals as goal

pub returns-then-not-is_wanted-clause-bytes : goal.returns-then-not-is_wanted-clause-bytes
returns-then-not-is_wanted-clause-bytes g c =
    (c.args.inbox.now, moves_none _ c.args.inbox.now, (sym c.is_wanted.ensures ∙ c.if-not-is_wanted.true, c.status.ensures), tt)

pub returns-in-Ok-clause-bytes : goal.returns-in-Ok-clause-bytes
returns-in-Ok-clause-bytes g c =
    let becomes = rw (c.status-in-Ok.ensures, c.in-Ok.ensures) at c.outcome_of.ensures in
    ends_framed c.args.limit c.args.so_far c.args.head.now c.framing_of.result _ _ c.args.inbox.now _ c.read_framed-read.result c.outcome_of.result
    c.framing_of.ensures (sym c.is_wanted.ensures ∙ c.if-not-is_wanted.false) c.requires c.read_framed-read.ensures.bytes becomes

pub returns-in-Ok-clause-found : goal.returns-in-Ok-clause-found
returns-in-Ok-clause-found g c =
    let becomes = rw (c.status-in-Ok.ensures, c.in-Ok.ensures) at c.outcome_of.ensures in
    settles c.args.limit c.args.so_far c.args.head.now c.framing_of.result _ _ c.args.inbox.now _ c.read_framed-read.result c.outcome_of.result
    c.framing_of.ensures (sym c.is_wanted.ensures ∙ c.if-not-is_wanted.false) c.requires c.read_framed-read.ensures.bytes c.read_framed-read.ensures.found becomes

pub returns-in-Err-clause-bytes : goal.returns-in-Err-clause-bytes
returns-in-Err-clause-bytes g c = (c.args.inbox.now, moves_none _ c.args.inbox.now, tt, tt)
