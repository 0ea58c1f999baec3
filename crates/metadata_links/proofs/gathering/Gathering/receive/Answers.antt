use Rattle.std.proofs.Common.{inl, sym, ap, ◌∙◌, arith, Ok, length}
use Rattle.std.proofs.lemmas.Result.{err_from_is_err_and}
use Rattle.metadata_links.proofs.States.{too_long, is_received, not_received, one_key_more}
use Rattle.metadata_links.proofs.gathering.Gathering.receive.Goals as goal

pub returns-then-size-gt-TEXTS_MAX-clause-received : goal.returns-then-size-gt-TEXTS_MAX-clause-received
returns-then-size-gt-TEXTS_MAX-clause-received c = inl (too_long c.args.self.now c.args.link.now c.args.text c.bytes.result.now c.self.inside.size c.bytes.ensures (ap (λ s. s.size) c.self.view_is) c.if-size-gt-TEXTS_MAX.true)

pub returns-in_err-document-clause-received : goal.returns-in_err-document-clause-received
returns-in_err-document-clause-received c =
    let p = err_from_is_err_and c.from_residual.result c.from_residual.ensures.1 in
    rw (p.1, p.2) (not_received c.args.self.now c.args.link.now c.args.text c.bytes.result.now c.self.inside.size c.bytes.ensures (ap (λ s. s.size) c.self.view_is) c.args.self.now _ (omega (arith, c.if-size-gt-TEXTS_MAX.false)) c.in_err-document.ensures.opened)

pub returns-clause-received : goal.returns-clause-received
returns-clause-received c = is_received c.args.self.now c.args.link.now c.args.text c.bytes.result.now c.self.inside.size c.bytes.ensures (ap (λ s. s.size) c.self.view_is) c.in_ok-document.document (omega (arith, c.if-size-gt-TEXTS_MAX.false)) c.in_ok-document.ensures.opened ∙ ap Ok (sym c.in_ok-add.ensures)

pub returns-clause-one_more : goal.returns-clause-one_more
returns-clause-one_more c = ap (λ s. length s.resources) c.in_ok-add.ensures ∙ one_key_more c.args.self.now _ _ _ _
