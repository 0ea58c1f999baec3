use Rattle.std.proofs.Common.{inl, sym, ap, ◌∙◌, arith}
use Rattle.std.specs.List.{list_any}
use Rattle.cdni_base.specs.Key.{same_key}
use Rattle.metadata_links.proofs.States.{is_loop, not_refused, is_one_too_many}
use Rattle.metadata_links.proofs.gathering.Gathering.refuse.Goals as goal

pub returns-then-stands_in-clause-refused : goal.returns-then-stands_in-clause-refused
returns-then-stands_in-clause-refused c =
    rw (← c.self.view_is) (inl (is_loop c.self.inside.opened.items c.self.inside.texts.items c.self.inside.resources c.self.inside.size c.args.link.now c.in_ok-key.key _ c.in_ok-key.ensures
    (ap (list_any (λ d. same_key d.key c.in_ok-key.key)) (sym c.deref.ensures.value) ∙ sym c.stands_in.ensures ∙ c.if-stands_in.true) c.in_ok-url_text.ensures))

pub returns-then-len-ge-DOCUMENTS_MAX-clause-refused : goal.returns-then-len-ge-DOCUMENTS_MAX-clause-refused
returns-then-len-ge-DOCUMENTS_MAX-clause-refused c =
    rw (← c.self.view_is) (inl (is_one_too_many c.self.inside.opened.items c.self.inside.texts.items c.self.inside.resources c.self.inside.size c.args.link.now c.in_ok-key.key c.in_ok-key.ensures
    (ap (list_any (λ d. same_key d.key c.in_ok-key.key)) (sym c.deref.ensures.value) ∙ sym c.stands_in.ensures ∙ c.if-stands_in.false) (omega (arith, c.len.ensures, c.if-len-ge-DOCUMENTS_MAX.true))))

pub returns-clause-refused : goal.returns-clause-refused
returns-clause-refused c =
    rw (← c.self.view_is) (not_refused c.self.inside.opened.items c.self.inside.texts.items c.self.inside.resources c.self.inside.size c.args.link.now c.in_ok-key.key c.in_ok-key.ensures
    (ap (list_any (λ d. same_key d.key c.in_ok-key.key)) (sym c.deref.ensures.value) ∙ sym c.stands_in.ensures ∙ c.if-stands_in.false) (omega (arith, c.len.ensures, c.if-len-ge-DOCUMENTS_MAX.false)))
