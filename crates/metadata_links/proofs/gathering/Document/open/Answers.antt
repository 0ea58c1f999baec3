use Rattle.std.proofs.Common.{inl, sym, ◌∙◌}
use Rattle.metadata_links.proofs.States.{opens, opens_none}
use Rattle.metadata_links.proofs.gathering.Document.open.Goals as goal

pub returns-in-Err-NotJson-clause-opened : goal.returns-in-Err-NotJson-clause-opened
returns-in-Err-NotJson-clause-opened c =
    let h = rw c.in-Err-NotJson.field-0-is at c.in-Err-NotJson.ensures in
    inl (opens_none c.args.link.now c.args.text.now c.bytes.result.now h c.bytes.ensures)

pub returns-in-Ok-list_document-clause-opened : goal.returns-in-Ok-list_document-clause-opened
returns-in-Ok-list_document-clause-opened c =
    opens c.args.link.now c.args.text.now c.bytes.result.now _ c.in_ok-key.key _ _ c.in-Ok.ensures c.bytes.ensures (c.deref.ensures.value ∙ c.in_ok-base.ensures) c.in_ok-key.ensures c.in-Ok-list_document.ensures

pub returns-in-Err-Bad-clause-opened : goal.returns-in-Err-Bad-clause-opened
returns-in-Err-Bad-clause-opened c =
    let h = rw c.in-Err-Bad.field-0-is at c.in-Err-Bad.ensures in
    opens c.args.link.now c.args.text.now c.bytes.result.now _ c.in_ok-key.key _ _ c.in-Ok.ensures c.bytes.ensures (c.deref.ensures.value ∙ c.in_ok-base.ensures) c.in_ok-key.ensures h
