use Rattle.std.proofs.Common.{Err, refl, sym, ap, ◌∙◌}
use Rattle.json_read.proofs.BorrowedData.{text_is, no_value}
use Rattle.json_read.proofs.borrowed.read_text.Goals as goal

pub returns-in-Err-Invalid : goal.returns-in-Err-Invalid
returns-in-Err-Invalid c = no_value c.args.text.now c.utf8.text (rw c.in-Ok.ensures.ok at (c.in-Err-Invalid.ensures.invalid (ap Err c.in-Err-Invalid.field-0-is)))

pub returns-then-is_some : goal.returns-then-is_some
returns-then-is_some c =
    text_is c.args.text.now _ _ _ c.next.result c.utf8.text (rw c.in-Ok.ensures.ok at c.in-Ok-read.ensures.ok) c.next.ensures.value ∙ rw (sym c.is_some.ensures ∙ c.if-is_some.true) refl

pub returns-then-not-fits : goal.returns-then-not-fits
returns-then-not-fits c =
    text_is c.args.text.now _ _ _ c.next.result c.utf8.text (rw c.in-Ok.ensures.ok at c.in-Ok-read.ensures.ok) c.next.ensures.value
    ∙ rw (sym c.is_some.ensures ∙ c.if-is_some.false, sym c.fits.ensures ∙ c.if-not-fits.true) refl

pub returns : goal.returns
returns c =
    text_is c.args.text.now _ _ _ c.next.result c.utf8.text (rw c.in-Ok.ensures.ok at c.in-Ok-read.ensures.ok) c.next.ensures.value
    ∙ rw (sym c.is_some.ensures ∙ c.if-is_some.false, sym c.fits.ensures ∙ c.if-not-fits.false) refl
