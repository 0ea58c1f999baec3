use Rattle.std.proofs.Common.{false, sym, ap, ◌∙◌, option_and_then}
use Rattle.serde_json.specs.Find.{as_u64}
use Rattle.serde_json.specs.Read.{number_from}
use Rattle.json_read.specs.Borrowed.{number_in}
use Rattle.json_read.proofs.BorrowedData.{minus_is_not_whole, whole_is}
use Rattle.json_read.proofs.borrowed.whole_number.Goals as goal

pub returns-then-has_minus : goal.returns-then-has_minus
returns-then-has_minus c =
    minus_is_not_whole c.as_bytes-bytes.result.now (sym c.if-has_minus.ensures.value) ∙ ap (λ s. as_u64 (number_in s)) c.as_bytes-bytes.ensures.value

pub returns-else-has_minus : goal.returns-else-has_minus
returns-else-has_minus c =
    whole_is c.as_bytes-bytes.result.now _ (sym c.if-has_minus.ensures.value) (c.whole_unsigned_number.ensures ∙ ap (λ p. option_and_then as_u64 (number_from false p)) c.scan.ensures.parts)
    ∙ ap (λ s. as_u64 (number_in s)) c.as_bytes-bytes.ensures.value
