use Rattle.std.proofs.Common.{Some, sym, ◌∙◌}
use Rattle.log_audit.specs.Lines.{parts_in}
use Rattle.log_audit.proofs.FrameLemmas.{record_test}
use Rattle.log_audit.proofs.ValueLemmas.{record_is}
use Rattle.log_audit.proofs.record.record_in.Goals as goal

pub returns-then-is_record : goal.returns-then-is_record
returns-then-is_record c =
    (record_test c.args.fields.now c.args.line.now (Some c.in-Some.values.now) c.in-Some.ensures ∙ (sym (record_is c.args.fields.now (parts_in (Some c.in-Some.values.now))) ∙ sym c.if-is_record.ensures), c.in-Some.ensures)

pub returns-else-is_record : goal.returns-else-is_record
returns-else-is_record c =
    record_test c.args.fields.now c.args.line.now (Some c.in-Some.values.now) c.in-Some.ensures ∙ (sym (record_is c.args.fields.now (parts_in (Some c.in-Some.values.now))) ∙ sym c.if-is_record.ensures)
