use Rattle.std.proofs.Common.{ap, sym, ◌∙◌}
use Rattle.std.proofs.lemmas.Bool.{false≢true}
use Rattle.std.proofs.lemmas.Option.{none-some}
use Rattle.std.proofs.lemmas.Result.{IfOk-weaker}
use Rattle.cdni_log.specs.FieldList.{fields_of}
use Rattle.log_audit.specs.LogFile.{names_text}
use Rattle.log_audit.specs.Value.{is_unbroken}
use Rattle.log_audit.proofs.HeadLemmas.{fields_none, named_is, same_names, unknown_is}
use Rattle.log_audit.proofs.head.fields_in.Goals as goal

pub returns-in_default : goal.returns-in_default
returns-in_default c = fields_none c.args.line.now (λ fields printed plain read. c.in_default.ensures (names_text fields) printed)

pub returns-then-not-is_unbroken : goal.returns-then-not-is_unbroken
returns-then-not-is_unbroken c =
    fields_none c.args.line.now (λ fields printed plain read. false≢true (c.if-not-is_unbroken.ensures ∙ (ap is_unbroken (same_names c.args.line.now c.in-Some.names.now (names_text fields) c.in-Some.ensures printed) ∙ plain)))

pub returns-in-Err-Unknown : goal.returns-in-Err-Unknown
returns-in-Err-Unknown c =
    fields_none c.args.line.now (λ fields printed plain read. none-some fields (sym (unknown_is _ _ (cc (c.in-Err-Unknown.is, c.in-Err-Unknown.field-0-is)) c.in-Err-Unknown.ensures) ∙ (ap (fields_of 9) (same_names c.args.line.now c.in-Some.names.now (names_text fields) c.in-Some.ensures printed) ∙ read)))

pub returns-in-Ok : goal.returns-in-Ok
returns-in-Ok c =
    IfOk-weaker c.as_written.result _ _ (λ found e. named_is c.args.line.now c.in-Some.names.now c.in-Ok.fields found c.in-Some.ensures (sym c.if-not-is_unbroken.ensures) c.in-Ok.ensures e) c.as_written.ensures
