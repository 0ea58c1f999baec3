use Rattle.std.proofs.Common.{List, subst, ap, sym, ◌∙◌, arith}
use Rattle.cdni_log.specs.declared.field.Field.{Field}
use Rattle.log_audit.specs.Lines.{IsBody}
use Rattle.hex.specs.Hex.{encode_lower}
use Rattle.sha2.specs.Sha256.{sha256}
use Rattle.log_audit.proofs.AuditLemmas.{fault_is}
use Rattle.log_audit.proofs.HeadLemmas.{body_long, head_shorter}
use Rattle.log_audit.proofs.PartLemmas.{file_is, hashed_is}
use Rattle.log_audit.proofs.check.checked.Goals as goal

pub read_body-requires : goal.read_body-requires
read_body-requires c = omega (arith, head_shorter _ _ _ c.in_ok-head.ensures.head)

pub slice_bounds-check_hash-count : goal.slice_bounds-check_hash-count
slice_bounds-check_hash-count c = omega (arith, head_shorter _ _ _ c.in_ok-head.ensures.head, body_long _ _ _ _ c.in_ok-body.ensures.body)

pub returns-in-Err-clause-fault : goal.returns-in-Err-clause-fault
returns-in-Err-clause-fault c =
    let body = subst (λ (fields : List Field). IsBody fields c.in_ok-head.head.rest.now c.in_ok-body.body.records c.in_ok-body.body.hash.now) c.as_slice.ensures c.in_ok-body.ensures.body in
    let file = file_is c.args.bytes.now c.in_ok-head.head.rest.now c.in_ok-head.head.fields c.in_ok-body.body.records c.in_ok-body.body.hash.now c.in_ok-head.ensures.head body in
    let hashed = hashed_is c.args.bytes.now file.0 _ file.1 file.4 c.in_ok-body.ensures.body.form in
    fault_is c.args.bytes.now _ _ file.0 c.in-Err.fault (omega arith) file.1 file.4 (ap (λ t. encode_lower (sha256 t)) hashed) c.in-Err.ensures.other

pub returns-in-Ok-clause-read : goal.returns-in-Ok-clause-read
returns-in-Ok-clause-read c =
    let body = subst (λ (fields : List Field). IsBody fields c.in_ok-head.head.rest.now c.in_ok-body.body.records c.in_ok-body.body.hash.now) c.as_slice.ensures c.in_ok-body.ensures.body in
    let file = file_is c.args.bytes.now c.in_ok-head.head.rest.now c.in_ok-head.head.fields c.in_ok-body.body.records c.in_ok-body.body.hash.now c.in_ok-head.ensures.head body in
    let hashed = hashed_is c.args.bytes.now file.0 _ file.1 file.4 c.in_ok-body.ensures.body.form in
    (omega arith, file.0, file.1, sym file.4 ∙ (c.in-Ok.ensures.same ∙ ap (λ t. encode_lower (sha256 t)) hashed), (c.told_of.ensures.fields ∙ file.2, c.told_of.ensures.records ∙ file.3))
