use Rattle.std.proofs.Common.{◌∙◌, refl}
use Rattle.log_audit.specs.declared.place.Place.TheVariants as place
use Rattle.log_audit.proofs.HeadLemmas.{bad_empty, bad_here, head_is, none_found}
use Rattle.log_audit.proofs.head.read_head.Goals as goal

pub returns-in_default-clause-bad : goal.returns-in_default-clause-bad
returns-in_default-clause-bad c = c.in_ok-text.ensures.rest.bad ∙ bad_empty 5 place.Fields c.in_ok-text.text.now c.in_default.ensures refl

pub returns-in-Some-2-clause-head : goal.returns-in-Some-2-clause-head
returns-in-Some-2-clause-head c =
    head_is c.args.text.now c.in_ok-text.text.now c.in-Some.line.now c.in-Some.rest.now c.in-Some-2.fields c.in_ok-fields.field-0 c.in_ok-text.ensures.rest c.in-Some.ensures c.in_ok-fields.ensures (cc (c.in-Some-2.is))

pub returns-in-None-clause-bad : goal.returns-in-None-clause-bad
returns-in-None-clause-bad c =
    c.in_ok-text.ensures.rest.bad ∙ bad_here 5 place.Fields c.in_ok-text.text.now c.in-Some.line.now c.in-Some.rest.now c.in-Some.ensures.0 (none_found c.in-Some.line.now c.in_ok-fields.field-0 c.in_ok-fields.ensures (cc (c.in-None.is)))
