use Rattle.std.proofs.Common.{◌∙◌, sym}
use Rattle.std.specs.Option.{option_map}
use Rattle.log_audit.proofs.ValueLemmas.{goes_done, none_not}
use Rattle.log_audit.proofs.record.is_record.Goals as goal

pub returns : goal.returns
returns c = none_not (λ bytes. bytes.now) c.is_none.result c.fields.left (sym c.is_none.ensures) ∙ goes_done c.args.fields.now c.fields.field-index _ (option_map (λ bytes. bytes.now) c.fields.left) _ c.fields-test.false c.fields.invariant
