use Rattle.std.proofs.Common.{◌≡◌, drop, None, Some}
use Rattle.std.specs.Option.{option_map}
use Rattle.log_audit.specs.Lines.{parts_in}
use Rattle.log_audit.specs.Value.{goes_on}
use Rattle.log_audit.proofs.record.is_record.Given as goal

abbrev pub invariant-fields : goal.invariant-fields
invariant-fields l =
    goes_on (drop l.field-index l.fields) (option_map (λ bytes. bytes.now) l.url) (parts_in (option_map (λ bytes. bytes.now) l.left))
    ≡ goes_on l.fields None (parts_in (Some l.joined))
