use Rattle.std.proofs.Common.{◌≡◌, drop}
use Rattle.std.specs.Option.{option_map}
use Rattle.log_audit.specs.Lines.{parts_in}
use Rattle.log_audit.specs.Totals.{is_cached, is_entity, is_total, last_below, value_in}
use Rattle.log_audit.proofs.totals.amounts_of.Given as goal

abbrev pub invariant-fields : goal.invariant-fields
invariant-fields l = record {
  total : last_below is_total l.amounts.total.now (drop l.field-index l.fields) (parts_in (option_map (λ bytes. bytes.now) l.left)) ≡ value_in is_total l.fields l.line;
  entity : last_below is_entity l.amounts.entity.now (drop l.field-index l.fields) (parts_in (option_map (λ bytes. bytes.now) l.left)) ≡ value_in is_entity l.fields l.line;
  cached : last_below is_cached l.amounts.cached.now (drop l.field-index l.fields) (parts_in (option_map (λ bytes. bytes.now) l.left)) ≡ value_in is_cached l.fields l.line;
}
