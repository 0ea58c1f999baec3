use Rattle.std.proofs.Common.{◌≡◌, ◌≤◌, ◌*◌, take}
use Rattle.log_audit.specs.Totals.{is_cached, is_entity, is_total, ones_below, sum_below}
use Rattle.log_audit.proofs.totals.sums_of.Given as goal

abbrev pub invariant-records : goal.invariant-records
invariant-records l = record {
  total_fits : l.total ≤ l.record-index * 18446744073709551615;
  entity_fits : l.entity ≤ l.record-index * 18446744073709551615;
  cached_fits : l.cached ≤ l.record-index;
  total : l.total ≡ sum_below is_total l.fields (take l.record-index l.records);
  entity : l.entity ≡ sum_below is_entity l.fields (take l.record-index l.records);
  cached : l.cached ≡ ones_below is_cached l.fields (take l.record-index l.records);
}
