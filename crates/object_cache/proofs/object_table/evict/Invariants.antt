use Rattle.std.proofs.Common.{◌≡◌, length}
use Rattle.object_cache.specs.ObjectTable.{evicted, total}
use Rattle.object_cache.proofs.object_table.evict.Given as goal

abbrev pub invariant-evict : goal.invariant-evict
invariant-evict l = record {
  sum : l.sum ≡ total l.row.items;
  stay : evicted l.most l.row.items ≡ evicted l.most l.initial.row.items;
  spare : l.row.spare ≡ l.initial.row.spare;
}

abbrev pub decreases-evict : goal.decreases-evict
decreases-evict l = length l.row.items
