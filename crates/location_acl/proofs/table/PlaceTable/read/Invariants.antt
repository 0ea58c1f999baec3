use Rattle.std.proofs.Common.{◌≡◌, ◌+◌, ◌≤◌, length}
use Rattle.std.specs.HashMap.{get}
use Rattle.location_acl.specs.Table.{same_key, IsIndexed}
use Rattle.location_acl.proofs.LineLemmas.{ReadSoFar}
use Rattle.location_acl.proofs.table.PlaceTable.read.Given as goal

-- the lines so far were read, and are indexed
abbrev pub invariant-lines : goal.invariant-lines
invariant-lines l = record {
  read : ReadSoFar l.bytes l.rest l.index.lines.items;
  numbered : l.number ≡ length l.index.lines.items;
  counted : l.number + length l.rest ≤ length l.bytes;
  indexed : IsIndexed l.index.lines.items (get same_key l.index.firsts) l.index.lengths;
}

abbrev pub decreases-lines : goal.decreases-lines
decreases-lines l = length l.rest
