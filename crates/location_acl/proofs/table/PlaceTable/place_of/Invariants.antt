use Rattle.location_acl.proofs.TableLemmas.{AllShorter}
use Rattle.location_acl.proofs.table.PlaceTable.place_of.Given as goal

-- no longer block holds the address
abbrev pub invariant-lengths : goal.invariant-lengths
invariant-lengths l = AllShorter l.self-inside.index.lines.items l.ip l.length
