use Rattle.std.proofs.Common.{◌≡◌, ℕ, List, take}
use Rattle.metadata_objects.specs.LevelData.{hosts_view}
use Rattle.inheritance.specs.HostTable.{places_in, places_of}
use Rattle.inheritance.proofs.host_table.HostTable.of.Given as goal

abbrev pub invariant-hosts : goal.invariant-hosts
invariant-hosts l = (host : List ℕ) → places_in l.table host ≡ places_of (hosts_view (take l.place l.hosts)) host
