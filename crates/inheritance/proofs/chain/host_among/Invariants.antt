use Rattle.std.proofs.Common.{◌≡◌, drop}
use Rattle.metadata_objects.specs.LevelData.{hosts_view}
use Rattle.inheritance.specs.HostTable.{site_among}
use Rattle.inheritance.proofs.chain.host_among.Given as goal

abbrev pub invariant-places : goal.invariant-places
invariant-places l = site_among (hosts_view l.hosts) l.target (drop l.place-index l.places) ≡ site_among (hosts_view l.hosts) l.target l.places
