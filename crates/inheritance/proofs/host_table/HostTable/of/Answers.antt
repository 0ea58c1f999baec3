use Rattle.std.proofs.Common.{take}
use Rattle.metadata_objects.specs.LevelData.{hosts_view}
use Rattle.inheritance.specs.HostTable.{places_in}
use Rattle.inheritance.proofs.HostLemmas.{places_more}
use Rattle.inheritance.proofs.host_table.HostTable.of.Goals as goal

pub hosts-preserved : goal.hosts-preserved
hosts-preserved c = λ name.
    let added = rw (← c.index-hosts-place.is) at c.in_ok-add.ensures name in
    places_more c.as_slice-hosts.result.now c.hosts.place c.index-hosts-place.result name (places_in c.add.new.self name) (places_in c.hosts.table name)
    c.hosts-test.true c.index-hosts-place.is added (c.hosts.invariant name)
