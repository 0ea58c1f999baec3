use Rattle.std.proofs.Common.{◌≡◌, drop}
use Rattle.std.specs.List.{find}
use Rattle.metadata_objects.specs.LevelData.{hosts_view}
use Rattle.inheritance.specs.Chain.{matches_target}
use Rattle.inheritance.proofs.chain.first_host.Given as goal

abbrev pub invariant-hosts : goal.invariant-hosts
invariant-hosts l = find (matches_target l.target) (hosts_view (drop l.host-index l.hosts)) ≡ find (matches_target l.target) (hosts_view l.hosts)
