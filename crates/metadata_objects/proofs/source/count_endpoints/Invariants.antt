use Rattle.std.proofs.Common.{◌≡◌, ◌≤◌, take}
use Rattle.metadata_objects.specs.Source.{endpoint_count}
use Rattle.metadata_objects.proofs.source.count_endpoints.Given as goal

abbrev pub invariant-sources : goal.invariant-sources
invariant-sources l = record { few : l.count ≤ 16; counted : l.count ≡ endpoint_count (take l.source-index l.source-items) }
