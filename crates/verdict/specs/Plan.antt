-- From where the content of a delivery can be had (RFC 8006, section 4.2.1).
use Rattle.std.specs.Prelude.{Bool, List, [], codes, if◌then◌else◌}
use Rattle.std.specs.List.{flat_map}
use Rattle.std.specs.Option.{option_map_or}
use Rattle.std.specs.Str.{str_eq_ignore_ascii_case}
use Rattle.targets.specs.declared.endpoint.Endpoint.{Endpoint}
use Rattle.cdni_base.specs.declared.source_item.SourceItem.{SourceItem}
use Rattle.metadata_objects.specs.declared.generic.Generic.{Generic}
use Rattle.inheritance.specs.Held.{sources_of}

-- the source delivers by HTTP/1.1
abbrev pub speaks_http : SourceItem → Bool
speaks_http source = str_eq_ignore_ascii_case source.protocol (codes "http/1.1")

-- the endpoints of all sources that deliver by HTTP/1.1, in order
unfoldable pub plan_from : List SourceItem → List Endpoint
plan_from sources = flat_map (λ source. if speaks_http source then source.endpoints else []) sources

-- those of the effective sources
abbrev pub plan_of : List Generic → List Endpoint
plan_of objects = option_map_or plan_from (sources_of objects) []
