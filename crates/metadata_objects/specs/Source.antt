-- The value of MI.SourceMetadata (RFC 8006, sections 4.2.1 and 4.2.1.1). What does not read is not understood.
use Rattle.std.specs.Prelude.{ℕ, List, [], codes, length, None, Some, nat_le, if◌then◌else◌}
use Rattle.std.specs.List.{sum_by}
use Rattle.std.specs.Option.{option_and_then, is_some}
use Rattle.std.specs.Result.{result_ok}
use Rattle.std.specs.declared.option.Option.{Option}
use Rattle.serde_json.specs.Data.{Data}
use Rattle.serde_json.specs.Find.{get, as_str, as_array, as_object}
use Rattle.targets.specs.Endpoint.{endpoint_of}
use Rattle.targets.specs.declared.endpoint.Endpoint.{Endpoint}
use Rattle.cdni_base.specs.declared.source_item.SourceItem.{SourceItem}
use Rattle.metadata_objects.specs.Items.{each_of}
use Rattle.metadata_objects.specs.declared.source.TheConstants.{ENDPOINTS_MAX}

-- an endpoint (RFC 8006, section 4.3.3)
unfoldable pub endpoint_in : Data → Option Endpoint
endpoint_in value = option_and_then (λ text. result_ok (endpoint_of text)) (as_str value)

abbrev pub source_from : Option (List ℕ) → Option (List Endpoint) → Option SourceItem
source_from None endpoints = None
source_from (Some protocol) None = None
source_from (Some protocol) (Some endpoints) = Some (record { protocol = protocol; endpoints = endpoints })

-- a source: a protocol and endpoints; one that asks for authentication is not understood
unfoldable pub source_in : Data → Option SourceItem
source_in value = if is_some (get (codes "acquisition-auth") value) then None
    else source_from (option_and_then as_str (get (codes "protocol") value)) (option_and_then (each_of endpoint_in)
    (option_and_then as_array (get (codes "endpoints") value)))

-- how many endpoints all sources have together
abbrev pub endpoint_count : List SourceItem → ℕ
endpoint_count sources = sum_by (λ source. length source.endpoints) sources

-- at most 16 endpoints together
abbrev pub few_sources : List SourceItem → Option (List SourceItem)
few_sources sources = if nat_le (endpoint_count sources) ENDPOINTS_MAX then Some sources else None

abbrev pub listed_sources : Option Data → Option (List SourceItem)
listed_sources None = Some []
listed_sources (Some list) = option_and_then few_sources (option_and_then (each_of source_in) (as_array list))

-- the sources of an object; there may be none
unfoldable pub sources_in : Data → Option (List SourceItem)
sources_in value = option_and_then (λ members. listed_sources (get (codes "sources") value)) (as_object value)
