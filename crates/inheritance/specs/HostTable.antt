-- Where the HostMatch objects of each host stand (RFC 8006, section 4.1.2).
use Rattle.std.specs.Prelude.{◌≡◌, ℕ, ◌+◌, bytes_eq, List, [], ◌∷◌, slice_get, None, Some, if◌then◌else◌}
use Rattle.std.specs.Option.{option_map_or, option_or}
use Rattle.std.specs.declared.option.Option.{Option}
use Rattle.indexmap.specs.IndexMap.{get}
use Rattle.targets.specs.declared.target.Target.{Target}
use Rattle.metadata_objects.specs.LevelData.{Site, Index}
use Rattle.inheritance.specs.Chain.{matches_port}
use Rattle.inheritance.specs.declared.host_table.HostTable.{HostTable}

-- the places of a host, as the table has them
abbrev pub places_in : HostTable → List ℕ → List ℕ
places_in table host = option_map_or (λ places. places.items) (get bytes_eq table.places host) []

-- the places of the HostMatch objects of a host, the first one of all counted from this number
abbrev pub places_from : ℕ → List ℕ → Index → List ℕ
places_from n host [] = []
places_from n host (site ∷ sites) =
    if bytes_eq site.host.host host then n ∷ places_from (n + 1) host sites else places_from (n + 1) host sites

-- the rising places of the HostMatch objects of a host
abbrev pub places_of : Index → List ℕ → List ℕ
places_of index host = places_from 0 host index

-- the table has for each host the rising places of its HostMatch objects
abbrev pub IsTableOf : HostTable → Index → Type 0
IsTableOf table index = (host : List ℕ) → places_in table host ≡ places_of index host

-- this HostMatch, where there is one and it has the target's port or none
abbrev pub site_with_port : Target → Option Site → Option Site
site_with_port target None = None
site_with_port target (Some site) = if matches_port site.host.port target.port then Some site else None

-- the first HostMatch of those at these places that has the target's port or none
abbrev pub site_among : Index → Target → List ℕ → Option Site
site_among index target [] = None
site_among index target (place ∷ places) =
    option_or (site_with_port target (slice_get index place)) (site_among index target places)
