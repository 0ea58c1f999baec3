-- HostIndex and HostMatch (RFC 8006, sections 4.1.1 and 4.1.2).
use Rattle.std.specs.Prelude.{ℕ, ◌≤◌, List, [], codes, length, Ok, Err, nat_lt, if◌then◌else◌, ◌∷◌}
use Rattle.std.specs.List.{All}
use Rattle.std.specs.Option.{option_map_or}
use Rattle.std.specs.Result.{result_ok}
use Rattle.serde_json.specs.Data.{Data, Items}
use Rattle.targets.specs.Endpoint.{endpoint_of}
use Rattle.json_read.specs.Field.{◌>>=◌, needed, items_of}
use Rattle.json_read.specs.Path.{child_of}
use Rattle.json_read.specs.Text.{json_of}
use Rattle.metadata_objects.specs.Reading.{Reading, counted, no_link, needed_text, in_range, field, all_of}
use Rattle.metadata_objects.specs.Level.{needed_level, path_match_of}
use Rattle.metadata_objects.specs.Generic.{IsRead}
use Rattle.metadata_objects.specs.LevelData.{Index, Site, count_of, depth_at, EachAt}
use Rattle.metadata_objects.specs.declared.host.TheConstants.{DOCUMENT_MAX, NESTING_MAX}
use Rattle.metadata_objects.specs.declared.object.TheConstants.{OBJECTS_MAX}
use Rattle.metadata_objects.specs.declared.fault.MetaFault.TheVariants as meta_fault

unfoldable pub host_match_of : List ℕ → ℕ → Data → Reading (Site × ℕ)
host_match_of path n value = do
  m ← counted n
  plain ← no_link path value
  text ← needed_text path (codes "host") value
  host ← in_range (child_of path (codes "host")) (result_ok (endpoint_of text))
  level ← needed_level (path_match_of NESTING_MAX) path (codes "host-metadata") m value
  Ok (record { host = host; level = level.0 }, level.1)

abbrev pub hosts_of : List ℕ → ℕ → Items → Reading (Index × ℕ)
hosts_of path n items = all_of host_match_of path 0 n items

-- the HostIndex of a document
unfoldable pub host_index_of : Data → Reading Index
host_index_of value = do
  list ← field (needed [] (codes "hosts") value)
  items ← field (items_of (child_of [] (codes "hosts")) list)
  hosts ← hosts_of (child_of [] (codes "hosts")) 0 items
  Ok hosts.0

-- the HostIndex of a text of at most 8,388,608 bytes
unfoldable pub host_index_of_text : List ℕ → Reading Index
host_index_of_text text = if nat_lt DOCUMENT_MAX (length text) then Err (meta_fault.TooLong (length text))
    else option_map_or host_index_of (json_of text) (Err meta_fault.NotJson)

-- what a read index keeps: at most 10,000 objects, of which PathMatch objects nest at most 16 deep
pub record IsWithinLimits (index : Index) : Type 0 where
  pub objects : count_of index ≤ OBJECTS_MAX
  pub nesting : All (λ site. depth_at site.level ≤ NESTING_MAX) index
  pub each : All (λ site. EachAt IsRead site.level) index

-- the properties of a HostIndex that count
abbrev pub host_index_names : List (List ℕ)
host_index_names = codes "hosts" ∷ []

-- the properties of a HostMatch that count
abbrev pub host_match_names : List (List ℕ)
host_match_names = codes "href" ∷ codes "host" ∷ codes "host-metadata" ∷ []
