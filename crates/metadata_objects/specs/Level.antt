-- HostMetadata, PathMetadata, PathMatch and PatternMatch (RFC 8006, sections 4.1.3 to 4.1.6).
use Rattle.std.specs.Prelude.{ℕ, ◌+◌, zero, suc, false, List, [], codes, length, None, Some, Ok, Err, nat_le, if◌then◌else◌, ◌∷◌}
use Rattle.std.specs.declared.option.Option.{Option}
use Rattle.serde_json.specs.Data.{Data}
use Rattle.json_read.specs.Field.{◌>>=◌, looked_up, needed, items_of}
use Rattle.json_read.specs.Path.{child_of}
use Rattle.pattern_match.specs.Matching.{Compiled, compiled}
use Rattle.metadata_objects.specs.Generic.{generics_of}
use Rattle.metadata_objects.specs.Reading.{Reading, counted, no_link, needed_text, in_range, field, flag_or, all_of}
use Rattle.metadata_objects.specs.LevelData.{LevelData, level_data, branches_of}
use Rattle.metadata_objects.specs.declared.host.TheConstants.{NESTING_MAX}
use Rattle.pattern_match.specs.declared.pattern.TheConstants.{MAX_PATTERN_LEN}
use Rattle.metadata_objects.specs.declared.fault.MetaFault.TheVariants as meta_fault
use Rattle.metadata_objects.specs.declared.generic.Generic.{Generic}

-- how a PathMatch at a place reads, after n objects
abbrev pub PathReading : Type 0
PathReading = List ℕ → ℕ → Data → Reading ((Compiled × LevelData) × ℕ)

-- ---- `metadata` and `paths` of a level: lists, and empty where they are absent

abbrev pub metadata_found : List ℕ → ℕ → Option Data → Reading (List Generic × ℕ)
metadata_found path n None = Ok ([], n)
metadata_found path n (Some list) = field (items_of path list) >>= λ items. generics_of path n items

unfoldable pub metadata_of : List ℕ → ℕ → Data → Reading (List Generic × ℕ)
metadata_of path n value = field (looked_up path (codes "metadata") value)
    >>= λ found. metadata_found (child_of path (codes "metadata")) n found

abbrev pub paths_found : PathReading → List ℕ → ℕ → Option Data → Reading (List (Compiled × LevelData) × ℕ)
paths_found read path n None = Ok ([], n)
paths_found read path n (Some list) = field (items_of path list) >>= λ items. all_of read path 0 n items

unfoldable pub paths_of : PathReading → List ℕ → ℕ → Data → Reading (List (Compiled × LevelData) × ℕ)
paths_of read path n value = field (looked_up path (codes "paths") value)
    >>= λ found. paths_found read (child_of path (codes "paths")) n found

-- a HostMetadata or PathMetadata whose PathMatch objects read so, and how many objects were counted with its own
unfoldable pub level_with : PathReading → List ℕ → ℕ → Data → Reading (LevelData × ℕ)
level_with read path n value = do
  plain ← no_link path value
  metadata ← metadata_of path n value
  paths ← paths_of read path metadata.1 value
  Ok (level_data metadata.0 (branches_of paths.0), paths.1)

-- the level that must stand at a property
unfoldable pub needed_level : PathReading → List ℕ → List ℕ → ℕ → Data → Reading (LevelData × ℕ)
needed_level read path name n value = field (needed path name value)
    >>= λ member. level_with read (child_of path name) n member

-- ---- PatternMatch and PathMatch

-- a pattern of at most 1,024 bytes
abbrev pub short_pattern : List ℕ → Option (List ℕ)
short_pattern text = if nat_le (length text) MAX_PATTERN_LEN then Some text else None

unfoldable pub pattern_of : List ℕ → Data → Reading Compiled
pattern_of path value = do
  text ← needed_text path (codes "pattern") value
  short ← in_range (child_of path (codes "pattern")) (short_pattern text)
  case_sensitive ← flag_or path (codes "case-sensitive") false value
  Ok (compiled short case_sensitive)

-- the pattern that must stand at a property
unfoldable pub needed_pattern : List ℕ → List ℕ → Data → Reading Compiled
needed_pattern path name value = field (needed path name value) >>= λ member. pattern_of (child_of path name) member

-- a PathMatch, with those below its level read so
unfoldable pub path_match_with : PathReading → PathReading
path_match_with read path n value = do
  m ← counted n
  plain ← no_link path value
  pattern ← needed_pattern path (codes "path-pattern") value
  level ← needed_level read path (codes "path-metadata") m value
  Ok ((pattern, level.0), level.1)

-- a PathMatch at which so many more may nest, itself counted; one too many is too deep, before anything else of it
unfoldable pub path_match_of : ℕ → PathReading
path_match_of zero path n value = counted n >>= λ m. Err (meta_fault.TooDeep (NESTING_MAX + 1))
path_match_of (suc left) path n value = path_match_with (path_match_of left) path n value

-- the properties of a HostMetadata and a PathMetadata that count
abbrev pub level_names : List (List ℕ)
level_names = codes "href" ∷ codes "metadata" ∷ codes "paths" ∷ []

-- the properties of a PathMatch that count
abbrev pub path_match_names : List (List ℕ)
path_match_names = codes "href" ∷ codes "path-pattern" ∷ codes "path-metadata" ∷ []

-- the properties of a PatternMatch that count
abbrev pub pattern_names : List (List ℕ)
pattern_names = codes "pattern" ∷ codes "case-sensitive" ∷ []
