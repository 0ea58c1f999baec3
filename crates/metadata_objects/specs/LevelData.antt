-- What a metadata tree is seen as: plain data, whatever memory its lists have taken.
use Rattle.std.specs.Prelude.{ℕ, ◌+◌, max, List, [], ◌∷◌, length, map}
use Rattle.std.specs.List.{All}
use Rattle.targets.specs.declared.endpoint.Endpoint.{Endpoint}
use Rattle.pattern_match.specs.Matching.{Compiled}
use Rattle.metadata_objects.specs.declared.generic.Generic.{Generic}
use Rattle.metadata_objects.specs.declared.host.HostIndex.{HostIndex}
use Rattle.metadata_objects.specs.declared.host.HostMatch.{HostMatch}
use Rattle.metadata_objects.specs.declared.level.Level.{Level, Level-F, fold-Level}
use Rattle.metadata_objects.specs.declared.level.PathMatch.{PathMatch, PathMatch-F, fold-PathMatch}

mutual
  -- a HostMetadata or PathMetadata (RFC 8006, sections 4.1.3 and 4.1.6): its objects, and the PathMatch objects below
  -- it
  pub data LevelData : Type 0 where
    level_data : List Generic → Branches → LevelData

  -- PathMatch objects (RFC 8006, section 4.1.4) in order: the pattern of each, and what stands below it
  pub data Branches : Type 0 where
    no_branches : Branches
    branch : Compiled → LevelData → Branches → Branches

-- a HostMatch (RFC 8006, section 4.1.2)
pub record Site : Type 0 where
  pub host : Endpoint
  pub level : LevelData

-- a HostIndex (RFC 8006, section 4.1.1)
abbrev pub Index : Type 0
Index = List Site

abbrev pub objects_in : LevelData → List Generic
objects_in (level_data objects below) = objects

abbrev pub branches_in : LevelData → Branches
branches_in (level_data objects below) = below

abbrev pub branches_of : List (Compiled × LevelData) → Branches
branches_of [] = no_branches
branches_of (path ∷ paths) = branch path.0 path.1 (branches_of paths)

-- ---- how large a tree is

-- how many objects a level has with those below it, where each PathMatch is one too
abbrev mutual
  pub count_at : LevelData → ℕ
  count_at (level_data objects below) = length objects + count_below below

  pub count_below : Branches → ℕ
  count_below no_branches = 0
  count_below (branch pattern inner others) = 1 + count_at inner + count_below others

-- how many PathMatch objects nest in each other at most
abbrev mutual
  pub depth_at : LevelData → ℕ
  depth_at (level_data objects below) = depth_below below

  pub depth_below : Branches → ℕ
  depth_below no_branches = 0
  depth_below (branch pattern inner others) = max (1 + depth_at inner) (depth_below others)

-- each object of a level and of those below it is so
abbrev mutual
  pub EachAt : (Generic → Type 0) → LevelData → Type 0
  EachAt IsSo (level_data objects below) = All IsSo objects × EachBelow IsSo below

  pub EachBelow : (Generic → Type 0) → Branches → Type 0
  EachBelow IsSo no_branches = Unit {0}
  EachBelow IsSo (branch pattern inner others) = EachAt IsSo inner × EachBelow IsSo others

-- how many objects an index has, each HostMatch one of them
abbrev pub count_of : Index → ℕ
count_of [] = 0
count_of (site ∷ sites) = 1 + count_at site.level + count_of sites

-- ---- how the code's objects are seen

-- one level, with what stands below it already seen as data
abbrev pub level_step : Level-F LevelData (Compiled × LevelData) → LevelData
level_step level = level_data level.metadata (branches_of level.paths.items)

abbrev pub path_step : PathMatch-F LevelData (Compiled × LevelData) → Compiled × LevelData
path_step path = (path.pattern, path.level)

abbrev pub level_view : Level → LevelData
level_view = fold-Level LevelData (Compiled × LevelData) level_step path_step

abbrev pub path_view : PathMatch → Compiled × LevelData
path_view = fold-PathMatch LevelData (Compiled × LevelData) level_step path_step

abbrev pub paths_view : List PathMatch → List (Compiled × LevelData)
paths_view paths = map path_view paths

abbrev pub host_view : HostMatch → Site
host_view host = record { host = host.host; level = level_view host.level }

abbrev pub hosts_view : List HostMatch → Index
hosts_view hosts = map host_view hosts

abbrev pub index_view : HostIndex → Index
index_view index = hosts_view index.hosts
