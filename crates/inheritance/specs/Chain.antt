-- Which arrays of metadata apply to a target (RFC 8006, sections 4.1.1 to 4.1.6).
use Rattle.std.specs.Prelude.{◌≡◌, ℕ, Bool, true, bytes_eq, List, [], ◌∷◌, None, Some, ◌==◌, ◌&&◌, if◌then◌else◌}
use Rattle.std.specs.List.{find}
use Rattle.std.specs.Option.{option_map}
use Rattle.std.specs.declared.option.Option.{Option}
use Rattle.targets.specs.declared.target.Target.{Target}
use Rattle.metadata_objects.specs.LevelData.{LevelData, level_data, Branches, no_branches, branch, Site, Index, objects_in, branches_in}
use Rattle.metadata_objects.specs.declared.generic.Generic.{Generic}
use Rattle.pattern_match.specs.Matching.{Compiled, is_match}
use Rattle.listing.specs.FirstMatch.{NoneHolds, IsFirst}

-- a port of the metadata is absent, or is the target's
abbrev pub matches_port : Option ℕ → ℕ → Bool
matches_port None port = true
matches_port (Some own) port = own == port

-- the host is that of the target, and so is the port
abbrev pub matches_target : Target → Site → Bool
matches_target target site = bytes_eq site.host.host target.host && matches_port site.host.port target.port

-- what stands below the first pattern that matches the path
abbrev pub first_below : List ℕ → Branches → Option LevelData
first_below path no_branches = None
first_below path (branch pattern inner others) = if is_match pattern path then Some inner else first_below path others

-- the array of a level, and those of the first PathMatch below it whose pattern matches the path, outermost first
unfoldable mutual
  pub arrays_at : List ℕ → LevelData → List (List Generic)
  arrays_at path (level_data objects below) = objects ∷ arrays_below path below

  pub arrays_below : List ℕ → Branches → List (List Generic)
  arrays_below path no_branches = []
  arrays_below path (branch pattern inner others) =
      if is_match pattern path then arrays_at path inner else arrays_below path others

-- the arrays of the first HostMatch that matches, outermost first; none where no HostMatch does
unfoldable pub chain : Index → Target → Option (List (List Generic))
chain index target = option_map (λ site. arrays_at target.path site.level) (find (matches_target target) index)

-- ---- the same as a relation

-- the PathMatch objects in order: the pattern of each, and what stands below it
abbrev pub paths_in : Branches → List (Compiled × LevelData)
paths_in no_branches = []
paths_in (branch pattern inner others) = (pattern, inner) ∷ paths_in others

-- the pattern matches the path
abbrev pub applies : List ℕ → Compiled × LevelData → Bool
applies path one = is_match one.0 path

-- this stands below the first PathMatch of a level whose pattern matches the path
abbrev pub IsInner : List ℕ → LevelData → LevelData → Type 0
IsInner path here inner =
    (index : ℕ) × (pattern : Compiled) × IsFirst (applies path) (paths_in (branches_in here)) index (pattern, inner)

-- One array for each level: that of this level, and then those of the level below the first PathMatch that matches.
-- They end at the level where no PathMatch matches.
abbrev pub AreLevels : List ℕ → LevelData → List (List Generic) → Type 0
AreLevels path here [] = ⊥
AreLevels path here (objects ∷ []) =
    (objects ≡ objects_in here) × NoneHolds (applies path) (paths_in (branches_in here))
AreLevels path here (objects ∷ next ∷ arrays) =
    (objects ≡ objects_in here) × ((inner : LevelData) × IsInner path here inner × AreLevels path inner (next ∷ arrays))

-- the arrays are those of the levels of the first HostMatch that matches
abbrev pub IsChain : Index → Target → List (List Generic) → Type 0
IsChain index target arrays =
    (place : ℕ) × (site : Site) × IsFirst (matches_target target) index place site
    × AreLevels target.path site.level arrays
