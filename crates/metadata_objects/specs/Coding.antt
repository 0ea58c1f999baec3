-- A tree as a list of rows, by which a proof tells trees apart where they stand in the state of a crate above. Nothing
-- else reads it: it says nothing of what a tree means.
use Rattle.std.specs.Prelude.{◌≡◌, ℕ, false, List, [], ◌∷◌, ◌++◌, length, take, drop}
use Rattle.std.specs.Coded.{Coded, code_by}
use Rattle.std.proofs.Common.{refl, ◌∙◌, ap}
use Rattle.std.proofs.Math.Seq.{take-append_seam, drop-append_seam}
use Rattle.pattern_match.specs.Matching.{Compiled}
use Rattle.metadata_objects.specs.LevelData.{LevelData, level_data, Branches, no_branches, branch, branches_of}
use Rattle.metadata_objects.specs.declared.generic.Generic.{Generic}

-- the pattern of a level, its objects, and how many branches stand below it
abbrev pub Row : Type 0
Row = Compiled × (List Generic × ℕ)

abbrev pub list_of : Branches → List (Compiled × LevelData)
list_of no_branches = []
list_of (branch pattern inner others) = (pattern, inner) ∷ list_of others

-- the rows of a level and of those below it, in front of others
abbrev mutual
  pub rows_at : Compiled → LevelData → List Row → List Row
  rows_at pattern (level_data objects below) rest = (pattern, (objects, length (list_of below))) ∷ rows_below below rest

  pub rows_below : Branches → List Row → List Row
  rows_below no_branches rest = rest
  rows_below (branch pattern inner others) rest = rows_at pattern inner (rows_below others rest)

-- a row takes as many levels as it says from those behind it
abbrev pub with_row : Row → List (Compiled × LevelData) → List (Compiled × LevelData)
with_row row levels = (row.0, level_data row.1.0 (branches_of (take row.1.1 levels))) ∷ drop row.1.1 levels

abbrev pub levels_of : List Row → List (Compiled × LevelData)
levels_of [] = []
levels_of (row ∷ rows) = with_row row (levels_of rows)

pub branches_again : (below : Branches) → branches_of (list_of below) ≡ below
branches_again no_branches = refl
branches_again (branch pattern inner others) = ap (branch pattern inner) (branches_again others)

pub taken : (pattern : Compiled) (objects : List Generic) (below : Branches) (levels : List (Compiled × LevelData))
    → with_row (pattern, (objects, length (list_of below))) (list_of below ++ levels) ≡
    (pattern, level_data objects below) ∷ levels
taken pattern objects below levels =
    ap (λ front. (pattern, level_data objects (branches_of front)) ∷ drop (length (list_of below))
    (list_of below ++ levels)) (take-append_seam (list_of below) levels)
    ∙ ap (λ inner. (pattern, level_data objects inner) ∷ drop (length (list_of below)) (list_of below ++ levels))
    (branches_again below)
    ∙ ap (λ rest. (pattern, level_data objects below) ∷ rest) (drop-append_seam (list_of below) levels)

mutual
  pub levels_at : (pattern : Compiled) (level : LevelData) (rest : List Row)
      → levels_of (rows_at pattern level rest) ≡ (pattern, level) ∷ levels_of rest
  levels_at pattern (level_data objects below) rest =
      ap (with_row (pattern, (objects, length (list_of below)))) (levels_below below rest)
      ∙ taken pattern objects below (levels_of rest)

  pub levels_below : (below : Branches) (rest : List Row)
      → levels_of (rows_below below rest) ≡ list_of below ++ levels_of rest
  levels_below no_branches rest = refl
  levels_below (branch pattern inner others) rest = levels_at pattern inner (rows_below others rest)
      ∙ ap (λ levels. (pattern, inner) ∷ levels) (levels_below others rest)

abbrev pub rows_of : LevelData → List Row
rows_of level = rows_at (record { tokens = []; case_sensitive = false }) level []

abbrev pub first_level : List (Compiled × LevelData) → LevelData
first_level [] = level_data [] no_branches
first_level (level ∷ levels) = level.1

abbrev pub level_code : Coded (List Row) → Coded LevelData
level_code rows =
    code_by (List Row) rows rows_of (λ list. first_level (levels_of list)) (λ level. ap first_level (levels_at
    (record { tokens = []; case_sensitive = false }) level []))
