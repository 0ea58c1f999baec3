-- The installed metadata, without positions.
use Rattle.std.specs.Prelude.{ℕ, None, Some, if◌then◌else◌}
use Rattle.std.specs.List.{list_any}
use Rattle.std.specs.Option.{option_and_then, option_map}
use Rattle.std.specs.declared.option.Option.{Option}
use Rattle.inheritance.specs.HostTable.{IsTableOf}
use Rattle.inheritance.specs.declared.host_table.HostTable.{HostTable}
use Rattle.metadata_objects.specs.LevelData.{Index}
use Rattle.metadata_objects.specs.Tree.{TreeData}
use Rattle.trigger_command.specs.Selection.{hits_metadata}
use Rattle.trigger_command.specs.declared.selection.Selection.{Selection}

-- the installed metadata, its refresh, the moment at which that began, and the first trigger that has made it invalid
pub record Seen : Type 0 where
  pub tree : TreeData
  pub refresh : ℕ
  pub moment : ℕ
  pub invalid : Option ℕ

-- the index of what is installed
abbrev pub index_in : Option Seen → Option Index
index_in seen = option_map (λ installed. installed.tree.index) seen

-- the first trigger that has made it invalid
abbrev pub invalid_in : Option Seen → Option ℕ
invalid_in seen = option_and_then (λ installed. installed.invalid) seen

-- the table, where it was made, is that of the index
abbrev pub HasTable : Option HostTable → Index → Type 0
HasTable None index = Unit {0}
HasTable (Some table) index = IsTableOf table index

-- the first trigger that has made it invalid, where this one starts
abbrev pub invalid_by : ℕ → Selection → Seen → Option ℕ → Option ℕ
invalid_by trigger selection seen (Some first) = Some first
invalid_by trigger selection seen None =
    if list_any (hits_metadata selection) seen.tree.resources then Some trigger else None

abbrev pub invalidated : ℕ → Selection → Seen → Seen
invalidated trigger selection seen = record seen { invalid = invalid_by trigger selection seen seen.invalid }
