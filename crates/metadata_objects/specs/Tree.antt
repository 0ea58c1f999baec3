-- What a metadata tree with its documents is seen as.
use Rattle.std.specs.Prelude.{List}
use Rattle.cdni_base.specs.Key.{KeyParts}
use Rattle.metadata_objects.specs.LevelData.{Index, index_view}
use Rattle.metadata_objects.specs.declared.tree.Tree.{Tree}

-- the HostIndex, and the keys of the documents that it was made of
pub record TreeData : Type 0 where
  pub index : Index
  pub resources : List KeyParts

abbrev pub tree_view : Tree → TreeData
tree_view tree = record { index = index_view tree.index; resources = tree.resources }
