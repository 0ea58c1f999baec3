-- How far a gathering came.
use Rattle.std.specs.Prelude.{ℕ, List, []}
use Rattle.std.specs.declared.option.Option.{Option}
use Rattle.cdni_base.specs.Key.{KeyParts}
use Rattle.metadata_links.specs.declared.link.Link.{Link}

-- a document whose Links are followed: the key of its URL, its Links that are still to be followed, and behind these
-- the pointer of the first whose `href` names nothing, if there is one
pub record Opened : Type 0 where
  pub key : KeyParts
  pub links : List Link
  pub bad : Option (List ℕ)

-- the documents on the path from the root, the innermost first, the texts that the whole is made of, the keys of all
-- documents, and how many bytes all have together
pub record State : Type 0 where
  pub opened : List Opened
  pub texts : List (List ℕ)
  pub resources : List KeyParts
  pub size : ℕ

-- what comes next of the documents that are opened: nothing; a Link, with the documents as they are then; or the Link at
-- this pointer, whose `href` names nothing
pub data Next : Type 0 where
  done : Next
  leads : Link → List Opened → Next
  stops : List ℕ → Next
