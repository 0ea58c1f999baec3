-- When a refresh of the metadata is due, and what becomes of what it brings (RFC 8006, section 6.3).
use Rattle.std.specs.Prelude.{ℕ, ◌+◌, ◌<◌, List}
use Rattle.cdni_base.specs.Key.{KeyParts}
use Rattle.metadata_objects.specs.Tree.{TreeData}
use Rattle.history.specs.Event.{History}
use Rattle.history.specs.World.{Installed, Made}
use Rattle.delivery_law.specs.Denials.{IsFirstToHit, IsInForce}
use Rattle.delivery_law.specs.Metadata.{RefreshBegan}
use Rattle.delivery_law.specs.Starts.{NoneTookBackMetadata}

-- this metadata is installed and valid, and was asked for less than a period, in milliseconds, before this moment
pub record IsFreshAt (made : Made) (h : History) (moment : ℕ) (installed : Installed) : Type 0 where
  pub force : IsInForce made h installed
  pub valid : NoneTookBackMetadata made h installed.at installed.tree.resources
  pub recent : moment < installed.moment + made.limits.period

-- since this pass began the refresh, this trigger was the first that became active and hits one of these documents
pub record WasTakenBack (made : Made) (h : History) (pass refresh : ℕ) (resources : List KeyParts) (trigger : ℕ) : Type 0 where
  pub at : ℕ
  pub moment : ℕ
  pub begun : RefreshBegan made h at pass refresh moment
  pub hit : IsFirstToHit made h at resources trigger

-- since this pass began the refresh, nothing became active that hits one of the documents of this metadata
pub record IsUntouched (made : Made) (h : History) (pass refresh : ℕ) (tree : TreeData) : Type 0 where
  pub at : ℕ
  pub moment : ℕ
  pub begun : RefreshBegan made h at pass refresh moment
  pub untaken : NoneTookBackMetadata made h at tree.resources
