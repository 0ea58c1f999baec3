-- What a whole write did.
use Rattle.std.specs.Prelude.{◌≡◌, ℕ, ◌≤◌, Bool, true, false}
use Rattle.edge_base.specs.Causes.{Rose}

-- the count of faults did not fall; it rose where there was a fault, and is the same where there was none
pub record HasCause (before now : ℕ) (fault : Bool) : Type 0 where
  pub later : before ≤ now
  pub failed : fault ≡ true → Rose before now
  pub answered : fault ≡ false → now ≡ before
