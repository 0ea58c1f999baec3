-- What one read of a source did.
use Rattle.std.specs.Prelude.{◌≡◌, ◌≢◌, ℕ, ◌≤◌, List, take}
use Rattle.std.specs.declared.option.Option.{Option}
use Rattle.std.specs.Io.KnownBytes.{Consumes, Keeps, IsAtEnd}
use Rattle.edge_base.specs.declared.source.Took.{Took}
use Rattle.edge_base.specs.declared.source.Took.TheVariants as took
use Rattle.edge_base.specs.Causes.{Rose}

-- one byte or more came, and no more than there was room for
abbrev pub IsCount : ℕ → Took → Type 0
IsCount room (took.Some n) = (1 ≤ n) × (n ≤ room)
IsCount room took.End = Unit {0}
IsCount room took.Failed = Unit {0}

-- the bytes that came were the next ones left; the end comes where none is left; a failure takes none
abbrev pub Reads : Option (List ℕ) → Option (List ℕ) → List ℕ → Took → Type 0
Reads old new buf (took.Some n) = Consumes old new (take n buf)
Reads old new buf took.End = IsAtEnd new × Keeps old new
Reads old new buf took.Failed = Keeps old new

-- the count of faults did not fall; it rose where the read failed, and is the same where it did not
pub record HasReadCause (before now : ℕ) (result : Took) : Type 0 where
  pub later : before ≤ now
  pub failed : result ≡ took.Failed → Rose before now
  pub answered : result ≢ took.Failed → now ≡ before
