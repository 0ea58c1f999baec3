-- What one write to a sink did.
use Rattle.std.specs.Prelude.{◌≡◌, ◌≢◌, ℕ, ◌≤◌, List, take}
use Rattle.std.specs.declared.option.Option.{Option}
use Rattle.std.specs.Io.KnownBytes.{Appends, Keeps}
use Rattle.edge_base.specs.declared.sink.Put.{Put}
use Rattle.edge_base.specs.declared.sink.Put.TheVariants as put
use Rattle.edge_base.specs.Causes.{Rose}

-- one byte or more was taken, and no more than were offered
abbrev pub IsPutCount : ℕ → Put → Type 0
IsPutCount offered (put.Some n) = (1 ≤ n) × (n ≤ offered)
IsPutCount offered put.Failed = Unit {0}

-- the front of the piece was added to what is held; a failure adds nothing
abbrev pub Writes : Option (List ℕ) → Option (List ℕ) → List ℕ → Put → Type 0
Writes old new piece (put.Some n) = Appends old new (take n piece)
Writes old new piece put.Failed = Keeps old new

-- the count of faults did not fall; it rose where the write failed, and is the same where it did not
pub record HasWriteCause (before now : ℕ) (result : Put) : Type 0 where
  pub later : before ≤ now
  pub failed : result ≡ put.Failed → Rose before now
  pub answered : result ≢ put.Failed → now ≡ before
