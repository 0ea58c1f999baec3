-- Sinks in memory.
use Rattle.std.specs.Prelude.{◌≡◌, ℕ, List, ◌++◌, take, drop, length}
use Rattle.edge_base.specs.declared.sink.Put.{Put}
use Rattle.edge_base.specs.declared.sink.Put.TheVariants as put
use Rattle.edge_base.specs.Causes.{next_count}
use Rattle.edge_base.specs.Portions.{portion}

-- the bytes taken, what each later call takes at most (0 makes it fail), and the faults so far
pub record Basin : Type 0 where
  pub held : List ℕ
  pub takes : List ℕ
  pub faults : ℕ

-- the sink after it took these bytes: one number is used up
abbrev pub after_taking : Basin → List ℕ → Basin
after_taking basin bytes = record {
  held = basin.held ++ bytes;
  takes = drop 1 basin.takes;
  faults = basin.faults;
}

-- the sink after a failure: one number is used up, and one fault is counted
abbrev pub after_failing : Basin → Basin
after_failing basin = record {
  held = basin.held;
  takes = drop 1 basin.takes;
  faults = next_count basin.faults;
}

-- a write takes as much as its number says; it fails where that is nothing, and for want of memory
abbrev pub PutsByList : Basin → Basin → List ℕ → Put → Type 0
PutsByList old new piece (put.Some n) = (n ≡ portion (length piece) old.takes) × (new ≡ after_taking old (take n piece))
PutsByList old new piece put.Failed = new ≡ after_failing old
