-- Counts of faults of an object that is handed in.
use Rattle.std.specs.Prelude.{ℕ, ◌+◌, ◌≤◌, min}
use Rattle.edge_base.specs.declared.causes.TheConstants.{MOST_FAULTS}

-- a count after one more fault, up to its last value
abbrev pub next_count : ℕ → ℕ
next_count before = min (before + 1) MOST_FAULTS

-- a count of faults rose, or stands at its last value
abbrev pub Rose : ℕ → ℕ → Type 0
Rose before now = next_count before ≤ now
