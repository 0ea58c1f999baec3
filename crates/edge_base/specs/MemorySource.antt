-- Sources in memory.
use Rattle.std.specs.Prelude.{ℕ, List, drop, length, min, ◌==◌, if◌then◌else◌}
use Rattle.edge_base.specs.declared.source.Took.{Took}
use Rattle.edge_base.specs.declared.source.Took.TheVariants as took
use Rattle.edge_base.specs.Causes.{next_count}
use Rattle.edge_base.specs.Portions.{portion}

-- the bytes left, what each later call gives at most (0 makes it fail), and the faults so far
pub record Feed : Type 0 where
  pub left : List ℕ
  pub gives : List ℕ
  pub faults : ℕ

-- what a read answers, where the buffer has so much room
abbrev pub given : ℕ → Feed → Took
given room feed = if portion room feed.gives == 0 then took.Failed else
    (if length feed.left == 0 then took.End else took.Some (min (portion room feed.gives) (length feed.left)))

-- what the source is after it: what was given is gone, one number is used up, and a failure is counted once
abbrev pub after_read : ℕ → Feed → Feed
after_read room feed = record {
  left = drop (portion room feed.gives) feed.left;
  gives = drop 1 feed.gives;
  faults = if portion room feed.gives == 0 then next_count feed.faults else feed.faults;
}
