-- The limits of a node.
use Rattle.std.specs.Prelude.{ℕ, ◌^◌, ◌≤◌}

-- what a node keeps at most
pub record Bounds : Type 0 where
  pub cache : ℕ
  pub rows : ℕ
  pub triggers : ℕ
  pub files : ℕ
  pub period : ℕ
  pub opened : ℕ

-- each limit is within its range
pub record AreInRange (b : Bounds) : Type 0 where
  pub cache : b.cache ≤ 1073741824
  pub rows : (1 ≤ b.rows) × (b.rows ≤ 100000)
  pub triggers : (1 ≤ b.triggers) × (b.triggers ≤ 10000)
  pub files : (1 ≤ b.files) × (b.files ≤ 64)
  pub period : b.period ≤ 86400000
  pub opened : (1 ≤ b.opened) × (b.opened ≤ 2 ^ 62)

-- the limits where none are given
abbrev pub default_limits : Bounds
default_limits = record {
  cache = 268435456;
  rows = 20000;
  triggers = 1000;
  files = 16;
  period = 60000;
  opened = 2 ^ 62;
}
