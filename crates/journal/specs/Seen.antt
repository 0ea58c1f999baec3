-- What a journal is seen as.
use Rattle.std.specs.Prelude.{ℕ, ◌-◌, List, [], ◌∷◌, ◌++◌}

-- how many entries were retired, modulo 2^64, the entries that are stored, the oldest first, and how many more can be
-- pushed without memory
pub record Seen (E : Type 0) : Type 0 where
  pub retired : ℕ
  pub stored : List E
  pub spare : ℕ

-- the journal with one more entry, at a place that was reserved
abbrev pub pushed : {E : Type 0} → Seen E → E → Seen E
pushed seen entry = record seen { stored = seen.stored ++ entry ∷ []; spare = seen.spare - 1 }
