-- The limits of a head.
use Rattle.std.specs.Prelude.{ℕ, ◌≤◌, List, length, count_by, ◌==◌}
use Rattle.http_wire.specs.declared.limits.TheConstants.{HEAD_MAX, FEEDS_MAX, LINE_FEED}

-- how many line feeds stand in the bytes
unfoldable pub feeds : List ℕ → ℕ
feeds bytes = count_by (λ byte. byte == LINE_FEED) bytes

-- at most 16,384 bytes and 66 line feeds
abbrev pub IsWithinLimits : List ℕ → Type 0
IsWithinLimits bytes = (length bytes ≤ HEAD_MAX) × (feeds bytes ≤ FEEDS_MAX)
