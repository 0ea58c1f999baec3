-- A few bytes in an array of which the rest is 0.
use Rattle.std.specs.Prelude.{◌≡◌, ℕ, List, drop, replicate, ◌-◌}
use Rattle.listing.specs.declared.short_bytes.TheConstants.{SHORT_MAX}

-- from this place on all bytes are 0
abbrev pub IsZeroFrom : ℕ → List ℕ → Type 0
IsZeroFrom n bytes = drop n bytes ≡ replicate (SHORT_MAX - n) 0
