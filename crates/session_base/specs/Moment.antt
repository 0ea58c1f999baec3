-- Moments that have a date of HTTP.
use Rattle.std.specs.Prelude.{ℕ, ◌-◌, min}
use Rattle.cdni_base.specs.declared.date.TheConstants.{DATE_END}

-- a moment past the year 9999 counts as the last of that year
abbrev pub capped : ℕ → ℕ
capped moment = min moment (DATE_END - 1)
