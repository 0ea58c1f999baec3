-- Readings of the clock of the machine.
use Rattle.std.specs.Prelude.{ℕ, ◌/◌, ◌^◌, ◌-◌, min, Ok, Err}
use Rattle.std.specs.declared.result.Result.{Result}
use Rattle.std.specs.Time.{system_time_nanos}
use Rattle.std.specs.declared.time.SystemTime.{SystemTime}

-- the whole milliseconds since 1970, as far as 64 bits go; 0 where the clock cannot be read
abbrev pub moment_of : {E : Type 0} → Result SystemTime E → ℕ
moment_of (Ok time) = min (system_time_nanos time / 1_000_000) (2 ^ 64 - 1)
moment_of (Err e) = 0
