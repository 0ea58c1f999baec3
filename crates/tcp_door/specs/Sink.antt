-- How late a client is that reads slowly.
use Rattle.std.specs.Prelude.{ℕ, ◌+◌, ◌-◌, ◌/◌, ◌^◌, min}
use Rattle.tcp_door.specs.declared.sink.TheConstants.{QUICK_BYTES}

-- each millisecond that it is waited for counts, and the bytes that it takes then are taken off: one for each 1,024
abbrev pub late_after : ℕ → ℕ → ℕ → ℕ
late_after late took count = min (late + took) (2 ^ 64 - 1) - count / QUICK_BYTES
