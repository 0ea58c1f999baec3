-- How slowly the bytes of one message may move.
use Rattle.std.specs.Prelude.{ℕ, ◌+◌, ◌-◌, ◌*◌, ◌/◌, min, ◌||◌, not, ◌==◌, if◌then◌else◌}
use Rattle.sockets.specs.declared.pace.Pace.{Pace}
use Rattle.sockets.specs.declared.pace.TheConstants.{STEP_BYTES}

-- the last number of a count of milliseconds or bytes
abbrev most : ℕ
most = 18446744073709551615

-- what all waits together may take
abbrev pub whole_of : Pace → ℕ
whole_of pace = min (pace.floor + min (pace.moved / STEP_BYTES * pace.step) most) most

-- how long the next wait may be
abbrev pub left_of : Pace → ℕ
left_of pace = min (whole_of pace - pace.spent) (pace.quiet - pace.silent)

-- so many bytes moved
abbrev pub after_move : ℕ → Pace → Pace
after_move count pace = record {
  floor = pace.floor;
  step = pace.step;
  quiet = pace.quiet;
  strict = pace.strict;
  spent = pace.spent;
  silent = 0;
  moved = min (pace.moved + count) most;
}

-- the peer was waited for; before the first byte that counts towards the floor where the pace is strict
abbrev pub after_wait : ℕ → Pace → Pace
after_wait took pace = record {
  floor = pace.floor;
  step = pace.step;
  quiet = pace.quiet;
  strict = pace.strict;
  spent = if pace.strict || not (pace.moved == 0) then min (pace.spent + took) most else pace.spent;
  silent = min (pace.silent + took) most;
  moved = pace.moved;
}
