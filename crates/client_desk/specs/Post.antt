-- Who waits in the epoll, and who sleeps.
use Rattle.std.specs.Prelude.{ℕ, Bool, nat_lt, ◌==◌, ◌||◌}

-- a worker waits in the epoll, or a sleeper or the deputy was called to
abbrev pub is_attended : Bool → Bool → Bool → Bool
is_attended watched called summoned = watched || (called || summoned)

-- of so many that sleep: none does, or one more is the deputy, or one of them was called to be it
abbrev pub is_staffed : ℕ → Bool → Bool → Bool
is_staffed asleep has_deputy appointed = asleep == 0 || (has_deputy || appointed)

-- a worker waits in the epoll or was called to, or so many sleep, or one more does
abbrev pub is_free : Bool → ℕ → Bool → Bool
is_free attended asleep has_deputy = attended || (nat_lt 0 asleep || has_deputy)
