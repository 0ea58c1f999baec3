-- How many requests of a connection were answered.
use Rattle.std.specs.Prelude.{ℕ, ◌-◌, List, length}
use Rattle.session_base.specs.Doing.{Doing}
use Rattle.session_base.specs.declared.ending.Ending.{Ending}
use Rattle.session_base.specs.declared.ending.Ending.TheVariants as ending

-- the requests of these turns that were answered: all but the last, which was answered too where the session ended since its
-- request or its answer says close, or since there may be no other
abbrev pub answered : List Doing → Ending → ℕ
answered turns ending.Turns = length turns
answered turns ending.Closed = length turns
answered turns other = length turns - 1
