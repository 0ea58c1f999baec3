-- What follows an answer.
use Rattle.std.specs.Prelude.{Bool, true, false}
use Rattle.session_base.specs.declared.ending.Ending.TheVariants as ending
use Rattle.session_base.specs.declared.ending.Next.{Next}
use Rattle.session_base.specs.declared.ending.Next.TheVariants as next

-- the connection closes behind the answer, or not; no memory was found, or some; the sink failed, or not
abbrev pub next_of : Bool → Bool → Bool → Next
next_of leaves short true = next.Stops ending.WriteFault
next_of leaves true false = next.Stops ending.Memory
next_of true false false = next.Stops ending.Closed
next_of false false false = next.GoesOn
