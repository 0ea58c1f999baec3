-- What a history records of the deliveries that were ended in a list of calls.
use Rattle.std.specs.Prelude.{◌≡◌, ℕ, List, [], ◌∷◌}
use Rattle.delivery_law.specs.LogRows.{HasRow}
use Rattle.history.specs.Event.{History, Finish}
use Rattle.history.specs.History.{world_of}
use Rattle.history.specs.World.{Made}
use Rattle.history.specs.declared.reply.Reply.TheVariants as reply
use Rattle.session_base.specs.Doing.{Called}

-- the end of a delivery was entered: among the rows is one of the delivery, under the number that was answered, with the
-- status, the bytes and the moment that were told
abbrev pub IsRecorded : Made → History → Called → Type 0
IsRecorded made h (Finish delivery status total entity moment, answer) = (number : ℕ) × (at : ℕ)
    × (answer ≡ reply.Logged number)
    × HasRow (world_of made h).delivering.rows number at delivery status total entity moment
IsRecorded made h call = Unit {0}

-- each of them was
abbrev pub AllRecorded : Made → History → List Called → Type 0
AllRecorded made h [] = Unit {0}
AllRecorded made h (call ∷ calls) = IsRecorded made h call × AllRecorded made h calls
