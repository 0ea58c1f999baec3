-- What is said of calls: which end something, and how a journal keeps them.
use Rattle.std.specs.Prelude.{Bool, true, false, None}
use Rattle.history.specs.Event.{Entry, Event, FetchEnd, Finish, RefreshEnd, event_of}
use Rattle.upstream_gate.specs.declared.outcome.Outcome.TheVariants.{Failed}
use Rattle.node_core.specs.declared.entered.Entered.{Entered}

-- the end of a fetch, of a refresh or of a delivery
abbrev pub is_end : Event → Bool
is_end (FetchEnd fetch outcome moment) = true
is_end (RefreshEnd refresh tree moment) = true
is_end (Finish delivery status total entity moment) = true
is_end event = false

-- without what a fetch or a refresh brought
abbrev pub stripped_event : Event → Event
stripped_event (FetchEnd fetch outcome moment) = FetchEnd fetch Failed moment
stripped_event (RefreshEnd refresh tree moment) = RefreshEnd refresh None moment
stripped_event event = event

abbrev pub stripped : Entry → Entry
stripped entry = (entry.0, stripped_event entry.1)

-- what the journal keeps of it
abbrev pub entry_of : Entered → Entry
entry_of entered = (entered.pass, event_of entered.call)
