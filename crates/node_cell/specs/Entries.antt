-- The history that calls make, each with the number of the pass that made it.
use Rattle.std.specs.Prelude.{ℕ, List, map}
use Rattle.history.specs.Event.{Entry, History, event_of}
use Rattle.history.specs.declared.call.Call.{Call}

abbrev pub entry_of : ℕ × Call → Entry
entry_of called = (called.0, event_of called.1)

abbrev pub history_of : List (ℕ × Call) → History
history_of calls = map entry_of calls
