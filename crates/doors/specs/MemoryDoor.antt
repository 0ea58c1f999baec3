-- Doors in memory.
use Rattle.std.specs.Prelude.{◌≡◌, ◌⊎◌, ℕ, ◌<◌, Bool, true, false, List, [], ◌∷◌, ◌++◌, length, map, None, Some, ◌==◌}
use Rattle.std.specs.List.{list_any}
use Rattle.std.specs.declared.option.Option.{Option}
use Rattle.edge_base.specs.Causes.{next_count}
use Rattle.edge_base.specs.MemorySink.{Basin}
use Rattle.edge_base.specs.MemorySource.{Feed}
use Rattle.doors.specs.Door.{Book, Gave, Given, Passed, Shut, Took}
use Rattle.doors.specs.declared.door.Accepted.{Accepted}
use Rattle.doors.specs.declared.door.Accepted.TheVariants as accepted
use Rattle.doors.specs.declared.memory_door.Connection.{Connection}
use Rattle.doors.specs.declared.memory_door.Ends.{Ends}
use Rattle.doors.specs.declared.memory_door.Passage.{Passage}
use Rattle.doors.specs.declared.memory_door.Passage.TheVariants as passage

-- a connection and its ends, as a door tells them
abbrev pub given_at : Connection → Given
given_at c = record { ip = c.ip; left = Some c.source.left; held = Some c.sink.held }

abbrev pub shut_at : Ends → Shut
shut_at e = record {
  left = Some e.source.left;
  held = Some e.sink.held;
  read_faults = e.source.faults;
  write_faults = e.sink.faults;
}

-- what passed, as a door tells it
abbrev pub passed_at : Passage → Passed
passed_at (passage.Gave connection) = Gave (given_at connection.value)
passed_at (passage.Took ends) = Took (shut_at ends)

-- the connections left, which calls fail, how many calls there were, what passed, how much more can be remembered without
-- memory, whether all of this is still told, and the faults so far
pub record Hall : Type 0 where
  pub left : List Connection
  pub fails : List ℕ
  pub calls : ℕ
  pub passed : List Passed
  pub room : ℕ
  pub telling : Bool
  pub faults : ℕ

abbrev pub told_if : Bool → Book → Option Book
told_if true book = Some book
told_if false book = None

-- what the door tells
abbrev pub book_of : Hall → Option Book
book_of hall = told_if hall.telling (record { left = map given_at hall.left; passed = hall.passed })

-- neither end has counted a fault
abbrev pub IsUnhurt : Connection → Type 0
IsUnhurt c = (c.source.faults ≡ 0) × (c.sink.faults ≡ 0)

-- the door after one more call
abbrev pub after_call : Hall → Hall
after_call hall = record hall { calls = next_count hall.calls }

-- whether the next call is one of those that fail
abbrev pub fails_next : Hall → Bool
fails_next hall = list_any (λ call. call == next_count hall.calls) hall.fails

-- A call gives none where none is left; else it fails where its number, counted from 1, is listed; else it gives the next
-- connection, with room to remember how it is closed, or finds no memory.
abbrev pub AcceptsNext : Hall → Hall → Accepted Feed Basin → Type 0
AcceptsNext old new (accepted.One ip source sink) =
    let c : Connection = record { ip = ip; source = source; sink = sink } in
    (fails_next old ≡ false) × (old.left ≡ c ∷ new.left)
    × (new ≡ record (after_call old) { left = new.left; passed = old.passed ++ Gave (given_at c) ∷ []; room = new.room })
    × (0 < new.room)
AcceptsNext old new accepted.Closed = (old.left ≡ []) × (new ≡ after_call old)
AcceptsNext old new accepted.Failed = (0 < length old.left) × (fails_next old ≡ true)
    × (new ≡ record (after_call old) { faults = next_count old.faults })
AcceptsNext old new accepted.Memory = (0 < length old.left) × (fails_next old ≡ false)
    × (new ≡ record (after_call old) { room = new.room })

-- the ends are remembered; or there was no room, no memory is found, and the door tells no more
abbrev pub ClosesEnds : Hall → Hall → Ends → Type 0
ClosesEnds old new ends =
    (new ≡ record old { passed = old.passed ++ Took (shut_at ends) ∷ []; room = new.room })
    ⊎ ((old.room ≡ 0) × (new ≡ record old { telling = false; room = new.room }))
