-- Connections that are open.
use Rattle.std.specs.Prelude.{◌≡◌, ℕ, ℤ, ◌+◌, ◌-◌, ◌*◌, ◌/◌, ◌^◌, min, Bool, true, false, List, length, filter, nat_eq, nat_le, is_none, Option, Some, None, ◌==◌, ◌&&◌, not, if◌then◌else◌}
use Rattle.std.specs.List.{fold, sum_by}
use Rattle.std.specs.Option.{option_and_then, option_map_or}
use Rattle.indexmap.specs.IndexMap.{get}
use Rattle.sockets.specs.declared.pace.TheConstants.{STEP_BYTES}
use Rattle.sockets.specs.declared.waits.Waits.{Waits}
use Rattle.client_desk.specs.declared.parked.Lot.{Lot}
use Rattle.client_desk.specs.declared.parked.Parked.{Parked}
use Rattle.client_desk.specs.declared.parked.Slot.{Slot}
use Rattle.client_desk.specs.declared.parked.Waiting.{Waiting}
use Rattle.client_desk.specs.declared.parked.Waiting.TheVariants as waiting
use Rattle.client_desk.specs.declared.parked.TheConstants.{STREAK}

-- how long a message may take of which so many bytes came: a floor, and a step for each 65,536 bytes
abbrev pub time_for : ℕ → Waits → ℕ
time_for count waits = min (waits.floor + min (count / STEP_BYTES * waits.step) (2 ^ 64 - 1)) (2 ^ 64 - 1)

-- nothing of a next head came for as long as a connection may be idle; or a part of one came, and the rest did not for
-- as long as a head may take; or a head came, and the rest of its message did not for as long as that may take; or the
-- client did not end for as long as that is waited for
abbrev pub is_late_for : Waiting → ℕ → Waits → Parked → Bool
is_late_for waiting.Head now waits parked =
    if length parked.got.items == 0 then nat_le waits.idle (now - parked.since)
    else nat_le waits.head (now - parked.born)
is_late_for (waiting.Message whole) now waits parked = nat_le (time_for (length parked.got.items) waits) (now - parked.born)
is_late_for (waiting.End left) now waits parked = nat_le waits.linger (now - parked.since)

abbrev pub is_late : ℕ → Waits → Parked → Bool
is_late now waits parked = is_late_for parked.waiting now waits parked

-- how many bytes came of the message whose rest a connection waits for
abbrev pub gathered_for : Waiting → ℕ → ℕ
gathered_for waiting.Head count = 0
gathered_for (waiting.Message whole) count = count
gathered_for (waiting.End left) count = 0

abbrev pub gathered_by : Parked → ℕ
gathered_by parked = gathered_for parked.waiting (length parked.got.items)

-- the same, where no worker has the connection
abbrev pub gathered_in : Slot → ℕ
gathered_in slot = option_map_or gathered_by slot.parked 0

-- how many bytes came of all messages whose rest is waited for
abbrev pub gathered : List (ℕ × Slot) → ℕ
gathered entries = sum_by (λ entry. gathered_in entry.1) entries

-- a message whose rest is waited for since this moment or before; since whenever, where no moment is told
abbrev pub is_old_for : Waiting → Option ℕ → ℕ → Bool
is_old_for waiting.Head moment born = false
is_old_for (waiting.Message whole) None born = true
is_old_for (waiting.Message whole) (Some moment) born = nat_le born moment
is_old_for (waiting.End left) moment born = false

abbrev pub is_old_message : Option ℕ → Parked → Bool
is_old_message moment parked = is_old_for parked.waiting moment parked.born

-- no worker has it, and its message is such a one
abbrev pub is_old : Option ℕ → Slot → Bool
is_old moment slot = option_map_or (is_old_message moment) slot.parked false

-- how many bytes came of its message, unless it is such a one
abbrev pub gathered_without : Option ℕ → Slot → ℕ
gathered_without moment slot = if is_old moment slot then 0 else gathered_in slot

-- the sum of a number of each connection, up to 2^64 - 1
abbrev pub counted : (Slot → ℕ) → List Slot → ℕ
counted number slots = fold (λ total slot. min (total + number slot) (2 ^ 64 - 1)) 0 slots

-- the connections that are left where those with such messages are closed
abbrev pub left_after : Option ℕ → Lot → List (ℕ × Slot)
left_after moment lot = filter (λ entry. not (is_old moment entry.1)) lot.slots.entries

-- the same, with so many bytes of messages that came since all were counted
abbrev pub with_came : Lot → ℕ → Lot
with_came lot count = record lot { came = count }

-- no other connection than this one asks: it was given to a worker last, and many times in a row
abbrev pub is_favoured : Lot → ℕ → Bool
is_favoured lot token = lot.last == token && nat_le STREAK lot.streak

-- what is known of the connection with this token
abbrev pub slot_at : Lot → ℕ → Option Slot
slot_at lot token = get nat_eq lot.slots token

-- the connection with this token, where no worker has it
abbrev pub parked_at : Lot → ℕ → Option Parked
parked_at lot token = option_and_then (λ slot. slot.parked) (slot_at lot token)

-- its descriptor, where the epoll tells of it though a worker has it
abbrev pub told_fd : Lot → ℕ → Option ℤ
told_fd lot token = option_and_then (λ slot. if is_none slot.parked && slot.told then Some slot.fd else None) (slot_at lot token)

-- no worker has it, and it waited too long
abbrev pub is_expired : ℕ → Waits → Slot → Bool
is_expired now waits slot = option_map_or (is_late now waits) slot.parked false

-- no worker has it, and it waited for so many milliseconds
abbrev pub is_spare : ℕ → ℕ → Slot → Bool
is_spare now time slot = option_map_or (λ parked. nat_le time (now - parked.since)) slot.parked false

-- a connection that came: a worker has it, and the epoll does not tell of it
abbrev pub new_slot : ℤ → Slot
new_slot fd = record { fd = fd; told = false; parked = None }

-- the same, with this in place of the parked connection
abbrev pub with_parked : Slot → Option Parked → Slot
with_parked slot parked = record slot { parked = parked }

-- the same, of which the epoll tells
abbrev pub told : Slot → Slot
told slot = record slot { told = true }

-- the connection was given to a worker once more: how many times in a row, up to 2^64 - 1
abbrev pub IsCounted : Lot → Lot → ℕ → Type 0
IsCounted old new token = (new.last ≡ token) × (new.streak ≡ (if old.last == token then min (old.streak + 1) (2 ^ 64 - 1) else 1))

-- what is ready, who was given last and the next token stay
abbrev pub KeepsOrder : Lot → Lot → Type 0
KeepsOrder old new = (new.ready ≡ old.ready) × (new.last ≡ old.last) × (new.streak ≡ old.streak) × (new.next ≡ old.next)
