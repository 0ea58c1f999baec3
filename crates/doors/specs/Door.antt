-- Doors: what they tell, what is accepted and what is closed.
use Rattle.std.specs.Prelude.{◌≡◌, ℕ, ◌<◌, List, [], ◌∷◌, ◌++◌, length, None, Some}
use Rattle.std.specs.declared.option.Option.{Option}
use Rattle.location_acl.specs.declared.ip.Ip.{Ip}
use Rattle.doors.specs.declared.door.Accepted.{Accepted}
use Rattle.doors.specs.declared.door.Accepted.TheVariants as accepted

-- a connection when it is given: the address of its client, and where they are told what its source has left and what
-- its sink holds
pub record Given : Type 0 where
  pub ip : Ip
  pub left : Option (List ℕ)
  pub held : Option (List ℕ)

-- a connection when it is closed: where they are told what its source has left and what its sink holds, and the counts of
-- their faults
pub record Shut : Type 0 where
  pub left : Option (List ℕ)
  pub held : Option (List ℕ)
  pub read_faults : ℕ
  pub write_faults : ℕ

-- what passed at a door: it gave a connection, or a connection was closed
pub data Passed : Type 0 where
  Gave : (given : Given) → Passed
  Took : (shut : Shut) → Passed

-- what a door tells: the connections that it has left, and what passed, each in order
pub record Book : Type 0 where
  pub left : List Given
  pub passed : List Passed

-- what was accepted
pub data Answer : Type 0 where
  One : (given : Given) → Answer
  Closed : Answer
  Failed : Answer
  Memory : Answer

-- the same of what `accept` answers, by what its ends tell
abbrev pub given_by : {S K : Type 0} → (S → Option (List ℕ)) → (K → Option (List ℕ)) → Accepted S K → Answer
given_by left held (accepted.One ip source sink) = One (record { ip = ip; left = left source; held = held sink })
given_by left held accepted.Closed = Closed
given_by left held accepted.Failed = Failed
given_by left held accepted.Memory = Memory

-- the next connection was given; none is left; or a fault or want of memory, which changes nothing
abbrev pub AcceptsIn : Book → Book → Answer → Type 0
AcceptsIn old new (One given) = (old.left ≡ given ∷ new.left) × (new.passed ≡ old.passed ++ Gave given ∷ [])
AcceptsIn old new Closed = (old.left ≡ []) × (new ≡ old)
AcceptsIn old new Failed = (0 < length old.left) × (new ≡ old)
AcceptsIn old new Memory = new ≡ old

-- a door may stop telling, and then never tells again
abbrev pub Accepts : Option Book → Option Book → Answer → Type 0
Accepts (Some old) (Some new) answer = AcceptsIn old new answer
Accepts (Some old) None answer = Unit {0}
Accepts None (Some new) answer = ⊥
Accepts None None answer = Unit {0}

abbrev pub IsFailed : {S K : Type 0} → Accepted S K → Type 0
IsFailed (accepted.One ip source sink) = ⊥
IsFailed accepted.Closed = ⊥
IsFailed accepted.Failed = Unit {0}
IsFailed accepted.Memory = ⊥

-- the ends that are given have counted no fault
abbrev pub HaveNoFaults : {S K : Type 0} → (S → ℕ) → (K → ℕ) → Accepted S K → Type 0
HaveNoFaults read_faults write_faults (accepted.One ip source sink) = (read_faults source ≡ 0) × (write_faults sink ≡ 0)
HaveNoFaults read_faults write_faults accepted.Closed = Unit {0}
HaveNoFaults read_faults write_faults accepted.Failed = Unit {0}
HaveNoFaults read_faults write_faults accepted.Memory = Unit {0}

-- a connection with these ends
abbrev pub shut_of : {S K : Type 0} → (S → Option (List ℕ)) → (S → ℕ) → (K → Option (List ℕ)) → (K → ℕ) → S → K → Shut
shut_of left read_faults held write_faults source sink = record {
  left = left source;
  held = held sink;
  read_faults = read_faults source;
  write_faults = write_faults sink;
}

-- the connection was closed
pub record ShutsIn (old new : Book) (shut : Shut) : Type 0 where
  pub left : new.left ≡ old.left
  pub passed : new.passed ≡ old.passed ++ Took shut ∷ []

abbrev pub Shuts : Option Book → Option Book → Shut → Type 0
Shuts (Some old) (Some new) shut = ShutsIn old new shut
Shuts (Some old) None shut = Unit {0}
Shuts None (Some new) shut = ⊥
Shuts None None shut = Unit {0}
