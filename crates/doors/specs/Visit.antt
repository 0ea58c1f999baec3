-- Connections that are served one after the other.
use Rattle.std.specs.Prelude.{◌≡◌, ℕ, ◌≤◌, List, [], ◌∷◌, ◌++◌, All, map, None, Some}
use Rattle.std.specs.List.{flat_map}
use Rattle.std.specs.declared.option.Option.{Option}
use Rattle.std.specs.Io.KnownBytes.{Appends, Consumes}
use Rattle.edge_base.specs.Causes.{Rose}
use Rattle.edge_base.specs.Clock.{Grows}
use Rattle.history.specs.Event.{History}
use Rattle.location_acl.specs.Table.{GivesPlace}
use Rattle.location_acl.specs.declared.footprint.Place.{Place}
use Rattle.location_acl.specs.declared.line.PlaceLine.{PlaceLine}
use Rattle.node_core.specs.Home.{Who}
use Rattle.session_base.specs.Doing.{Any, Called, Doing, Makes}
use Rattle.session.specs.Session.{Leaves, Session}
use Rattle.session_base.specs.declared.ending.Ending.{Ending}
use Rattle.session_base.specs.declared.ending.Ending.TheVariants as ending
use Rattle.session_base.specs.declared.settings.Settings.{Settings}
use Rattle.upstream_gate.specs.Outcome.{Exchange}
use Rattle.doors.specs.Door.{Book, Gave, Given, Passed, Shut, Took}
use Rattle.doors.specs.declared.serve.DoorEnd.{DoorEnd}
use Rattle.doors.specs.declared.serve.DoorEnd.TheVariants as door_end
use Rattle.doors.specs.declared.serve.Step.{Step}
use Rattle.doors.specs.declared.serve.Step.TheVariants as step

-- a connection as it was given and as it was closed, what was done in its session, which bytes were read and not used
-- then, and how the session ended
pub record Visit : Type 0 where
  pub given : Given
  pub shut : Shut
  pub doing : Doing
  pub rest : List ℕ
  pub ending : Ending

-- A session was served over the connection, with the place of its address: where its ends tell, what it took is gone from
-- the source, and what it wrote is in the sink. It ended by a fault only where the count of that end has risen from 0.
pub record IsVisit (settings : Settings) (table : List PlaceLine) (v : Visit) : Type 0 where
  pub place : Place
  pub placed : GivesPlace table v.given.ip place
  pub session : Session settings place v.doing v.ending
  pub took : Consumes v.given.left v.shut.left (v.doing.bytes ++ v.rest)
  pub wrote : Appends v.given.held v.shut.held v.doing.written
  pub leaves : Leaves v.shut.left v.rest v.ending
  pub read_cause : v.ending ≡ ending.ReadFault → Rose 0 v.shut.read_faults
  pub write_cause : v.ending ≡ ending.WriteFault → Rose 0 v.shut.write_faults

abbrev pub calls_of : Visit → List Called
calls_of v = v.doing.calls

abbrev pub moments_of : Visit → List ℕ
moments_of v = v.doing.moments

abbrev pub exchanges_of : Visit → List Exchange
exchanges_of v = v.doing.exchanges

abbrev pub given_of : Visit → Given
given_of v = v.given

-- what passes at the door: the connection is given, and closed before anything else passes
abbrev pub passed_of : Visit → List Passed
passed_of v = Gave v.given ∷ Took v.shut ∷ []

-- where the door tells, these connections were the next ones that it had left, and each was given and then closed before
-- the next one was given
pub record VisitedIn (old new : Book) (visits : List Visit) : Type 0 where
  pub left : old.left ≡ map given_of visits ++ new.left
  pub passed : new.passed ≡ old.passed ++ flat_map passed_of visits

abbrev pub Visited : Option Book → Option Book → List Visit → Type 0
Visited (Some old) (Some new) visits = VisitedIn old new visits
Visited (Some old) None visits = Unit {0}
Visited None (Some new) visits = ⊥
Visited None None visits = Unit {0}

-- These connections were served one after the other. What the clock gave, what the gate exchanged and what the home was
-- called are those of their sessions, one after the other.
pub record Serves (settings : Settings) (table : List PlaceLine) (who : Who) (seen seen' : History → Type 0) (given given' : Option (List ℕ)) (told told' : Option (List Exchange)) (book book' : Option Book) (visits : List Visit) : Type 0 where
  pub each : All (λ (v : Visit). IsVisit settings table v) visits
  pub door : Visited book book' visits
  pub moments : Grows given given' (flat_map moments_of visits)
  pub exchanges : Grows told told' (flat_map exchanges_of visits)
  pub calls : Makes who Any seen seen' (flat_map calls_of visits)

abbrev pub HasNoneLeft : Option Book → Type 0
HasNoneLeft None = Unit {0}
HasNoneLeft (Some book) = book.left ≡ []

-- After so many connections the serving ends so: `Served` exactly where this is their number, which is never passed;
-- `Closed` only where none is left.
pub record IsEndOf (connections : Option ℕ) (count : ℕ) (book : Option Book) (end : DoorEnd) : Type 0 where
  pub served : end ≡ door_end.Served → connections ≡ Some count
  pub serves : connections ≡ Some count → end ≡ door_end.Served
  pub within : (number : ℕ) → connections ≡ Some number → count ≤ number
  pub closed : end ≡ door_end.Closed → HasNoneLeft book

-- one connection was served, or none, and why
abbrev pub IsStep : Option Book → Step → ℕ → Type 0
IsStep book step.Served count = count ≡ 1
IsStep book step.Closed count = (count ≡ 0) × HasNoneLeft book
IsStep book step.Failed count = count ≡ 0
IsStep book step.Memory count = count ≡ 0
