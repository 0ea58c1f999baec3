-- A refresh of the metadata before a request (RFC 8006, section 6.3).
use Rattle.std.specs.Prelude.{◌≡◌, ℕ, List, [], ◌∷◌, None}
use Rattle.std.specs.declared.option.Option.{Option}
use Rattle.history.specs.Event.{RefreshBegin, RefreshEnd}
use Rattle.history.specs.declared.reply.Reply.{Reply}
use Rattle.history.specs.declared.reply.Reply.TheVariants as reply
use Rattle.metadata_objects.specs.Tree.{TreeData}
use Rattle.targets.specs.declared.target.Target.{Target}
use Rattle.upstream_gate.specs.Outcome.{Exchange}
use Rattle.session_base.specs.Doing.{Called, Doing}
use Rattle.session_base.specs.Gathering.{Asks, Brings}
use Rattle.session_base.specs.Moment.{capped}
use Rattle.content_request.specs.declared.refresh.Refreshed.{Refreshed}
use Rattle.content_request.specs.declared.refresh.Refreshed.TheVariants as refreshed

-- How a refresh went. It did not begin, for want of memory, since none is due, or since a limit is reached; or it began
-- and ended: with what was gathered, metadata or none, or without it, since the gathering found no memory.
pub data Refreshing : Type 0 where
  NoBegin : Refreshing
  NotDue : (next : ℕ) → Refreshing
  Crowded : (count : ℕ) → Refreshing
  Gathered : (refresh : ℕ) (made : List Exchange) (tree : Option TreeData) (at : ℕ) (line : Reply) → Refreshing
  Ungathered : (refresh : ℕ) (made : List Exchange) (at : ℕ) (line : Reply) → Refreshing

-- its calls, where it would begin at this moment
abbrev pub refresh_calls : ℕ → Refreshing → List Called
refresh_calls moment NoBegin = []
refresh_calls moment (NotDue next) = (RefreshBegin moment, reply.NotDue next) ∷ []
refresh_calls moment (Crowded count) = (RefreshBegin moment, reply.Full count) ∷ []
refresh_calls moment (Gathered refresh made tree at line) =
    (RefreshBegin moment, reply.Due refresh) ∷ (RefreshEnd refresh tree (capped at), line) ∷ []
refresh_calls moment (Ungathered refresh made at line) =
    (RefreshBegin moment, reply.Due refresh) ∷ (RefreshEnd refresh None (capped at), line) ∷ []

abbrev pub refresh_moments : Refreshing → List ℕ
refresh_moments NoBegin = []
refresh_moments (NotDue next) = []
refresh_moments (Crowded count) = []
refresh_moments (Gathered refresh made tree at line) = at ∷ []
refresh_moments (Ungathered refresh made at line) = at ∷ []

abbrev pub refresh_exchanges : Refreshing → List Exchange
refresh_exchanges NoBegin = []
refresh_exchanges (NotDue next) = []
refresh_exchanges (Crowded count) = []
refresh_exchanges (Gathered refresh made tree at line) = made
refresh_exchanges (Ungathered refresh made at line) = made

-- what is gathered comes of the root document
abbrev pub IsGathered : Target → Refreshing → Type 0
IsGathered root NoBegin = Unit {0}
IsGathered root (NotDue next) = Unit {0}
IsGathered root (Crowded count) = Unit {0}
IsGathered root (Gathered refresh made tree at line) = Brings root made tree
IsGathered root (Ungathered refresh made at line) = Asks root made

-- whether the request can be admitted then
abbrev pub refreshed_by : Refreshing → Refreshed
refreshed_by NoBegin = refreshed.Memory
refreshed_by (NotDue next) = refreshed.Ready
refreshed_by (Crowded count) = refreshed.Full count
refreshed_by (Gathered refresh made tree at line) = refreshed.Ready
refreshed_by (Ungathered refresh made at line) = refreshed.Memory

-- what passes in a refresh, and how it goes
pub record Refreshes (root : Target) (moment : ℕ) (d : Doing) (result : Refreshed) : Type 0 where
  pub how : Refreshing
  pub gathered : IsGathered root how
  pub is : d ≡ record {
    bytes = [];
    moments = refresh_moments how;
    exchanges = refresh_exchanges how;
    written = [];
    calls = refresh_calls moment how;
  }
  pub result_is : result ≡ refreshed_by how
