-- What is kept of fetches, and the fetches that are open.
use Rattle.std.specs.Prelude.{◌≡◌, ℕ, ◌+◌, ◌≤◌, max, min, nat_le, Bool, true, false, not, ◌||◌, ◌⊎◌, take, All, Contains, List, ◌∷◌, [], ◌++◌, filter, length, map, None, Some, is_some}
use Rattle.std.specs.Option.{option_map}
use Rattle.std.specs.declared.option.Option.{Option}
use Rattle.epochs.specs.EpochsList.{Known, is_stale, past}
use Rattle.epochs.specs.declared.epochs_list.Start.{Start}
use Rattle.object_cache.specs.ObjectTable as objects
use Rattle.object_cache.specs.declared.object.Object.{Object}
use Rattle.trigger_command.specs.Selection.{hits}
use Rattle.trigger_command.specs.declared.selection.Selection.{Selection}
use Rattle.upstream_gate.specs.declared.outcome.Outcome.{Outcome}
use Rattle.history.specs.Kept.{gained, with_gained}
use Rattle.history.specs.World.{Kept}
use Rattle.history.specs.declared.begun.Fetching.{Fetching}
use Rattle.shelf.specs.Open.{AreRising, AreUpTo, unnamed}
use Rattle.shelf.specs.declared.open.Open.{Open}
use Rattle.shelf.specs.declared.kept_shelf.Flight.{Flight}
use Rattle.shelf.specs.declared.kept_shelf.Launched.{Launched}

-- the most bytes that are kept, the kept objects, the least recently used first, what is in memory: the kept objects and
-- those that starts have hit and that have not left yet; the open fetches, in order, how many were opened, and how many
-- triggers started
pub record ShelfView : Type 0 where
  pub limit : ℕ
  pub kept : List Kept
  pub held : List Kept
  pub fetches : List (Open Flight)
  pub fetched : ℕ
  pub starts : ℕ

-- what an object of the table is
abbrev pub kept_object : Object → Kept
kept_object object = record {
  fetch = object.fetch;
  key = object.key;
  ccid = object.ccid;
  kind = object.kind;
  body = object.body;
}

-- nothing of these is new
abbrev pub IsPartOf : List Kept → List Kept → Type 0
IsPartOf new old = All (Contains old) new

-- nothing of these is new but what is kept
abbrev pub IsPartOfOrKept : List Kept → List Kept → List Kept → Type 0
IsPartOfOrKept new old kept = All (λ one. Contains old one ⊎ Contains kept one) new

abbrev pub opened : ShelfView → ℕ → Fetching → ShelfView
opened s pass fetching = record s {
  fetches = s.fetches ++ record {
    number = s.fetched + 1;
    pass = pass;
    what = record { fetching = fetching; hit = false };
  } ∷ [];
  fetched = s.fetched + 1;
}

-- what is kept of an open fetch that ended so
abbrev pub gain : ℕ → List Kept → Open Flight → Outcome → Option Kept
gain limit kept flight outcome =
    gained limit flight.what.hit kept flight.number flight.what.fetching outcome

abbrev pub is_gained : ℕ → List Kept → Open Flight → Outcome → Bool
is_gained limit kept flight outcome = is_some (gain limit kept flight outcome)

abbrev pub brought : ℕ → List Kept → Open Flight → Outcome → List Kept
brought limit kept flight outcome = with_gained limit kept (gain limit kept flight outcome)

abbrev pub end_reply : ShelfView → Outcome → Option (Open Flight) → Option Bool
end_reply s outcome flight = option_map (λ one. is_gained s.limit s.kept one outcome) flight

abbrev pub end_after : ShelfView → ℕ → ℕ → Outcome → Option (Open Flight) → ShelfView
end_after s pass fetch outcome None = s
end_after s pass fetch outcome (Some flight) = record s {
  fetches = unnamed fetch pass s.fetches;
  kept = brought s.limit s.kept flight outcome;
}

-- ---- the start of a trigger

-- the part of a selection that selects content (RFC 8007, section 5.2.1)
abbrev pub content_of : Selection → Selection
content_of selection = record selection { metadata_urls = []; metadata_patterns = [] }

-- what its selection does not hit stays (RFC 8007, section 5.2.1)
abbrev pub unhit : Selection → List Kept → List Kept
unhit selection kept = filter (λ one. not (hits selection one.key one.ccid)) kept

-- a start has hit it, or this one does
abbrev pub is_struck : Selection → Flight → Bool
is_struck selection flight = flight.hit || hits selection flight.fetching.key flight.fetching.ccid

abbrev pub struck_flight : Selection → Flight → Flight
struck_flight selection flight = record flight { hit = is_struck selection flight }

-- an open fetch is marked where its selection hits it
abbrev pub struck : Selection → Open Flight → Open Flight
struck selection one = record one { what = struck_flight selection one.what }

abbrev pub start_after : ShelfView → Selection → ShelfView
start_after s selection = record s {
  kept = unhit selection s.kept;
  fetches = map (struck selection) s.fetches;
  starts = s.starts + 1;
}

-- ---- what starts have hit, of what is in the table and open

-- a start has hit the object, of those after the last one when its fetch was opened and after the last one with which all
-- objects were tried
abbrev pub is_gone : List Start → ℕ → Object → Bool
is_gone starts noted object = is_stale starts (max object.begun noted) object.key object.ccid

-- no start is left that was not tried on an object of the table since its fetch was opened or it was used
abbrev pub was_tried : ℕ → Option Object → Bool
was_tried newest None = true
was_tried newest (Some object) = nat_le newest object.begun

-- of the starts that these have not all been tried with, those up to this one were, and hit none of them
abbrev pub AreTried : List Start → ℕ → ℕ → List Object → Type 0
AreTried starts noted aimed objects = All (λ object. is_gone starts noted object ≡ is_gone starts aimed object) objects

-- the other objects are kept
abbrev pub kept_in : List Start → ℕ → List Object → List Kept
kept_in starts noted objects = map kept_object (filter (λ object. not (is_gone starts noted object)) objects)

-- a start has hit what an open fetch fetches
abbrev pub is_hit : List Start → Launched → Bool
is_hit starts launched = is_stale starts launched.begun launched.fetching.key launched.fetching.ccid

-- an open fetch as it is seen
abbrev pub flight_of : List Start → Open Launched → Open Flight
flight_of starts one = record {
  number = one.number;
  pass = one.pass;
  what = record { fetching = one.what.fetching; hit = is_hit starts one.what };
}

-- ---- which starts are known

-- the fetches of these objects were opened before a start after this one
abbrev pub AreUpToEpoch : ℕ → List Object → Type 0
AreUpToEpoch newest [] = Unit {0}
AreUpToEpoch newest (object ∷ objects) = (object.begun ≤ newest) × AreUpToEpoch newest objects

-- the last starts when they were opened do not fall, and are between these
abbrev pub AreBegun : ℕ → ℕ → List (Open Launched) → Type 0
AreBegun low high [] = low ≤ high
AreBegun low high (one ∷ others) = (low ≤ one.what.begun) × AreBegun one.what.begun high others

-- the least of them, or the newest start where nothing is open
abbrev pub least_begun : ℕ → List (Open Launched) → ℕ
least_begun newest [] = newest
least_begun newest (one ∷ others) = min one.what.begun (least_begun newest others)

-- the last start that no open fetch has to be tried with, nor, where there is an object, the objects
abbrev pub least_needed : ℕ → ℕ → List Object → List (Open Launched) → ℕ
least_needed newest noted [] flights = least_begun newest flights
least_needed newest noted (object ∷ objects) flights = min (least_begun newest flights) noted

-- Each open fetch has a place in the table. Their numbers rise up to the count, and the starts when they were opened do
-- not fall. A start is known only while an open fetch was opened before it, or objects have not been tried with it. A walk
-- tries each object with the starts up to the one that it aims at.
pub record IsShelf (table : objects.Kept) (flights : List (Open Launched)) (fetched : ℕ) (known : Known) (noted aimed : ℕ)
    : Type 0 where
  pub room : length flights ≤ table.spare
  pub numbered : AreUpTo fetched flights
  pub rising : AreRising 0 flights
  pub begun : AreBegun 0 known.newest flights
  pub up_to : AreUpToEpoch known.newest table.objects
  pub aim : (noted ≤ aimed) × (aimed ≤ known.newest)
  pub tried : AreTried known.starts noted aimed (take table.passed table.objects)
  pub settled : past (least_needed known.newest noted table.objects flights) known.starts ≡ known.starts
