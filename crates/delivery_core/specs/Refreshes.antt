-- The refreshes that are open, and the starts since each began.
use Rattle.std.specs.Prelude.{ℕ, ◌+◌, ◌-◌, ◌≤◌, Bool, nat_lt, ◌||◌, List, [], ◌∷◌, ◌++◌, drop, length, map, find, if◌then◌else◌}
use Rattle.std.specs.List.{list_any}
use Rattle.std.specs.Option.{option_map}
use Rattle.std.specs.declared.option.Option.{Option}
use Rattle.cdni_base.specs.Key.{KeyParts}
use Rattle.trigger_command.specs.Selection.{hits_metadata}
use Rattle.trigger_command.specs.declared.selection.Selection.{Selection}
use Rattle.shelf.specs.declared.open.Open.{Open}
use Rattle.delivery_core.specs.declared.refreshes.Ended.{Ended}
use Rattle.delivery_core.specs.declared.refreshes.Noted.{Noted}
use Rattle.delivery_core.specs.declared.refreshes.Placed.{Placed}

-- an open refresh: the moment at which it began, and the starts since that selected metadata, in order
pub record Refreshing : Type 0 where
  pub moment : ℕ
  pub since : List Noted

-- the open refreshes, in order, how many were begun, how many starts there were, and how many more can be noted without
-- memory
pub record RefreshesView : Type 0 where
  pub refreshes : List (Open Refreshing)
  pub refreshed : ℕ
  pub started : ℕ
  pub spare : ℕ

-- ---- starts

-- it has a metadata URL or a metadata pattern (RFC 8007, section 5.2.1)
abbrev pub selects_metadata : Selection → Bool
selects_metadata selection =
    nat_lt 0 (length selection.metadata_urls) || nat_lt 0 (length selection.metadata_patterns)

-- the part that selects metadata
abbrev pub metadata_of : Selection → Selection
metadata_of selection = record selection { content_urls = []; ccids = []; content_patterns = [] }

-- what an open refresh has to know of a start
abbrev pub noted_of : ℕ → Selection → List Noted
noted_of trigger selection = if selects_metadata selection
    then record { trigger = trigger; selection = metadata_of selection } ∷ [] else []

-- the trigger of the first of these starts that hits one of the documents
abbrev pub first_noted : List KeyParts → List Noted → Option ℕ
first_noted resources since = option_map (λ start. start.trigger)
    (find (λ start. list_any (hits_metadata start.selection) resources) since)

-- ---- open refreshes

abbrev pub begun : RefreshesView → ℕ → ℕ → RefreshesView
begun r pass moment = record r {
  refreshes = r.refreshes ++ record {
    number = r.refreshed + 1;
    pass = pass;
    what = record { moment = moment; since = [] };
  } ∷ [];
  refreshed = r.refreshed + 1;
}

-- these starts since its begin more
abbrev pub with_starts : List Noted → Open Refreshing → Open Refreshing
with_starts starts one = record one { what = record one.what { since = one.what.since ++ starts } }

-- a trigger starts, of which the open refreshes have to know this
abbrev pub noted : RefreshesView → List Noted → RefreshesView
noted r starts = record r { refreshes = map (with_starts starts) r.refreshes; started = r.started + 1 }

-- when an open refresh began that has brought these documents, and the first trigger since that hits one of them
abbrev pub end_reply : List KeyParts → Option (Open Refreshing) → Option Ended
end_reply resources found =
    option_map (λ one. record { moment = one.what.moment; stale = first_noted resources one.what.since }) found

-- ---- places

-- an open refresh as it is kept: the starts since its begin are those from its place on, where the first has this place
abbrev pub with_since : ℕ → List Noted → Open Placed → Open Refreshing
with_since first starts one = record {
  number = one.number;
  pass = one.pass;
  what = record { moment = one.what.moment; since = drop (one.what.place - first) starts };
}

-- their places do not fall, and are between these
abbrev pub AreBetween : ℕ → ℕ → List (Open Placed) → Type 0
AreBetween low high [] = low ≤ high
AreBetween low high (one ∷ others) = (low ≤ one.what.place) × AreBetween one.what.place high others

-- the place of the first, or the next place where there is none
abbrev pub least_place : ℕ → List (Open Placed) → ℕ
least_place next [] = next
least_place next (one ∷ others) = one.what.place
