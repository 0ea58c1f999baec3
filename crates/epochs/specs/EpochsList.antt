-- Starts and their epochs.
use Rattle.std.specs.Prelude.{ℕ, ◌+◌, ◌<◌, ◌≤◌, max, Bool, List, []}
use Rattle.std.specs.Prelude.{◌∷◌, ◌++◌, filter, fold, nat_lt, nat_le, ◌&&◌, false}
use Rattle.std.specs.Prelude.{if◌then◌else◌}
use Rattle.std.specs.List.{Any, list_any}
use Rattle.std.specs.declared.option.Option.{Option}
use Rattle.cdni_base.specs.Key.{KeyParts}
use Rattle.epochs.specs.declared.epochs_list.Start.{Start}
use Rattle.trigger_command.specs.Selection.{Hits, hits}
use Rattle.trigger_command.specs.declared.selection.Selection.{Selection}

-- a start after this epoch hits the content of this key, and of this collection where it is of one (RFC 8007, section
-- 5.2.1)
abbrev pub IsStale : List Start → ℕ → KeyParts → Option (List ℕ) → Type 0
IsStale starts begun key ccid = Any (λ start. (begun < start.epoch) × Hits start.selection key ccid) starts

-- the same as a test that computes
abbrev pub is_stale : List Start → ℕ → KeyParts → Option (List ℕ) → Bool
is_stale starts begun key ccid = list_any (λ start. nat_lt begun start.epoch && hits start.selection key ccid) starts

-- the last epoch, the greatest number up to which starts were forgotten, and the starts that are known, the oldest
-- first
pub record Known : Type 0 where
  pub newest : ℕ
  pub settled : ℕ
  pub starts : List Start

-- and for how many starts there are places
pub record EpochsView : Type 0 where
  pub known : Known
  pub spare : ℕ

abbrev pub nothing : Known
nothing = record { newest = 0; settled = 0; starts = [] }

-- what happens to what is known: something starts, or the starts up to an epoch are forgotten
pub data Event : Type 0 where
  begins : Selection → Event
  forgets : ℕ → Event

-- the start that comes after this epoch
abbrev pub next_start : ℕ → Selection → Start
next_start newest selection = record { epoch = newest + 1; selection = selection }

-- the starts after this epoch
abbrev pub past : ℕ → List Start → List Start
past oldest starts = filter (λ start. nat_lt oldest start.epoch) starts

abbrev pub after : Known → Event → Known
after known (begins selection) = record {
  newest = known.newest + 1;
  settled = known.settled;
  starts = known.starts ++ next_start known.newest selection ∷ [];
}
after known (forgets oldest) = record {
  newest = known.newest;
  settled = max known.settled oldest;
  starts = past oldest known.starts;
}

-- what is known after these events, the oldest first
abbrev pub known_after : List Event → Known
known_after events = fold after nothing events

-- all starts among these events, behind those that came before them and had epochs up to this one
abbrev pub starts_from : ℕ → List Start → List Event → List Start
starts_from newest starts [] = starts
starts_from newest starts (begins selection ∷ events) =
    starts_from (newest + 1) (starts ++ next_start newest selection ∷ []) events
starts_from newest starts (forgets oldest ∷ events) = starts_from newest starts events

abbrev pub all_starts : List Event → List Start
all_starts events = starts_from 0 [] events

-- epochs rise, from above the first of these numbers up to the second
abbrev pub AreRising : ℕ → ℕ → List Start → Type 0
AreRising low high [] = low ≤ high
AreRising low high (start ∷ starts) = (low < start.epoch) × AreRising start.epoch high starts

-- what is left where the starts up to this epoch leave from the front
abbrev pub behind_front : ℕ → List Start → List Start
behind_front oldest [] = []
behind_front oldest (start ∷ starts) =
    if nat_lt oldest start.epoch then start ∷ starts else behind_front oldest starts

-- the first start has at most this epoch
abbrev pub is_front_up_to : ℕ → List Start → Bool
is_front_up_to oldest [] = false
is_front_up_to oldest (start ∷ starts) = nat_le start.epoch oldest
