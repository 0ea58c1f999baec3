-- Chains of the content URLs of starts. URLs stand in buckets by their host, port and path. Of each bucket the place of
-- the last URL is known, and of each URL the place of the one before it in its bucket.
use Rattle.std.specs.Prelude.{◌≡◌, ℕ, ◌+◌, ◌-◌, ◌*◌, ◌%◌, ◌^◌, ◌<◌, ◌≤◌, Bool, nat_lt, ◌&&◌, ◌||◌, List, [], ◌∷◌, ◌++◌}
use Rattle.std.specs.Prelude.{length, fold, set, get_or, slice_get, None, Some, IfSome}
use Rattle.std.specs.List.{list_any}
use Rattle.std.specs.VecDeque.{deque_capacity, deque_len}
use Rattle.std.specs.declared.alloc.Global.{Global}
use Rattle.std.specs.declared.option.Option.{Option}
use Rattle.std.specs.declared.vec.Vec.{Vec}
use Rattle.cdni_base.specs.Key.{KeyParts}
use Rattle.epochs.specs.declared.chains.Chains.{Chains}
use Rattle.epochs.specs.declared.chains.Place.{Place}
use Rattle.epochs.specs.declared.chains.TheConstants.{BUCKETS}
use Rattle.epochs.specs.declared.epochs_list.Start.{Start}
use Rattle.trigger_command.specs.Selection.{is_ccid, pattern_hits, url_hits}
use Rattle.trigger_command.specs.declared.selection.UrlItem.{UrlItem}

-- a number that these bytes give, behind another
abbrev pub mixed : ℕ → List ℕ → ℕ
mixed number bytes = fold (λ so_far byte. (so_far * 31 + byte) % 2 ^ 64) number bytes

-- the bucket of the URLs of this host, port and path
abbrev pub bucket_of : List ℕ → ℕ → List ℕ → ℕ
bucket_of host port path = mixed (mixed port host) path % BUCKETS

abbrev pub url_bucket : UrlItem → ℕ
url_bucket url = bucket_of url.target.host url.target.port url.target.path

-- where a place stands among all places: first by its epoch, and then by its number
abbrev pub rank : ℕ → ℕ → ℕ
rank epoch item = epoch * 2 ^ 64 + item

abbrev pub place_rank : Place → ℕ
place_rank place = rank place.epoch place.item

-- the URL at this place, of a start after an epoch up to which none is in a chain
pub record IsUrl (starts : List Start) (unchained epoch item : ℕ) (url : UrlItem) : Type 0 where
  pub k : ℕ
  pub start : Start
  pub at : slice_get starts k ≡ Some start
  pub epoch_is : start.epoch ≡ epoch
  pub chained : unchained < epoch
  pub within : item < 2 ^ 64
  pub there : slice_get start.selection.content_urls item ≡ Some url

-- the place is not above this one
abbrev pub IsUpTo : ℕ → Option Place → Type 0
IsUpTo number None = ⊥
IsUpTo number (Some place) = number ≤ place_rank place

-- This is the last place below this one of a URL in this bucket: no other such place is above it, and where its start
-- is known and in a chain, there is a URL, and it is in the bucket.
pub record IsLast (starts : List Start) (forgotten unchained bucket bound : ℕ) (last : Option Place) : Type 0 where
  pub none_above : (epoch item : ℕ) (url : UrlItem) → IsUrl starts unchained epoch item url → url_bucket url ≡ bucket
      → rank epoch item < bound → IsUpTo (rank epoch item) last
  pub below : IfSome last (λ place. place_rank place < bound)
  pub fits : IfSome last (λ place. place.item < 2 ^ 64)
  pub there : IfSome last (λ place. forgotten < place.epoch → unchained < place.epoch
      → (url : UrlItem) × IsUrl starts unchained place.epoch place.item url × (url_bucket url ≡ bucket))

-- epochs rise by one, from the one after this on
abbrev pub AreNumbered : ℕ → List Start → Type 0
AreNumbered before [] = Unit {0}
AreNumbered before (start ∷ starts) = (start.epoch ≡ before + 1) × AreNumbered (before + 1) starts

-- the last epoch before the starts that are known
abbrev pub forgotten_of : List Start → ℕ → ℕ
forgotten_of starts newest = newest - length starts

-- the places of the URLs before those of a start
abbrev pub PlaceList : Type 0
PlaceList = Vec (Option Place) Global

-- the chains hold all content URLs of the known starts after an epoch
pub record AreChained (starts : List Start) (links : List PlaceList) (last : List (Option Place))
    (newest unchained : ℕ) : Type 0 where
  pub long : length starts ≤ newest
  pub numbered : AreNumbered (forgotten_of starts newest) starts
  pub as_many : length links ≡ length starts
  pub buckets : length last ≡ BUCKETS
  pub fits : (k : ℕ) (start : Start) → slice_get starts k ≡ Some start → length start.selection.content_urls < 2 ^ 64
  pub each : (k item : ℕ) (start : Start) (list : PlaceList) (url : UrlItem) → slice_get starts k ≡ Some start
      → slice_get links k ≡ Some list → unchained < start.epoch → slice_get start.selection.content_urls item ≡ Some url
      → (before : Option Place) × (slice_get list.items item ≡ Some before)
      × IsLast starts (forgotten_of starts newest) unchained (url_bucket url) (rank start.epoch item) before
  pub lasts : (bucket : ℕ) (place : Option Place) → slice_get last bucket ≡ Some place
      → IsLast starts (forgotten_of starts newest) unchained bucket (rank (newest + 1) 0) place

-- each URL of a start is put at the end of its bucket's chain, from the one of this number on: the last places of all
-- buckets then, and the places before these URLs
abbrev pub chained : ℕ → ℕ → List UrlItem → List (Option Place) → List (Option Place)
    → List (Option Place) × List (Option Place)
chained epoch item [] last list = (last, list)
chained epoch item (url ∷ urls) last list = chained epoch (item + 1) urls
    (set last (url_bucket url) (Some (record { epoch = epoch; item = item })))
    (list ++ get_or last (url_bucket url) None ∷ [])

-- a start after an epoch has a content URL of this key
abbrev pub url_stale : List Start → ℕ → KeyParts → Bool
url_stale starts begun key = list_any (λ start. nat_lt begun start.epoch
    && list_any (url_hits key) start.selection.content_urls) starts

-- a start after an epoch hits by a pattern or a ccid
abbrev pub other_stale : List Start → ℕ → KeyParts → Option (List ℕ) → Bool
other_stale starts begun key ccid = list_any (λ start. nat_lt begun start.epoch
    && (list_any (pattern_hits key) start.selection.content_patterns || list_any (is_ccid ccid) start.selection.ccids))
    starts

-- there are places for so many starts
abbrev pub HasRoom : Chains → ℕ → Type 0
HasRoom chains n = (n ≤ deque_capacity chains.starts - deque_len chains.starts)
    × (n ≤ deque_capacity chains.links - deque_len chains.links)

-- the chains hold all content URLs of the known starts after an epoch
abbrev pub IsWhole : Chains → ℕ → ℕ → Type 0
IsWhole chains newest unchained = AreChained chains.starts.items chains.links.items chains.last.items newest unchained
