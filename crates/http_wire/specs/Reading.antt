-- Reading one head.
use Rattle.std.specs.Prelude.{◌≡◌, ◌≢◌, ℕ, ◌<◌, ◌≤◌, List, [], ◌++◌, length, take, ◌⊎◌}
use Rattle.std.specs.declared.option.Option.{Option}
use Rattle.std.specs.Io.KnownBytes.{IsAtEnd}
use Rattle.edge_base.specs.Causes.{Rose}
use Rattle.http_wire.specs.Moves.{Moves, IsToCome}
use Rattle.http_wire.specs.declared.limits.TheConstants.{HEAD_MAX}
use Rattle.http_wire.specs.declared.reading.HeadRead.{HeadRead}
use Rattle.http_wire.specs.declared.reading.HeadRead.TheVariants as read
use Rattle.http_wire.specs.declared.reading.Tried.{Tried}
use Rattle.http_wire.specs.declared.reading.Tried.TheVariants as tried

-- Spells bytes head: the bytes are this head within the limits. HasNone bytes: they begin with no such head.
-- IsOpen bytes: they end within a head. IsOver bytes: no bytes can follow with which they begin with such a head.
module _ {H : Type 0} (Spells : List ℕ → H → Type 0) (HasNone IsOpen IsOver : List ℕ → Type 0) where
  -- no continuation is such a head, or the bytes are as many as one may have
  abbrev pub IsHopeless : List ℕ → Type 0
  IsHopeless bytes = IsOver bytes ⊎ (length bytes ≡ HEAD_MAX)

  -- the bytes are so many, begin with no head, and are hopeless
  pub record IsBadHead (bytes : List ℕ) (taken : ℕ) : Type 0 where
    pub count : length bytes ≡ taken
    pub none : HasNone bytes
    pub cause : IsHopeless bytes

  -- the bytes are so many, one at least, and end within a head
  pub record IsCutShort (bytes : List ℕ) (taken : ℕ) : Type 0 where
    pub count : length bytes ≡ taken
    pub begun : 0 < taken
    pub none : HasNone bytes
    pub inside : IsOpen bytes

  -- The head's bytes were taken, and what follows them is kept; or there was no head, and all that came is kept.
  abbrev pub ReadsHead : Option (List ℕ) → Option (List ℕ) → List ℕ → List ℕ → HeadRead H → Type 0
  ReadsHead old new before after (read.Head head) = (bytes : List ℕ) × Moves old new before after bytes
      × Spells bytes head
  ReadsHead old new before after read.Ended = Moves old new before after [] × IsAtEnd new × (after ≡ [])
  ReadsHead old new before after (read.CutShort taken) = Moves old new before after [] × IsAtEnd new
      × IsCutShort after taken
  ReadsHead old new before after (read.BadHead taken) = Moves old new before after [] × IsBadHead after taken
  ReadsHead old new before after read.ReadFault = Moves old new before after []
  ReadsHead old new before after read.Memory = Moves old new before after []

  -- what a try at these bytes gives: the head at their front and its length, or why there is none yet
  abbrev pub Tries : List ℕ → Tried H → Type 0
  Tries bytes (tried.Whole head size) = (size ≤ length bytes) × Spells (take size bytes) head
  Tries bytes tried.More = HasNone bytes × IsOpen bytes
  Tries bytes tried.Never = HasNone bytes × IsOver bytes
  Tries bytes tried.Memory = Unit {0}

  -- the same, where nothing is said of no bytes but that more are to come
  abbrev pub TriesSome : List ℕ → Tried H → Type 0
  TriesSome bytes (tried.Whole head size) = Tries bytes (tried.Whole head size)
  TriesSome bytes tried.More = 0 < length bytes → Tries bytes tried.More
  TriesSome bytes tried.Never = Tries bytes tried.Never
  TriesSome bytes tried.Memory = Unit {0}

-- the answer is this head, or the source failed, or no memory was found
abbrev pub IsHeadOrFault : {H : Type 0} → H → HeadRead H → Type 0
IsHeadOrFault head (read.Head other) = other ≡ head
IsHeadOrFault head read.ReadFault = Unit {0}
IsHeadOrFault head read.Memory = Unit {0}
IsHeadOrFault head read.Ended = ⊥
IsHeadOrFault head (read.CutShort taken) = ⊥
IsHeadOrFault head (read.BadHead taken) = ⊥

-- where the bytes to come begin with a head within the limits, it is the answer
abbrev pub FindsHead : {H : Type 0} → (List ℕ → H → Type 0) → Option (List ℕ) → List ℕ → HeadRead H → Type 0
FindsHead {H} Spells old before result =
    (bytes : List ℕ) (rest : List ℕ) (head : H) → Spells bytes head → IsToCome old before (bytes ++ rest)
    → IsHeadOrFault head result

-- the count of faults did not fall; it rose where the source failed, and is the same where it did not
pub record HasHeadCause {H : Type 0} (before now : ℕ) (result : HeadRead H) : Type 0 where
  pub later : before ≤ now
  pub failed : result ≡ read.ReadFault → Rose before now
  pub answered : result ≢ read.ReadFault → now ≡ before
