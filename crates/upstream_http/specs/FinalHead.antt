-- The head of a final answer, behind those of interim answers (RFC 9110, section 15.2).
use Rattle.std.specs.Prelude.{◌≡◌, ◌≢◌, ◌⊎◌, ℕ, ◌+◌, ◌<◌, ◌≤◌, List, [], ◌∷◌, ◌++◌, length}
use Rattle.std.specs.List.{flat_map}
use Rattle.std.specs.declared.option.Option.{Option}
use Rattle.std.specs.Io.KnownBytes.{Consumes, IsAtEnd}
use Rattle.httparse.specs.Grammar.{MayBecomeResponse}
use Rattle.edge_base.specs.Causes.{Rose}
use Rattle.http_wire.specs.Body.{capped}
use Rattle.http_wire.specs.Moves.{Moves}
use Rattle.http_wire.specs.Reading.{IsHopeless}
use Rattle.http_wire.specs.Response.{ResponseParts, SpellsResponse, HasNoResponseHead, IsHopelessResponse}
use Rattle.upstream_http.specs.declared.final_head.TheConstants.{INTERIM_MAX, FINAL_MIN}
use Rattle.upstream_http.specs.declared.final_head.FinalRead.{FinalRead}
use Rattle.upstream_http.specs.declared.final_head.FinalRead.TheVariants as final

-- the bytes of a head, and what they spell
pub record SpelledHead : Type 0 where
  pub text : List ℕ
  pub parts : ResponseParts

-- heads within the limits of answers with a status below 200
abbrev pub AreInterim : List SpelledHead → Type 0
AreInterim [] = Unit {0}
AreInterim (head ∷ heads) = SpellsResponse head.text head.parts × (head.parts.status < FINAL_MIN) × AreInterim heads

-- their bytes, one after the other
abbrev pub heads_text : List SpelledHead → List ℕ
heads_text heads = flat_map (λ head. head.text) heads

-- the bytes are at most 16 heads of interim answers, and then the head of a final one
pub record IsFinalHead (bytes : List ℕ) (head : ResponseParts) : Type 0 where
  pub interim : List SpelledHead
  pub text : List ℕ
  pub are_interim : AreInterim interim
  pub few : length interim ≤ INTERIM_MAX
  pub spells : SpellsResponse text head
  pub final : FINAL_MIN ≤ head.status
  pub is : bytes ≡ heads_text interim ++ text

-- these bytes are some heads of interim answers, behind which those stand
pub record BeginsWith (interim : List SpelledHead) (bytes rest : List ℕ) : Type 0 where
  pub are_interim : AreInterim interim
  pub is : bytes ≡ heads_text interim ++ rest

-- bytes that begin with no head within the limits, and can't
abbrev pub IsNoHead : List ℕ → Type 0
IsNoHead bytes = HasNoResponseHead bytes
    × IsHopeless SpellsResponse HasNoResponseHead MayBecomeResponse IsHopelessResponse bytes

-- nothing, or bytes that end within a head
abbrev pub IsCutHead : List ℕ → Type 0
IsCutHead bytes = (bytes ≡ []) ⊎ (HasNoResponseHead bytes × MayBecomeResponse bytes)

-- behind at most 16 heads of interim answers there can be no head, or there is a 17th interim answer
abbrev pub IsBadStart : List ℕ → Type 0
IsBadStart bytes = (interim : List SpelledHead) × (rest : List ℕ) × BeginsWith interim bytes rest
    × (((length interim ≤ INTERIM_MAX) × IsNoHead rest) ⊎ (length interim ≡ INTERIM_MAX + 1))

-- behind at most 16 heads of interim answers the bytes end before the end of a head
abbrev pub IsCutStart : List ℕ → Type 0
IsCutStart bytes = (interim : List SpelledHead) × (rest : List ℕ) × BeginsWith interim bytes rest
    × (length interim ≤ INTERIM_MAX) × IsCutHead rest

-- the head of the final answer, whose bytes and those before it were taken; or why there is none
abbrev pub ReadsFinal : Option (List ℕ) → Option (List ℕ) → List ℕ → FinalRead → Type 0
ReadsFinal old new after (final.Head head taken) = (front : List ℕ) × Moves old new [] after front
    × IsFinalHead front head × (taken ≡ length front)
ReadsFinal old new after (final.Malformed taken) = (bytes : List ℕ) × Consumes old new bytes × IsBadStart bytes
    × (taken ≡ capped (length bytes))
ReadsFinal old new after (final.Cut taken) = (bytes : List ℕ) × Consumes old new bytes × IsAtEnd new
    × IsCutStart bytes × (taken ≡ capped (length bytes))
ReadsFinal old new after final.Failed = (bytes : List ℕ) × Consumes old new bytes
ReadsFinal old new after final.Memory = (bytes : List ℕ) × Consumes old new bytes

-- the count of faults did not fall; it rose where the source failed, and is the same where it did not
pub record HasFinalCause (before now : ℕ) (result : FinalRead) : Type 0 where
  pub later : before ≤ now
  pub failed : result ≡ final.Failed → Rose before now
  pub answered : result ≢ final.Failed → now ≡ before
