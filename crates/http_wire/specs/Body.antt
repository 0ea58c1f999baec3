-- Bodies of requests (RFC 9112, section 6).
use Rattle.std.specs.Prelude.{◌≡◌, ℕ, ◌+◌, ◌<◌, ◌≤◌, List, [], ◌∷◌, ◌++◌, ◌-◌, ◌^◌, length, take, drop, min, None, Some, codes}
use Rattle.std.specs.declared.option.Option.{Option}
use Rattle.std.specs.Io.KnownBytes.{IsAtEnd, Keeps}
use Rattle.edge_base.specs.Causes.{Rose}
use Rattle.byte_range.specs.Want.{number_of}
use Rattle.http_wire.specs.Fields.{values_of}
use Rattle.http_wire.specs.Moves.{Moves, IsToCome}
use Rattle.http_wire.specs.declared.body.BodyRead.{BodyRead}
use Rattle.http_wire.specs.declared.body.BodyRead.TheVariants as body
use Rattle.http_wire.specs.declared.body.Framing.{Framing}
use Rattle.http_wire.specs.declared.body.Framing.TheVariants as framing
use Rattle.http_wire.specs.declared.body.PieceRead.{PieceRead}
use Rattle.http_wire.specs.declared.body.PieceRead.TheVariants as piece

-- what one value of Content-Length announces (RFC 9110, section 8.6): one or more digits
abbrev pub length_in : Option ℕ → Framing
length_in None = framing.BadLength
length_in (Some count) = framing.Length count

-- no Content-Length announces no body; it is repeated in no request
abbrev pub length_framing : List (List ℕ) → Framing
length_framing [] = framing.Length 0
length_framing (value ∷ []) = length_in (number_of value)
length_framing (value ∷ other ∷ values) = framing.BadLength

-- a Transfer-Encoding comes before a Content-Length (RFC 9112, section 6.3)
abbrev pub framing_in : List (List ℕ) → List (List ℕ) → Framing
framing_in [] lengths = length_framing lengths
framing_in (coding ∷ codings) lengths = framing.Coded

-- how the length of the body of a request is told
abbrev pub framing_of : List (List ℕ × List ℕ) → Framing
framing_of headers =
    framing_in (values_of (codes "transfer-encoding") headers) (values_of (codes "content-length") headers)

-- these bytes were taken, and stand now behind the text
pub record Passes (old new : Option (List ℕ)) (before after text longer bytes : List ℕ) : Type 0 where
  pub moves : Moves old new before after bytes
  pub grown : longer ≡ text ++ bytes

-- so many bytes went from the front of the inbox to the end of the text: all that were there, or so many as were wanted
pub record MovesPiece (most count : ℕ) (before after text longer : List ℕ) : Type 0 where
  pub is : count ≡ min most (length before)
  pub passed : after ≡ drop count before
  pub grown : longer ≡ text ++ take count before

-- so many bytes were passed; or fewer, since the source ended, failed or no memory was found
abbrev pub ReadsPiece : ℕ → Option (List ℕ) → Option (List ℕ) → List ℕ → List ℕ → List ℕ → List ℕ → PieceRead → Type 0
ReadsPiece count old new before after text longer piece.Whole =
    (bytes : List ℕ) × Passes old new before after text longer bytes × (length bytes ≡ count)
ReadsPiece count old new before after text longer piece.CutShort =
    (bytes : List ℕ) × Passes old new before after text longer bytes × (length bytes < count) × IsAtEnd new
    × (after ≡ [])
ReadsPiece count old new before after text longer piece.ReadFault = (bytes : List ℕ)
    × Passes old new before after text longer bytes
ReadsPiece count old new before after text longer piece.Memory = (bytes : List ℕ)
    × Passes old new before after text longer bytes

-- The body is so many bytes, which were taken; or the source ended after fewer, all of which were taken; or it failed,
-- or no memory was found, after some.
abbrev pub ReadsLength : ℕ → Option (List ℕ) → Option (List ℕ) → List ℕ → List ℕ → BodyRead → Type 0
ReadsLength count old new before after (body.Body text) = Moves old new before after text × (length text ≡ count)
ReadsLength count old new before after (body.CutShort taken) =
    (bytes : List ℕ) × Moves old new before after bytes × (length bytes ≡ taken) × (taken < count) × IsAtEnd new
    × (after ≡ [])
ReadsLength count old new before after body.ReadFault = (bytes : List ℕ) × Moves old new before after bytes
ReadsLength count old new before after body.Memory = (bytes : List ℕ) × Moves old new before after bytes
ReadsLength count old new before after body.Coded = ⊥
ReadsLength count old new before after (body.BadLength taken) = ⊥
ReadsLength count old new before after (body.TooLarge len) = ⊥

-- nothing was read
abbrev pub IsUntouched : Option (List ℕ) → Option (List ℕ) → List ℕ → List ℕ → Type 0
IsUntouched old new before after = Keeps old new × (after ≡ before)

-- where nothing is announced wrong and the length is within the limit, so many bytes are read
abbrev pub ReadsBody : ℕ → Option (List ℕ) → Option (List ℕ) → List ℕ → List ℕ → Framing → BodyRead → Type 0
ReadsBody limit old new before after framing.Coded result = (result ≡ body.Coded) × IsUntouched old new before after
ReadsBody limit old new before after framing.BadLength result = (result ≡ body.BadLength 0)
    × IsUntouched old new before after
ReadsBody limit old new before after (framing.Length count) result =
    (limit < count → (result ≡ body.TooLarge count) × IsUntouched old new before after)
    × (count ≤ limit → ReadsLength count old new before after result)

-- the answer is this body, or the source failed, or no memory was found
abbrev pub IsBodyOrFault : List ℕ → BodyRead → Type 0
IsBodyOrFault text (body.Body other) = other ≡ text
IsBodyOrFault text body.ReadFault = Unit {0}
IsBodyOrFault text body.Memory = Unit {0}
IsBodyOrFault text body.Coded = ⊥
IsBodyOrFault text (body.BadLength taken) = ⊥
IsBodyOrFault text (body.TooLarge len) = ⊥
IsBodyOrFault text (body.CutShort taken) = ⊥

-- where so many bytes are to come, they are the answer
abbrev pub FindsLength : ℕ → Option (List ℕ) → List ℕ → BodyRead → Type 0
FindsLength count old before result =
    (text : List ℕ) (rest : List ℕ) → length text ≡ count → IsToCome old before (text ++ rest)
    → IsBodyOrFault text result

-- where the body announced is within the limit and to come, it is the answer
abbrev pub FindsBody : ℕ → Option (List ℕ) → List ℕ → Framing → BodyRead → Type 0
FindsBody limit old before framing.Coded result = Unit {0}
FindsBody limit old before framing.BadLength result = Unit {0}
FindsBody limit old before (framing.Length count) result = count ≤ limit → FindsLength count old before result

-- a number of bytes, where one above 2^64 - 1 counts as that
abbrev pub capped : ℕ → ℕ
capped n = min n (2 ^ 64 - 1)

-- All bytes up to the source's end were taken; or as many as the limit allows, and more came; or the source failed,
-- or no memory was found, after some.
abbrev pub ReadsToEnd : ℕ → Option (List ℕ) → Option (List ℕ) → List ℕ → List ℕ → BodyRead → Type 0
ReadsToEnd limit old new before after (body.Body text) =
    Moves old new before after text × IsAtEnd new × (after ≡ []) × (length text ≤ limit)
ReadsToEnd limit old new before after (body.TooLarge len) =
    (bytes : List ℕ) × Moves old new before after bytes × (length bytes ≡ limit) × (0 < length after)
    × (len ≡ capped (limit + 1))
ReadsToEnd limit old new before after body.ReadFault = (bytes : List ℕ) × Moves old new before after bytes
ReadsToEnd limit old new before after body.Memory = (bytes : List ℕ) × Moves old new before after bytes
ReadsToEnd limit old new before after body.Coded = ⊥
ReadsToEnd limit old new before after (body.BadLength taken) = ⊥
ReadsToEnd limit old new before after (body.CutShort taken) = ⊥

-- the answer is that the body is too large, or the source failed, or no memory was found
abbrev pub IsTooLargeOrFault : BodyRead → Type 0
IsTooLargeOrFault (body.TooLarge len) = Unit {0}
IsTooLargeOrFault body.ReadFault = Unit {0}
IsTooLargeOrFault body.Memory = Unit {0}
IsTooLargeOrFault (body.Body content) = ⊥
IsTooLargeOrFault body.Coded = ⊥
IsTooLargeOrFault (body.BadLength taken) = ⊥
IsTooLargeOrFault (body.CutShort taken) = ⊥

-- all that is to come is the answer, or that it is above the limit
abbrev pub FindsToEnd : ℕ → Option (List ℕ) → List ℕ → BodyRead → Type 0
FindsToEnd limit old before result = (text : List ℕ) → IsToCome old before text
    → (length text ≤ limit → IsBodyOrFault text result) × (limit < length text → IsTooLargeOrFault result)

-- the count of faults did not fall; it rose where the source failed, and is the same where it did not
pub record HasBodyCause (before now : ℕ) (result : BodyRead) : Type 0 where
  pub later : before ≤ now
  pub failed : result ≡ body.ReadFault → Rose before now
  pub answered : (result ≡ body.ReadFault → ⊥) → now ≡ before

pub record HasPieceCause (before now : ℕ) (result : PieceRead) : Type 0 where
  pub later : before ≤ now
  pub failed : result ≡ piece.ReadFault → Rose before now
  pub answered : (result ≡ piece.ReadFault → ⊥) → now ≡ before
