-- The table of places.
use Rattle.std.specs.Prelude.{◌≡◌, ℕ, ◌+◌, ◌-◌, ◌/◌, ◌^◌, ◌<◌, ◌≤◌, ◌⊎◌, Bool, true, false, ◌==◌, ◌&&◌, nat_lt, List, [], ◌∷◌, length, slice_get, Option, Some, None, Result, Ok, Err, option_map, if◌then◌else◌}
use Rattle.std.specs.Bool.{beq}
use Rattle.location_acl.specs.declared.ip.Ip.{Ip}
use Rattle.location_acl.specs.declared.ip.Ip.TheVariants.{V4, V6}
use Rattle.location_acl.specs.declared.block.Block.{Block}
use Rattle.location_acl.specs.declared.footprint.Place.{Place}
use Rattle.location_acl.specs.declared.line.PlaceLine.{PlaceLine}
use Rattle.location_acl.specs.declared.table.PlaceFault.{PlaceFault}
use Rattle.location_acl.specs.declared.table.PlaceFault.TheVariants.{BadLine, Memory}
use Rattle.location_acl.specs.Block.{holds}
use Rattle.listing.specs.Word.{parts_at, ◌>>=◌}
use Rattle.location_acl.specs.Line.{AreLines, StopsAt, line_of}

-- Line i is the one that gives an address its place: its block holds the address, no longer block does, and of those as
-- long it is the first.
pub record IsLongest (lines : List PlaceLine) (ip : Ip) (i : ℕ) (line : PlaceLine) : Type 0 where
  pub at : slice_get lines i ≡ Some line
  pub holds_it : holds line.block ip ≡ true
  pub longest : (j : ℕ) (other : PlaceLine) → slice_get lines j ≡ Some other → holds other.block ip ≡ true
      → other.block.length ≤ line.block.length
  pub first : (j : ℕ) (other : PlaceLine) → j < i → slice_get lines j ≡ Some other → holds other.block ip ≡ true
      → other.block.length < line.block.length

-- the place of an address: that of this line, or neither a number nor a country where no block holds it
abbrev pub GivesPlace : List PlaceLine → Ip → Place → Type 0
GivesPlace lines ip place =
    ((i : ℕ) × (line : PlaceLine) × IsLongest lines ip i line
    × (place ≡ record { ip = ip; asn = line.asn; country = line.country }))
    ⊎ (((j : ℕ) (other : PlaceLine) → slice_get lines j ≡ Some other → holds other.block ip ≡ true → ⊥)
    × (place ≡ record { ip = ip; asn = None; country = None }))

-- what a text is read as: its lines, or the first line that does not read
abbrev pub ReadsTable : List ℕ → Result (List PlaceLine) PlaceFault → Type 0
ReadsTable bytes (Ok lines) = AreLines bytes lines
ReadsTable bytes (Err (BadLine number)) = StopsAt bytes number
ReadsTable bytes (Err Memory) = Unit {0}

-- the kind of an address, how many of its first bits are looked at, and these bits
abbrev pub key_of : Ip → ℕ → Bool × ℕ × ℕ
key_of (V4 number) length = (false, length, number / 2 ^ (32 - length))
key_of (V6 number) length = (true, length, number / 2 ^ (128 - length))

abbrev pub same_key : Bool × ℕ × ℕ → Bool × ℕ × ℕ → Bool
same_key a b = (beq a.0 b.0 && a.1 == b.1) && a.2 == b.2

-- how many bits an address of this kind has
abbrev pub width_of : Ip → ℕ
width_of (V4 number) = 32
width_of (V6 number) = 128

-- the length is one of the block's kind
abbrev pub FitsKind : Block → Type 0
FitsKind block = block.length ≤ width_of block.base

-- the first line with this key, where the lines are counted from this number on
abbrev pub first_with_key : ℕ → List PlaceLine → Bool × ℕ × ℕ → Option ℕ
first_with_key i [] key = None
first_with_key i (line ∷ lines) key =
    if same_key (key_of line.block.base line.block.length) key then Some i else first_with_key (i + 1) lines key

-- the index finds the first line of each key, and knows which lengths there are
pub record IsIndexed (lines : List PlaceLine) (found : Bool × ℕ × ℕ → Option ℕ) (lengths : List Bool) : Type 0 where
  pub firsts : (key : Bool × ℕ × ℕ) → found key ≡ first_with_key 0 lines key
  pub present : (i : ℕ) (line : PlaceLine) → slice_get lines i ≡ Some line
      → slice_get lengths line.block.length ≡ Some true
  pub wide : length lengths ≡ 129
  pub fits : (i : ℕ) (line : PlaceLine) → slice_get lines i ≡ Some line → FitsKind line.block

-- there is no block of this length, or none that has these first bits
abbrev pub IsAbsent : (Bool × ℕ × ℕ → Option ℕ) → List Bool → Ip → ℕ → Type 0
IsAbsent found lengths ip length = (slice_get lengths length ≡ Some false) ⊎ (found (key_of ip length) ≡ None)

-- the first line of a text, and what stands behind its line feed
abbrev pub first_line : List ℕ → Option (PlaceLine × List ℕ)
first_line bytes = parts_at 10 bytes >>= λ parts. option_map (λ line. (line, parts.1)) (line_of parts.0)

-- the better of the best line so far and the next one
abbrev pub longer_of : Ip → Option PlaceLine → PlaceLine → Option PlaceLine
longer_of ip None line = if holds line.block ip then Some line else None
longer_of ip (Some other) line =
    if holds line.block ip && nat_lt other.block.length line.block.length then Some line else Some other
