-- Blocks of addresses (RFC 4632, section 3.1, and RFC 4291, section 2.3).
use Rattle.std.specs.Prelude.{◌≡◌, ℕ, ◌+◌, ◌-◌, ◌*◌, ◌/◌, ◌^◌, ◌<◌, ◌≤◌, Bool, true, false, ◌==◌, ◌&&◌, nat_lt, nat_le, List, ◌∷◌, ◌++◌, length, Option, Some, None, Result, Ok, Err, option_map, option_and_then, if◌then◌else◌}
use Rattle.std.specs.Char.{is_ascii_digit}
use Rattle.std.specs.Str.{all_ascii_digits}
use Rattle.std.specs.Str.Parse.{digits_value}
use Rattle.listing.specs.Word.{parts_at}
use Rattle.listing.specs.Number.{number_of_digits}
use Rattle.location_acl.specs.declared.ip.Ip.{Ip}
use Rattle.location_acl.specs.declared.ip.Ip.TheVariants.{V4, V6}
use Rattle.location_acl.specs.declared.block.Block.{Block}
use Rattle.location_acl.specs.declared.block.BlockFault.{BlockFault}
use Rattle.location_acl.specs.declared.block.BlockFault.TheVariants.{BadAddress, BadLength}
use Rattle.location_acl.specs.Dotted.{dotted_of}
use Rattle.location_acl.specs.Six.{six_of}
use Rattle.location_acl.specs.Ip.{IsAddress}
use Rattle.listing.specs.Fronts.{IsLongestFront}

-- two numbers of so many bits have the same first bits, as many as the length says
abbrev pub has_same_front : ℕ → ℕ → ℕ → ℕ → Bool
has_same_front width length base number = base / 2 ^ (width - length) == number / 2 ^ (width - length)

-- two addresses are of one kind and have the same first bits
abbrev pub is_in_same_block : ℕ → Ip → Ip → Bool
is_in_same_block length (V4 base) (V4 number) = has_same_front 32 length base number
is_in_same_block length (V6 base) (V6 number) = has_same_front 128 length base number
is_in_same_block length (V4 base) (V6 number) = false
is_in_same_block length (V6 base) (V4 number) = false

-- the address is of the block's kind and has its first bits
abbrev pub holds : Block → Ip → Bool
holds block ip = is_in_same_block block.length block.base ip

-- the address of this kind that the text is
abbrev pub base_of : Bool → List ℕ → Option Ip
base_of six text = if six then option_map V6 (six_of text) else option_map V4 (dotted_of text)

-- the number that 1 to 3 decimal digits write; zeros may lead
abbrev pub length_of : List ℕ → Option ℕ
length_of text = if nat_lt 0 (length text) && nat_le (length text) 3 then number_of_digits text else None

-- the largest length
abbrev pub most_of : Bool → ℕ
most_of six = if six then 128 else 32

-- the number of so many digits with one more behind them; none where no length that fits begins so
abbrev pub length_with : Bool → ℕ → ℕ → ℕ → Option ℕ
length_with six number count byte =
    if nat_lt count 3 && (is_ascii_digit byte && nat_le (number * 10 + (byte - 48)) (most_of six))
    then Some (number * 10 + (byte - 48)) else None

-- the block of these two texts
abbrev pub block_from : Bool → Option Ip → Option ℕ → Option Block
block_from six None length = None
block_from six (Some base) None = None
block_from six (Some base) (Some length) = if nat_le length (most_of six)
    then Some (record { base = base; length = length }) else None

-- the block that the text is: an address of this kind, a `/`, and a length of at most 32 or 128
abbrev pub block_of : Bool → List ℕ → Option Block
block_of six text =
    option_and_then (λ parts. block_from six (base_of six parts.0) (length_of parts.1)) (parts_at 47 text)

-- the address is an IPv6 one where this is true, and else an IPv4 one
abbrev pub IsOfKind : Bool → Ip → Type 0
IsOfKind true (V6 number) = Unit {0}
IsOfKind false (V4 number) = Unit {0}
IsOfKind true (V4 number) = ⊥
IsOfKind false (V6 number) = ⊥

-- 1 to 3 decimal digits, and their number; zeros may lead
pub record IsLength (text : List ℕ) (n : ℕ) : Type 0 where
  pub some : 1 ≤ length text
  pub few : length text ≤ 3
  pub digits : all_ascii_digits text ≡ true
  pub valued : n ≡ digits_value 10 text

-- a length of at most 32, or 128 of an IPv6 address
abbrev pub IsFitting : Bool → List ℕ → Type 0
IsFitting six text = (n : ℕ) × IsLength text n × (n ≤ most_of six)

-- an address of this kind, a `/`, and a length, however large
pub record AreParts (six : Bool) (text : List ℕ) (base : Ip) (n : ℕ) : Type 0 where
  pub front : List ℕ
  pub behind : List ℕ
  pub parts : text ≡ front ++ 47 ∷ behind
  pub address : IsAddress front base
  pub kind : IsOfKind six base
  pub long : IsLength behind n

-- the text is this block: its length is at most 32, or 128 of an IPv6 address
abbrev pub IsBlock : Bool → List ℕ → Block → Type 0
IsBlock six text block = AreParts six text block.base block.length × (block.length ≤ most_of six)

-- a text that is some block of this kind
abbrev pub IsSomeBlock : Bool → List ℕ → Type 0
IsSomeBlock six text = (block : Block) × IsBlock six text block

-- What a text is read as: this block; a block, but for this length, which is too large; or neither, with the length of
-- its longest front that begins a block.
abbrev pub ReadsBlock : Bool → List ℕ → Result Block BlockFault → Type 0
ReadsBlock six text (Ok block) = IsBlock six text block
ReadsBlock six text (Err (BadLength n)) = (base : Ip) × AreParts six text base n × (most_of six < n)
ReadsBlock six text (Err (BadAddress at)) =
    ((base : Ip) (n : ℕ) → AreParts six text base n → ⊥) × IsLongestFront (IsSomeBlock six) text at
