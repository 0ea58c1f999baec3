-- Lines of a place file.
use Rattle.std.specs.Prelude.{◌≡◌, ℕ, ◌+◌, ◌<◌, Bool, true, false, List, [], ◌∷◌, ◌++◌, length, Option, Some}
use Rattle.std.specs.Option.{option_or}
use Rattle.listing.specs.Word.{parts_at, ◌>>=◌}
use Rattle.location_acl.specs.declared.block.Block.{Block}
use Rattle.location_acl.specs.declared.line.PlaceLine.{PlaceLine}
use Rattle.location_acl.specs.Block.{block_of, IsBlock}
use Rattle.location_acl.specs.Footprint.{asn_of, country_of, optional, IsNetwork, IsCountry}

-- a block, which is of the kind of its address, a space, an `asn` or `-`, a space, and a country or `-`
pub record IsLine (text : List ℕ) (line : PlaceLine) : Type 0 where
  pub block : List ℕ
  pub asn : List ℕ
  pub country : List ℕ
  pub parts : text ≡ block ++ 32 ∷ (asn ++ 32 ∷ country)
  pub six : Bool
  pub is_block : IsBlock six block line.block
  pub is_asn : IsNetwork asn line.asn
  pub is_country : IsCountry country line.country

-- lines, each with its line feed
abbrev pub AreLines : List ℕ → List PlaceLine → Type 0
AreLines bytes [] = bytes ≡ []
AreLines bytes (line ∷ lines) =
    (text : List ℕ) × (rest : List ℕ) × (bytes ≡ text ++ 10 ∷ rest) × IsLine text line × AreLines rest lines

-- behind the lines before this one, which is counted from 1, there are bytes that no line begins
pub record StopsAt (bytes : List ℕ) (number : ℕ) : Type 0 where
  pub lines : List PlaceLine
  pub front : List ℕ
  pub rest : List ℕ
  pub parts : bytes ≡ front ++ rest
  pub before : AreLines front lines
  pub numbered : number ≡ length lines + 1
  pub more : 0 < length rest
  pub none : (text after : List ℕ) (line : PlaceLine) → rest ≡ text ++ 10 ∷ after → IsLine text line → ⊥

-- the block of either kind that a text is
abbrev pub either_block : List ℕ → Option Block
either_block text = option_or (block_of false text) (block_of true text)

-- the line that a text is, computed
abbrev pub line_of : List ℕ → Option PlaceLine
line_of text =
    parts_at 32 text >>= λ first.
    parts_at 32 first.1 >>= λ second.
    either_block first.0 >>= λ block.
    optional asn_of second.0 >>= λ asn.
    optional country_of second.1 >>= λ country.
    Some (record { block = block; asn = asn; country = country })
