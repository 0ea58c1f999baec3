-- What an advertisement is made of.
use Rattle.std.specs.Prelude.{◌≡◌, ℕ, Bool, false, List, ◌∷◌, ◌++◌, is_some}
use Rattle.std.specs.Option.{option_map_or}
use Rattle.cdni_log.specs.declared.field.Field.{Field}
use Rattle.listing.specs.Word.{parts_at}
use Rattle.location_acl.specs.Footprint.{IsFootprint, footprint_of}
use Rattle.location_acl.specs.declared.footprint.Footprint.{Footprint}
use Rattle.targets.specs.declared.target.Protocol.{Protocol}

-- the protocol of the listener, the footprints of this CDN, and the fields of its log files
pub record AdvertParts : Type 0 where
  pub protocol : Protocol
  pub footprints : List (List ℕ)
  pub fields : List Field

-- the byte `:`
abbrev pub COLON : ℕ
COLON = 58

-- the text is the name of a type of footprints, `:`, and a value of that type (RFC 8006, sections 4.2.2.2 and 7.2)
abbrev pub IsFootprintText : List ℕ → Type 0
IsFootprintText text = (kind : List ℕ) × (value : List ℕ) × (footprint : Footprint)
    × (text ≡ kind ++ COLON ∷ value) × IsFootprint kind value footprint

-- the same as a test that computes
abbrev pub is_footprint_text : List ℕ → Bool
is_footprint_text text =
    option_map_or (λ parts. is_some (footprint_of parts.0 parts.1)) (parts_at COLON text) false
