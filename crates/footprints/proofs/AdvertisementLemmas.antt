-- The text of an advertisement, part by part.
use Rattle.std.proofs.Common.{◌≡◌, ℕ, ◌<◌, Bool, true, false, List, [], ◌∷◌, ◌++◌, length, codes, ap, append_assoc, arith}
use Rattle.json.specs.Print.{quoted, escape_byte}
use Rattle.serde_json.specs.Data.{Data, array, object, no_members, member}
use Rattle.serde_json.specs.View.{items_of}
use Rattle.serde_json.specs.Written.{comma_if, compact_text, items_text, members_text}
use Rattle.footprints.specs.Advertisement.{footprint_object, footprint_data, footprint_items, footprint_members, capability_data, logging_data, advert_data, type_and_value}
use Rattle.footprints.specs.Settings.{AdvertParts}
use Rattle.footprints.specs.declared.capability.Capability.TheVariants as capability

-- ---- one footprint

pub footprint_added : (before begun opened typed between valued after kind value : List ℕ) (later : Bool) → begun ≡ before ++ comma_if later
    → opened ≡ begun ++ 123 ∷ (quoted (codes "footprint-type") ++ 58 ∷ []) → typed ≡ opened ++ quoted kind
    → between ≡ typed ++ 44 ∷ (quoted (codes "footprint-value") ++ 58 ∷ 91 ∷ []) → valued ≡ between ++ quoted value → after ≡ valued ++ 93 ∷ 125 ∷ []
    → after ≡ before ++ (comma_if later ++ compact_text (footprint_object kind value))
unfolding escape_byte
footprint_added before begun opened typed between valued after kind value later a b c d e f = rw (f, e, d, c, b, a) (simp append_assoc)

-- ---- the list of footprints

pub some_added : (before begun listed after : List ℕ) (footprints : List (List ℕ)) → 0 < length footprints → begun ≡ before ++ 44 ∷ (quoted (codes "footprints") ++ 58 ∷ 91 ∷ [])
    → listed ≡ begun ++ items_text false (footprint_items footprints) → after ≡ listed ++ 125 ∷ [] → after ≡ before ++ members_text true (footprint_members footprints)
unfolding escape_byte
some_added before begun listed after [] some a b c = absurd (omega arith)
some_added before begun listed after (first ∷ others) some a b c = rw (c, b, a) (simp append_assoc)

-- ---- the whole

whole_of : (a b c d : Data) (start first second third fourth last : List ℕ) → start ≡ 123 ∷ (quoted (codes "capabilities") ++ 58 ∷ 91 ∷ [])
    → first ≡ start ++ (comma_if false ++ compact_text a) → second ≡ first ++ (comma_if true ++ compact_text b) → third ≡ second ++ (comma_if true ++ compact_text c)
    → fourth ≡ third ++ (comma_if true ++ compact_text d) → last ≡ fourth ++ 93 ∷ 125 ∷ [] → last ≡ compact_text (object (member (codes "capabilities") (array (items_of (a ∷ b ∷ c ∷ d ∷ []))) no_members))
unfolding escape_byte
whole_of a b c d start first second third fourth last s ea eb ec ed e = rw (e, ed, ec, eb, ea, s) (simp append_assoc)

pub whole_added : (parts : AdvertParts) (start first second third fourth last : List ℕ) → start ≡ 123 ∷ (quoted (codes "capabilities") ++ 58 ∷ 91 ∷ [])
    → first ≡ start ++ (comma_if false ++ compact_text (capability_data parts.footprints (capability.DeliveryProtocol parts.protocol)))
    → second ≡ first ++ (comma_if true ++ compact_text (capability_data parts.footprints capability.AcquisitionProtocol))
    → third ≡ second ++ (comma_if true ++ compact_text (logging_data parts.footprints parts.fields))
    → fourth ≡ third ++ (comma_if true ++ compact_text (capability_data parts.footprints capability.Metadata))
    → last ≡ fourth ++ 93 ∷ 125 ∷ [] → last ≡ compact_text (advert_data parts)
unfolding advert_data
whole_added parts start first second third fourth last s a b c d e =
    whole_of (capability_data parts.footprints (capability.DeliveryProtocol parts.protocol)) (capability_data parts.footprints capability.AcquisitionProtocol) (logging_data parts.footprints parts.fields)
    (capability_data parts.footprints capability.Metadata) start first second third fourth last s a b c d e

-- the object of a text that was cut
pub object_of : (before : List ℕ) (later : Bool) (text : List ℕ) (parts : List ℕ × List ℕ) → parts ≡ type_and_value text
    → before ++ (comma_if later ++ compact_text (footprint_object parts.0 parts.1)) ≡ before ++ (comma_if later ++ compact_text (footprint_data text))
object_of before later text parts is = ap (λ (p : List ℕ × List ℕ). before ++ (comma_if later ++ compact_text (footprint_object p.0 p.1))) is
