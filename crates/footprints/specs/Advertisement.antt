-- The advertisement (RFC 8008, section 5). The members of an object stand in the order of their bytes.
use Rattle.std.specs.Prelude.{ℕ, List, [], ◌∷◌, codes, map, unwrap_or}
use Rattle.listing.specs.Word.{parts_at}
use Rattle.serde_json.specs.Data.{Data, string, array, object, Items, no_items, item, Members, no_members, member}
use Rattle.serde_json.specs.View.{items_of}
use Rattle.serde_json.specs.Written.{compact_text}
use Rattle.targets.specs.declared.target.Protocol.{Protocol}
use Rattle.targets.specs.declared.target.Protocol.TheVariants.{Http, Https}
use Rattle.cdni_log.specs.declared.field.Field.{Field}
use Rattle.footprints.specs.Logging.{logging_object, optional_names}
use Rattle.footprints.specs.Settings.{AdvertParts, COLON}
use Rattle.footprints.specs.declared.capability.Capability.{Capability}
use Rattle.footprints.specs.declared.capability.Capability.TheVariants as capability

-- ---- footprints

-- a footprint object with one value (RFC 8006, section 4.2.2.2)
abbrev pub footprint_object : List ℕ → List ℕ → Data
footprint_object kind value = object (member (codes "footprint-type") (string kind)
    (member (codes "footprint-value") (array (item (string value) no_items)) no_members))

-- what stands before the first `:` of a text, and what stands behind it
abbrev pub type_and_value : List ℕ → List ℕ × List ℕ
type_and_value text = unwrap_or (parts_at COLON text) (text, [])

abbrev pub footprint_data : List ℕ → Data
footprint_data text = footprint_object (type_and_value text).0 (type_and_value text).1

-- each of these texts, in order
abbrev pub footprint_items : List (List ℕ) → Items
footprint_items footprints = items_of (map footprint_data footprints)

-- the property is left out where there are none
abbrev pub footprint_members : List (List ℕ) → Members
footprint_members [] = no_members
footprint_members (first ∷ others) =
    member (codes "footprints") (array (footprint_items (first ∷ others))) no_members

-- ---- capabilities

-- the name of a delivery protocol (RFC 8006, section 7.3)
abbrev pub protocol_name : Protocol → List ℕ
protocol_name Http = codes "http/1.1"
protocol_name Https = codes "https/1.1"

abbrev pub texts : List (List ℕ) → Data
texts names = array (items_of (map string names))

-- the type of a capability, as it is registered (RFC 8008, section 6)
abbrev pub capability_type : Capability → List ℕ
capability_type (capability.DeliveryProtocol protocol) = codes "FCI.DeliveryProtocol"
capability_type capability.AcquisitionProtocol = codes "FCI.AcquisitionProtocol"
capability_type capability.Metadata = codes "FCI.Metadata"

-- The protocol of the listener; HTTP/1.1 towards origins; and the types of generic metadata (RFC 8006, section 7.1)
-- that are enforced.
abbrev pub capability_value : Capability → Data
capability_value (capability.DeliveryProtocol protocol) =
    object (member (codes "delivery-protocols") (texts (protocol_name protocol ∷ [])) no_members)
capability_value capability.AcquisitionProtocol =
    object (member (codes "acquisition-protocols") (texts (codes "http/1.1" ∷ [])) no_members)
capability_value capability.Metadata =
    object (member (codes "metadata") (texts (codes "MI.SourceMetadata" ∷ codes "MI.LocationACL"
    ∷ codes "MI.TimeWindowACL" ∷ codes "MI.ProtocolACL" ∷ codes "MI.Cache" ∷ codes "MI.Grouping" ∷ [])) no_members)

-- a capability with these members behind its type and its value
abbrev pub capability_object : Capability → Members → Data
capability_object one others = object (member (codes "capability-type") (string (capability_type one))
    (member (codes "capability-value") (capability_value one) others))

abbrev pub capability_data : List (List ℕ) → Capability → Data
capability_data footprints one = capability_object one (footprint_members footprints)

-- ---- the advertisement

-- the capability of logging with the optional ones among these fields
abbrev pub logging_data : List (List ℕ) → List Field → Data
logging_data footprints fields = logging_object (optional_names fields) (footprint_members footprints)

-- four capabilities, each with the same footprints
abbrev pub capabilities : AdvertParts → List Data
capabilities parts = capability_data parts.footprints (capability.DeliveryProtocol parts.protocol)
    ∷ capability_data parts.footprints capability.AcquisitionProtocol
    ∷ logging_data parts.footprints parts.fields
    ∷ capability_data parts.footprints capability.Metadata ∷ []

unfoldable pub advert_data : AdvertParts → Data
advert_data parts = object (member (codes "capabilities") (array (items_of (capabilities parts))) no_members)

-- its text, without spaces
abbrev pub advert_text : AdvertParts → List ℕ
advert_text parts = compact_text (advert_data parts)
