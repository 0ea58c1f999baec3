-- The capability of logging (RFC 8008, section 5.3). The members of an object stand in the order of their bytes.
use Rattle.std.specs.Prelude.{ℕ, Bool, true, false, List, codes, filter, map}
use Rattle.serde_json.specs.Data.{Data, string, array, object, Items, Members, no_members, member}
use Rattle.serde_json.specs.View.{items_of}
use Rattle.cdni_log.specs.Field.{field_name}
use Rattle.cdni_log.specs.declared.field.Field.{Field}
use Rattle.cdni_log.specs.declared.field.Field.TheVariants as field

-- a record need not have this field: the bytes of the body, the collection, whether the content was kept, and the values
-- of headers
abbrev pub is_optional : Field → Bool
is_optional field.EntityBytes = true
is_optional field.Ccid = true
is_optional field.Cached = true
is_optional (field.Header header) = true
is_optional other = false

-- the names of the fields that are optional, in their order
abbrev pub optional_names : List Field → List (List ℕ)
optional_names fields = map field_name (filter is_optional fields)

abbrev pub text_items : List (List ℕ) → Items
text_items texts = items_of (map string texts)

-- the optional fields that are written, and the kind of the records
abbrev pub logging_value : List (List ℕ) → Data
logging_value names = object (member (codes "fields") (array (text_items names))
    (member (codes "record-type") (string (codes "cdni_http_request_v1")) no_members))

-- the capability with these members behind its type and its value
abbrev pub logging_object : List (List ℕ) → Members → Data
logging_object names others = object (member (codes "capability-type") (string (codes "FCI.Logging"))
    (member (codes "capability-value") (logging_value names) others))
