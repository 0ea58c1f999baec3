-- GenericMetadata (RFC 8006, section 4.1.7).
use Rattle.std.specs.Prelude.{◌≡◌, ◌≤◌, ℕ, Bool, true, false, List, codes, bytes_eq, length, None, Some, Ok, nat_lt, if◌then◌else◌, [], ◌∷◌}
use Rattle.std.specs.Str.{str_to_ascii_lowercase}
use Rattle.std.specs.declared.option.Option.{Option}
use Rattle.serde_json.specs.Data.{Data, Items}
use Rattle.cdni_base.specs.TypeName.{named}
use Rattle.cdni_base.specs.declared.type_name.TheConstants.{TYPE_NAME_MAX}
use Rattle.json_read.specs.Field.{◌>>=◌, needed}
use Rattle.json_read.specs.Path.{child_of}
use Rattle.metadata_objects.specs.Reading.{Reading, counted, no_link, needed_text, in_range, field, flag_or, all_of}
use Rattle.metadata_objects.specs.Cache.{ignored_in, grouping_in}
use Rattle.metadata_objects.specs.Lists.{locations_in, times_in, protocols_in}
use Rattle.metadata_objects.specs.Source.{sources_in, endpoint_count}
use Rattle.metadata_objects.specs.declared.source.TheConstants.{ENDPOINTS_MAX}
use Rattle.metadata_objects.specs.declared.generic.Generic.{Generic}
use Rattle.metadata_objects.specs.declared.generic.Held.{Held}
use Rattle.metadata_objects.specs.declared.generic.Held.TheVariants as held

-- a type name of 1 to 127 bytes, in lower case
unfoldable pub kind_of : List ℕ → Option (List ℕ)
kind_of text = if nat_lt 0 (length text) then named (str_to_ascii_lowercase text) else None

-- what was read of a value, or that it is not understood
abbrev pub held_as : {A : Type 0} → (A → Held) → Option A → Held
held_as of None = held.NotUnderstood
held_as of (Some value) = of value

-- what is understood of a list by which deliveries are allowed or denied, where it reads
unfoldable pub understood_list : List ℕ → Data → Held
understood_list kind value =
    if bytes_eq kind (codes "mi.locationacl") then held_as held.Location (locations_in value) else
    (if bytes_eq kind (codes "mi.timewindowacl") then held_as held.Time (times_in value) else
    (if bytes_eq kind (codes "mi.protocolacl") then held_as held.Protocol (protocols_in value) else held.NotUnderstood))

-- what is understood of a value of this type, where it reads
unfoldable pub understood : List ℕ → Data → Held
understood kind value =
    if bytes_eq kind (codes "mi.sourcemetadata") then held_as held.Source (sources_in value) else
    (if bytes_eq kind (codes "mi.cache") then held_as held.Cache (ignored_in value) else
    (if bytes_eq kind (codes "mi.grouping") then held_as held.Grouping (grouping_in value)
    else understood_list kind value))

-- what is held of an object; one that says so is not understood
abbrev pub held_of : Bool → List ℕ → Data → Held
held_of incomprehensible kind value = if incomprehensible then held.NotUnderstood else understood kind value

-- the object, and how many objects were counted with it
unfoldable pub generic_of : List ℕ → ℕ → Data → Reading (Generic × ℕ)
generic_of path n value = do
  m ← counted n
  plain ← no_link path value
  text ← needed_text path (codes "generic-metadata-type") value
  kind ← in_range (child_of path (codes "generic-metadata-type")) (kind_of text)
  inner ← field (needed path (codes "generic-metadata-value") value)
  mandatory ← flag_or path (codes "mandatory-to-enforce") true value
  redistribute ← flag_or path (codes "safe-to-redistribute") true value
  incomprehensible ← flag_or path (codes "incomprehensible") false value
  Ok (
    record {
      kind = kind;
      mandatory = mandatory;
      redistribute = redistribute;
      held = held_of incomprehensible kind inner;
    },
    m,
  )

-- the objects of a list
abbrev pub generics_of : List ℕ → ℕ → Items → Reading (List Generic × ℕ)
generics_of path n items = all_of generic_of path 0 n items

-- sources have at most 16 endpoints together
abbrev pub HasFewEndpoints : Held → Type 0
HasFewEndpoints (held.Source sources) = endpoint_count sources ≤ ENDPOINTS_MAX
HasFewEndpoints other = Unit {0}

-- an object as it is read: its type has 1 to 127 bytes in lower case, and its sources at most 16 endpoints together
pub record IsRead (object : Generic) : Type 0 where
  pub named : 1 ≤ length object.kind
  pub short : length object.kind ≤ TYPE_NAME_MAX
  pub lower : str_to_ascii_lowercase object.kind ≡ object.kind
  pub few : HasFewEndpoints object.held

-- the properties of a GenericMetadata that count
abbrev pub generic_names : List (List ℕ)
generic_names =
    codes "href" ∷ codes "generic-metadata-type" ∷ codes "generic-metadata-value" ∷ codes "mandatory-to-enforce" ∷ codes "safe-to-redistribute" ∷ codes "incomprehensible" ∷ []
