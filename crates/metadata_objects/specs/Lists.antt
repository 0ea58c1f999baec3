-- The values of the access lists (RFC 8006, sections 4.2.2 to 4.2.4). What does not read is not understood.
use Rattle.std.specs.Prelude.{ℕ, ◌^◌, Bool, true, false, List, codes, bytes_eq, length, None, Some, nat_lt, nat_le, if◌then◌else◌}
use Rattle.std.specs.List.{flat_map}
use Rattle.std.specs.Option.{option_map}
use Rattle.std.specs.declared.option.Option.{Option}
use Rattle.serde_json.specs.Data.{Data}
use Rattle.serde_json.specs.Find.{get, as_str, as_array, as_object, as_number, as_u64}
use Rattle.listing.specs.Word.{◌>>=◌}
use Rattle.location_acl.specs.Footprint.{type_of_name, footprint_of_type}
use Rattle.location_acl.specs.declared.acl.LocationRule.{LocationRule}
use Rattle.location_acl.specs.declared.footprint.Footprint.{Footprint}
use Rattle.location_acl.specs.declared.footprint.FootprintType.{FootprintType}
use Rattle.time_window.specs.declared.acl.TimeRule.{TimeRule}
use Rattle.time_window.specs.declared.acl.TimeWindow.{TimeWindow}
use Rattle.protocol_acl.specs.declared.acl.ProtocolRule.{ProtocolRule}
use Rattle.metadata_objects.specs.Items.{each_of, name_in}
use Rattle.metadata_objects.specs.declared.lists.TheConstants.{SECONDS_MAX}

-- ---- what the three lists have in common

-- whether the word allows
abbrev pub action_named : List ℕ → Option Bool
action_named word = if bytes_eq word (codes "allow") then Some true
    else (if bytes_eq word (codes "deny") then Some false else None)

abbrev pub action_found : Option Data → Option Bool
action_found None = Some false
action_found (Some member) = as_str member >>= action_named

-- whether a rule allows: its `action` is `allow` or `deny`, and an absent one is `deny`
unfoldable pub action_in : Data → Option Bool
action_in value = action_found (get (codes "action") value)

-- the items of a property that must be a list, where all of them read
unfoldable pub listed_in : {A : Type 0} → (Data → Option A) → List ℕ → Data → Option (List A)
listed_in read name value = get name value >>= λ member. as_array member >>= λ items. each_of read items

abbrev pub rules_found : {A : Type 0} → (Data → Option A) → Option Data → Option (Option (List A))
rules_found read None = Some None
rules_found read (Some member) = as_array member >>= λ items. option_map Some (each_of read items)

-- the rules of an object's property; an absent one gives none
unfoldable pub rules_in : {A : Type 0} → (Data → Option A) → List ℕ → Data → Option (Option (List A))
rules_in read name value = as_object value >>= λ members. rules_found read (get name value)

-- a list of rules that are there has fewer than 2 ^ 32
abbrev pub few_rules : {A : Type 0} → Option (List A) → Option (Option (List A))
few_rules None = Some None
few_rules (Some rules) = if nat_lt (length rules) (2 ^ 32) then Some (Some rules) else None

-- ---- MI.LocationACL

-- a value of a footprint of this type
unfoldable pub footprint_value_in : FootprintType → Data → Option Footprint
footprint_value_in kind value = as_str value >>= λ text. footprint_of_type kind text

-- the values of a footprint, each as a footprint of its own (RFC 8006, section 4.2.2.2)
unfoldable pub footprints_in : Data → Option (List Footprint)
footprints_in value = get (codes "footprint-type") value >>= λ member. as_str member >>= λ name.
    get (codes "footprint-value") value >>= λ list. as_array list >>= λ items.
    type_of_name name >>= λ kind. each_of (footprint_value_in kind) items

-- the footprints of all these lists, in order
abbrev pub joined : List (List Footprint) → List Footprint
joined lists = flat_map (λ list. list) lists

unfoldable pub location_rule_in : Data → Option LocationRule
location_rule_in value = listed_in footprints_in (codes "footprints") value >>= λ lists. action_in value
    >>= λ allow. Some (record { footprints = joined lists; allow = allow })

unfoldable pub locations_in : Data → Option (Option (List LocationRule))
locations_in value = rules_in location_rule_in (codes "locations") value >>= few_rules

-- ---- MI.TimeWindowACL

-- a whole number of seconds, at most 2 ^ 53
unfoldable pub seconds_in : List ℕ → Data → Option ℕ
seconds_in name value = get name value >>= λ member. as_number member >>= λ number. as_u64 number
    >>= λ n. if nat_le n SECONDS_MAX then Some n else None

unfoldable pub window_in : Data → Option TimeWindow
window_in value = seconds_in (codes "start") value >>= λ start. seconds_in (codes "end") value
    >>= λ last. Some (record { start = start; end = last })

unfoldable pub time_rule_in : Data → Option TimeRule
time_rule_in value = listed_in window_in (codes "windows") value >>= λ windows. action_in value
    >>= λ allow. Some (record { windows = windows; allow = allow })

unfoldable pub times_in : Data → Option (Option (List TimeRule))
times_in value = rules_in time_rule_in (codes "times") value >>= few_rules

-- ---- MI.ProtocolACL

unfoldable pub protocol_rule_in : Data → Option ProtocolRule
protocol_rule_in value = listed_in name_in (codes "protocols") value >>= λ protocols. action_in value
    >>= λ allow. Some (record { protocols = protocols; allow = allow })

unfoldable pub protocols_in : Data → Option (Option (List ProtocolRule))
protocols_in value = rules_in protocol_rule_in (codes "protocol-acl") value >>= few_rules
