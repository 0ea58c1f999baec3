-- What is held of the effective objects of the types that are understood (RFC 8006, section 4.2).
use Rattle.std.specs.Prelude.{ℕ, List, codes, None, Some}
use Rattle.std.specs.List.{find}
use Rattle.std.specs.Option.{option_map, option_and_then}
use Rattle.std.specs.declared.option.Option.{Option}
use Rattle.cdni_base.specs.declared.key.Ignored.{Ignored}
use Rattle.cdni_base.specs.declared.source_item.SourceItem.{SourceItem}
use Rattle.location_acl.specs.declared.acl.LocationRule.{LocationRule}
use Rattle.protocol_acl.specs.declared.acl.ProtocolRule.{ProtocolRule}
use Rattle.time_window.specs.declared.acl.TimeRule.{TimeRule}
use Rattle.metadata_objects.specs.declared.generic.Generic.{Generic}
use Rattle.metadata_objects.specs.declared.generic.Held.{Held}
use Rattle.metadata_objects.specs.declared.generic.Held.TheVariants as held
use Rattle.metadata_objects.specs.GenericList.{is_of_kind, is_unenforceable}

-- what is held of the object of this type, if there is one
abbrev pub held_in : List ℕ → List Generic → Option Held
held_in kind objects = option_map (λ object. object.held) (find (is_of_kind kind) objects)

abbrev pub as_source : Held → Option (List SourceItem)
as_source (held.Source sources) = Some sources
as_source _ = None

abbrev pub as_location : Held → Option (Option (List LocationRule))
as_location (held.Location rules) = Some rules
as_location _ = None

abbrev pub as_time : Held → Option (Option (List TimeRule))
as_time (held.Time rules) = Some rules
as_time _ = None

abbrev pub as_protocol : Held → Option (Option (List ProtocolRule))
as_protocol (held.Protocol rules) = Some rules
as_protocol _ = None

abbrev pub as_ignored : Held → Option Ignored
as_ignored (held.Cache ignored) = Some ignored
as_ignored _ = None

-- the ccid of a group that has one
abbrev pub as_ccid : Held → Option (List ℕ)
as_ccid (held.Grouping ccid) = ccid
as_ccid _ = None

abbrev pub sources_of : List Generic → Option (List SourceItem)
sources_of objects = option_and_then as_source (held_in (codes "mi.sourcemetadata") objects)

abbrev pub location_of : List Generic → Option (Option (List LocationRule))
location_of objects = option_and_then as_location (held_in (codes "mi.locationacl") objects)

abbrev pub time_of : List Generic → Option (Option (List TimeRule))
time_of objects = option_and_then as_time (held_in (codes "mi.timewindowacl") objects)

abbrev pub protocol_of : List Generic → Option (Option (List ProtocolRule))
protocol_of objects = option_and_then as_protocol (held_in (codes "mi.protocolacl") objects)

abbrev pub ignored_of : List Generic → Option Ignored
ignored_of objects = option_and_then as_ignored (held_in (codes "mi.cache") objects)

abbrev pub ccid_of : List Generic → Option (List ℕ)
ccid_of objects = option_and_then as_ccid (held_in (codes "mi.grouping") objects)

-- the type of the first object that must be enforced and is not understood
abbrev pub unenforceable_of : List Generic → Option (List ℕ)
unenforceable_of objects = option_map (λ object. object.kind) (find is_unenforceable objects)
