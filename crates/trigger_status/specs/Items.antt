-- Lists of a status resource, as JSON values.
use Rattle.std.specs.Prelude.{ℕ, List, [], codes, map, slice_get}
use Rattle.std.specs.Option.{option_map_or}
use Rattle.serde_json.specs.Data.{Data, boolean, string, array, object, Items, no_items, item, Members, no_members}
use Rattle.serde_json.specs.Data.{member}
use Rattle.serde_json.specs.View.{items_of}
use Rattle.trigger_command.specs.declared.selection.PatternItem.{PatternItem}
use Rattle.trigger_command.specs.declared.selection.UrlItem.{UrlItem}

-- a URL as it was sent
abbrev pub url_data : UrlItem → Data
url_data url = string url.text

-- a PatternMatch (RFC 8007, section 5.2.4), with all of its properties
abbrev pub pattern_data : PatternItem → Data
pattern_data pattern = object (member (codes "case-sensitive") (boolean pattern.case)
    (member (codes "match-query-string") (boolean pattern.query)
    (member (codes "pattern") (string pattern.text) no_members)))

-- the URL at this place of a list, counted from 0; an empty text where the list has none there
abbrev pub url_at : List UrlItem → ℕ → Data
url_at urls place = option_map_or url_data (slice_get urls place) (string [])

-- each of these as a JSON value, in order
abbrev pub each_as : {A : Type 0} → (A → Data) → List A → Items
each_as data_of xs = items_of (map data_of xs)

-- a list before other members, which is left out where it is empty
abbrev pub with_list : List ℕ → Items → Members → Members
with_list name no_items others = others
with_list name (item first rest) others = member name (array (item first rest)) others
