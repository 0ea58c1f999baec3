-- The whole that a root document and the documents of its Links are (RFC 8006, section 4.3.1). In the place of a Link
-- stands the next document, depth first in reading order.
use Rattle.std.specs.Prelude.{ℕ, zero, suc, List, [], ◌∷◌, codes, None, Some, if◌then◌else◌}
use Rattle.std.specs.Option.{is_some, option_map_or}
use Rattle.std.specs.Ordering.{nat_cmp, match_ordering}
use Rattle.std.specs.Cmp.Lexicographic.{slice_cmp}
use Rattle.std.specs.declared.option.Option.{Option}
use Rattle.serde_json.specs.Data.{Data, array, object, Items, no_items, item, Members, no_members, member}
use Rattle.serde_json.specs.Find.{get, get_member, as_array, as_object}
use Rattle.metadata_objects.specs.declared.host.TheConstants.{NESTING_MAX}

-- how a place is filled from the documents that are left: its value, and those that are left then
abbrev pub Filling : Type 0
Filling = Data → List Data → Data × List Data

-- the members, with this value at a name that is there
unfoldable pub with_value : List ℕ → Data → Members → Members
with_value name value no_members = no_members
with_value name value (member other before members) = match_ordering (slice_cmp nat_cmp name other)
    (member other before (with_value name value members)) (member other value members)
    (member other before (with_value name value members))

-- the next document stands in the place of a Link; it may be a Link again
unfoldable pub followed : Filling
followed value [] = (value, [])
followed value (document ∷ documents) = if is_some (get (codes "href") value) then followed document documents
    else (value, document ∷ documents)

-- what stands at a property, if there is one
abbrev pub member_filled : List ℕ → Members → Filling → Option Data → List Data → Data × List Data
member_filled name members fill None documents = (object members, documents)
member_filled name members fill (Some value) documents =
    (object (with_value name (fill value documents).0 members), (fill value documents).1)

abbrev pub property_filled : List ℕ → Filling → Filling
property_filled name fill value documents =
    option_map_or (λ members. member_filled name members fill (get_member name members) documents) (as_object value)
    (value, documents)

-- the items of a list, one after the other
unfoldable pub items_filled : Filling → Items → List Data → Items × List Data
items_filled fill no_items documents = (no_items, documents)
items_filled fill (item value values) documents = (
  item (fill value documents).0 (items_filled fill values (fill value documents).1).0,
  (items_filled fill values (fill value documents).1).1,
)

abbrev pub all_filled : Filling → Items → List Data → Data × List Data
all_filled fill items documents = (array (items_filled fill items documents).0, (items_filled fill items documents).1)

abbrev pub list_filled : Filling → Filling
list_filled fill value documents = option_map_or (λ items. all_filled fill items documents) (as_array value) (value, documents)

-- one filling, and then another
infixl 10 ◌then◌
abbrev pub ◌then◌ : Filling → Filling → Filling
◌then◌ first second value documents = second (first value documents).0 (first value documents).1

-- a HostMetadata or PathMetadata: itself, its objects, and its PathMatch objects
unfoldable pub level_filled : Filling → Filling
level_filled path = followed then (property_filled (codes "metadata") (list_filled followed)
    then property_filled (codes "paths") (list_filled path))

-- a PathMatch, with the filling of those below it
unfoldable pub path_with : Filling → Filling
path_with path = followed then property_filled (codes "path-metadata") (level_filled path)

-- A PathMatch at which so many may nest, itself counted. Of one too many nothing is read, and so nothing is filled.
unfoldable pub path_filled : ℕ → Filling
path_filled zero value documents = (value, documents)
path_filled (suc left) value documents = path_with (path_filled left) value documents

-- a HostMatch
unfoldable pub host_filled : Filling
host_filled = followed then property_filled (codes "host-metadata") (level_filled (path_filled NESTING_MAX))

-- a HostIndex
unfoldable pub index_filled : Filling
index_filled = property_filled (codes "hosts") (list_filled host_filled)
