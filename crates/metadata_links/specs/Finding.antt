-- The Links of a document (RFC 8006, section 4.3.1). A Link is an object with a property `href` in the place of a
-- HostMatch, HostMetadata, PathMatch, PathMetadata or GenericMetadata. A place of a wrong kind holds none.
use Rattle.std.specs.Prelude.{◌≡◌, ℕ, ◌+◌, zero, suc, List, [], ◌∷◌, ◌++◌, codes, None, Some, Ok, Err, nat_le, if◌then◌else◌}
use Rattle.std.specs.Option.{option_map_or}
use Rattle.std.specs.declared.option.Option.{Option}
use Rattle.std.specs.declared.result.Result.{Result}
use Rattle.serde_json.specs.Data.{Data, Items, no_items, item}
use Rattle.serde_json.specs.Find.{get, as_array}
use Rattle.json_read.specs.Field.{◌>>=◌}
use Rattle.json_read.specs.Path.{child_of, item_of}
use Rattle.metadata_objects.specs.declared.host.TheConstants.{NESTING_MAX}
use Rattle.metadata_links.specs.Href.{named_in}
use Rattle.metadata_links.specs.declared.link.Link.{Link}
use Rattle.metadata_links.specs.declared.link.Place.{Place}
use Rattle.metadata_links.specs.declared.link.Place.TheVariants as place
use Rattle.metadata_links.specs.declared.finding.BadLink.{BadLink}
use Rattle.metadata_links.specs.declared.finding.Stop.{Stop}
use Rattle.metadata_links.specs.declared.finding.Stop.TheVariants as stop
use Rattle.metadata_links.specs.declared.finding.TheConstants.{LEVELS_MAX}

-- the Links in reading order; or those before the first whose `href` names nothing, and the pointer of that one
abbrev pub Listing : Type 0
Listing = Result (List Link) BadLink

-- how the Links of a place are listed: from its pointer, the Links before it and its value
abbrev pub Walk : Type 0
Walk = List ℕ → List Link → Data → Listing

-- the Link with this `href`
abbrev pub link_of : List ℕ → Place → ℕ → Walk
link_of base place depth path before href =
    option_map_or (λ target. Ok (before ++ record { target = target; place = place; depth = depth } ∷ []))
    (named_in base href) (Err (record { links = before; path = path }))

-- a place is one Link, or has those that stand in it
abbrev pub link_or : List ℕ → Place → ℕ → Walk → Walk
link_or base place depth inside path before value =
    option_map_or (λ href. link_of base place depth path before href) (get (codes "href") value)
    (inside path before value)

-- the items of a list, from the i-th on
unfoldable pub each_item : Walk → List ℕ → ℕ → List Link → Items → Listing
each_item walk path i before no_items = Ok before
each_item walk path i before (item value values) =
    walk (item_of path i) before value >>= λ links. each_item walk path (i + 1) links values

abbrev pub in_list : Walk → Walk
in_list walk path before value = option_map_or (λ items. each_item walk path 0 before items) (as_array value) (Ok before)

-- what stands at a property
abbrev pub at_property : List ℕ → Walk → Walk
at_property name walk path before value =
    option_map_or (λ member. walk (child_of path name) before member) (get name value) (Ok before)

abbrev pub no_more : Walk
no_more path before value = Ok before

-- one PathMatch more; past the seventeenth none is counted
abbrev pub deeper : ℕ → ℕ
deeper depth = if nat_le depth NESTING_MAX then depth + 1 else depth

-- a GenericMetadata
unfoldable pub in_generic : List ℕ → ℕ → Walk
in_generic base depth = link_or base place.Generic depth no_more

-- a HostMetadata or PathMetadata: first its objects, then its PathMatch objects
unfoldable pub in_members : List ℕ → ℕ → Walk → Walk
in_members base depth paths path before value = do
  links ← at_property (codes "metadata") (in_list (in_generic base depth)) path before value
  at_property (codes "paths") (in_list paths) path links value

unfoldable pub in_level : List ℕ → ℕ → Walk → Walk
in_level base depth paths = link_or base place.Level depth (in_members base depth paths)

-- a PathMatch, with the walk of those below it
unfoldable pub path_with : List ℕ → ℕ → Walk → Walk
path_with base depth paths = link_or base place.Path depth (at_property (codes "path-metadata") (in_level base depth paths))

-- A PathMatch, of which so many may nest. A text nests at most 127 levels, and so there are fewer.
unfoldable pub in_path : List ℕ → ℕ → ℕ → Walk
in_path base zero depth = no_more
in_path base (suc left) depth = path_with base depth (in_path base left (deeper depth))

-- a HostMatch
unfoldable pub in_host : List ℕ → Walk
in_host base = link_or base place.Host 0
    (at_property (codes "host-metadata") (in_level base 0 (in_path base LEVELS_MAX (deeper 0))))

-- a HostIndex, which is no place of a Link
unfoldable pub in_index : List ℕ → Walk
in_index base = at_property (codes "hosts") (in_list (in_host base))

-- a document that stands at this place, in so many PathMatch objects
abbrev pub in_document : List ℕ → Place → ℕ → Data → Listing
in_document base place.Index depth value = in_index base [] [] value
in_document base place.Host depth value = in_host base [] [] value
in_document base place.Level depth value = in_level base depth (in_path base LEVELS_MAX (deeper depth)) [] [] value
in_document base place.Path depth value = in_path base LEVELS_MAX depth [] [] value
in_document base place.Generic depth value = in_generic base depth [] [] value

-- a walk answers this listing, or finds no memory
abbrev pub Lists : Result (List Link) Stop → Listing → Type 0
Lists (Ok links) listing = listing ≡ Ok links
Lists (Err (stop.Bad bad)) listing = listing ≡ Err bad
Lists (Err stop.Memory) listing = Unit {0}
