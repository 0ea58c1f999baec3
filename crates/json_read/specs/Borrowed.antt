-- What a value of the kit's `json`, which keeps its members in the order of the text and a number as its text, is for
-- `serde_json`.
use Rattle.std.specs.Prelude.{ℕ, negsuc, List, Bool, true, ◌&&◌, is_some, unwrap_or}
use Rattle.json.specs.Json as json
use Rattle.serde_json.specs.Data.{Data, null, boolean, number, string, array, object, Num, negative, Items, no_items, item, Members, no_members, put}
use Rattle.serde_json.specs.Read.{number_of}

-- each number is one that `serde_json` holds: none is too large for a float
abbrev mutual
  pub fits : json.Json → Bool
  fits json.null = true
  fits (json.boolean b) = true
  fits (json.number text) = is_some (number_of text)
  fits (json.string text) = true
  fits (json.array items) = items_fit items
  fits (json.object members) = members_fit members

  pub items_fit : json.Items → Bool
  items_fit json.no_items = true
  items_fit (json.item value values) = fits value && items_fit values

  pub members_fit : json.Members → Bool
  members_fit json.no_members = true
  members_fit (json.member name value members) = fits value && members_fit members

-- the number of a text, which is -1 where it does not fit
abbrev pub number_in : List ℕ → Num
number_in text = unwrap_or (number_of text) (negative (negsuc 0))

-- the value; of a name that comes twice the last value counts
abbrev mutual
  pub data_of : json.Json → Data
  data_of json.null = null
  data_of (json.boolean b) = boolean b
  data_of (json.number text) = number (number_in text)
  data_of (json.string text) = string text
  data_of (json.array items) = array (items_data items)
  data_of (json.object members) = object (members_data members no_members)

  pub items_data : json.Items → Items
  items_data json.no_items = no_items
  items_data (json.item value values) = item (data_of value) (items_data values)

  -- the members, put one after the other into those that were found
  pub members_data : json.Members → Members → Members
  members_data json.no_members found = found
  members_data (json.member name value members) found = members_data members (put name (data_of value) found)
