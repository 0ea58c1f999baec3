-- The values of MI.Cache and MI.Grouping (RFC 8006, sections 4.2.6 and 4.2.8). What does not read is not understood.
use Rattle.std.specs.Prelude.{ℕ, Bool, not, List, [], ◌∷◌, codes, map, length, None, Some, ◌==◌, ◌&&◌, nat_lt, nat_le, if◌then◌else◌}
use Rattle.std.specs.List.{list_all}
use Rattle.std.specs.Option.{option_map}
use Rattle.std.specs.Str.{str_to_ascii_lowercase}
use Rattle.std.specs.declared.option.Option.{Option}
use Rattle.serde_json.specs.Data.{Data}
use Rattle.serde_json.specs.Find.{get, as_str, as_array, as_object}
use Rattle.listing.specs.Word.{◌>>=◌}
use Rattle.cdni_base.specs.declared.key.Ignored.{Ignored}
use Rattle.cdni_base.specs.declared.key.Ignored.TheVariants as ignored
use Rattle.metadata_objects.specs.Items.{each_of, name_in}
use Rattle.metadata_objects.specs.declared.cache.TheConstants.{CCID_MAX}

-- these names, in lower case; an empty list ignores all of the query
abbrev pub ignored_names : List (List ℕ) → Ignored
ignored_names [] = ignored.All
ignored_names (name ∷ names) = ignored.Names (map str_to_ascii_lowercase (name ∷ names))

abbrev pub ignored_found : Option Data → Option Ignored
ignored_found None = Some ignored.None
ignored_found (Some member) = as_array member >>= λ items. option_map ignored_names (each_of name_in items)

-- what `ignore-query-string` says; an absent one ignores nothing
unfoldable pub ignored_in : Data → Option Ignored
ignored_in value = as_object value >>= λ members. ignored_found (get (codes "ignore-query-string") value)

-- neither a control character below 32 nor 127
abbrev pub is_ccid_byte : ℕ → Bool
is_ccid_byte byte = not (nat_lt byte 32) && not (byte == 127)

-- a text of 1 to 255 such bytes
unfoldable pub ccid_of : List ℕ → Option (List ℕ)
ccid_of text = if nat_lt 0 (length text) && nat_le (length text) CCID_MAX && list_all is_ccid_byte text
    then Some text else None

abbrev pub ccid_found : Option Data → Option (Option (List ℕ))
ccid_found None = Some None
ccid_found (Some member) = as_str member >>= λ text. option_map Some (ccid_of text)

-- the ccid of a group, which may be absent
unfoldable pub grouping_in : Data → Option (Option (List ℕ))
grouping_in value = as_object value >>= λ members. ccid_found (get (codes "ccid") value)
