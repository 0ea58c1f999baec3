-- Comma-separated lists in header fields (RFC 9110, section 5.6.1).
use Rattle.std.specs.Prelude.{ℕ, ◌-◌, ◌==◌, ◌||◌, Bool, List, length, take, drop, map}
use Rattle.std.specs.List.{slice_split, prefix_len, suffix_len, flat_map}
use Rattle.http_wire.specs.Fields.{values_of}
use Rattle.field_list.specs.declared.list.TheConstants.{COMMA, SPACE, TAB}

abbrev pub is_comma : ℕ → Bool
is_comma byte = byte == COMMA

-- white space around an item (RFC 9110, section 5.6.3)
abbrev pub is_blank : ℕ → Bool
is_blank byte = byte == SPACE || byte == TAB

-- the text without the blanks at its end
abbrev pub without_end : List ℕ → List ℕ
without_end text = take (length text - suffix_len is_blank text) text

-- the text without the blanks around it
abbrev pub trimmed : List ℕ → List ℕ
trimmed text = without_end (drop (prefix_len is_blank text) text)

-- the items of a list, of which some may be empty
abbrev pub items_in : List ℕ → List (List ℕ)
items_in value = map trimmed (slice_split is_comma value)

-- the items of the lists in all header fields of this name, in order (RFC 9110, section 5.3)
abbrev pub items_of : List ℕ → List (List ℕ × List ℕ) → List (List ℕ)
items_of name headers = flat_map items_in (values_of name headers)
