-- The form of the words of `serve`.
use Rattle.std.specs.Prelude.{ℕ, Bool, true, false, not, List, [], ◌∷◌, codes, bytes_eq, find, map, None, Some, ◌==◌, ◌&&◌, if◌then◌else◌, String, string_bytes}
use Rattle.std.specs.List.{list_any}
use Rattle.std.specs.Option.{option_map}
use Rattle.std.specs.declared.alloc.Global.{Global}
use Rattle.std.specs.declared.option.Option.{Option}
use Rattle.listing.specs.Word.{parts_or_whole}

-- an option: its name, without the two hyphens before it, and its value
abbrev pub Pair : Type 0
Pair = List ℕ × List ℕ

-- the names of the options
abbrev pub NAMES : List (List ℕ)
NAMES = codes "listen" ∷ codes "metadata" ∷ codes "control" ∷ codes "protocol" ∷ codes "workers"
    ∷ codes "connections" ∷ codes "places" ∷ codes "footprints" ∷ codes "cdn-id" ∷ codes "claimed-origin"
    ∷ codes "log-fields" ∷ codes "cache" ∷ codes "rows" ∷ codes "triggers" ∷ codes "files" ∷ codes "period" ∷ []

-- what follows two hyphens at the front
abbrev pub hyphened : List ℕ → Option (List ℕ)
hyphened [] = None
hyphened (first ∷ []) = None
hyphened (first ∷ second ∷ rest) = if first == 45 && second == 45 then Some rest else None

-- the name that a word gives, and its value where an `=` joins one to it
abbrev pub option_in : List ℕ → Option (List ℕ × Option (List ℕ))
option_in word = option_map (parts_or_whole 61) (hyphened word)

-- one option more
abbrev pub with_pair : List ℕ → List ℕ → Option (List Pair) → Option (List Pair)
with_pair name value = option_map (λ pairs. (name, value) ∷ pairs)

-- what is next: an option, or the value of this one
abbrev pub pairs_at : Option (List ℕ × Option (List ℕ)) → Option (List Pair) → (List ℕ → Option (List Pair)) → Option (List Pair)
pairs_at None others wait = None
pairs_at (Some (name, Some value)) others wait = with_pair name value others
pairs_at (Some (name, None)) others wait = wait name

-- the options that words write, each as `--name=value`, cut at its first `=`, or as `--name` and `value`
abbrev pub pairs_from : Option (List ℕ) → List (List ℕ) → Option (List Pair)
pairs_from None [] = Some []
pairs_from None (word ∷ words) =
    pairs_at (option_in word) (pairs_from None words) (λ name. pairs_from (Some name) words)
pairs_from (Some name) [] = None
pairs_from (Some name) (value ∷ words) = with_pair name value (pairs_from None words)

abbrev pub pairs_of : List (List ℕ) → Option (List Pair)
pairs_of words = pairs_from None words

-- those that this word and the words behind it write
abbrev pub pairs_behind : List ℕ → List (List ℕ) → Option (List Pair)
pairs_behind word words = pairs_at (option_in word) (pairs_from None words) (λ name. pairs_from (Some name) words)

-- a value is not empty and does not begin with `-`
abbrev pub is_value : List ℕ → Bool
is_value [] = false
is_value (byte ∷ bytes) = not (byte == 45)

abbrev pub is_name : List ℕ → Bool
is_name name = list_any (λ known. bytes_eq known name) NAMES

-- one of the options has this name
abbrev pub has_name : List ℕ → List Pair → Bool
has_name name pairs = list_any (λ pair. bytes_eq pair.0 name) pairs

-- the option is known and has a value, and it is none of those behind it
abbrev pub is_well : Pair → List Pair → Bool
is_well pair pairs = is_name pair.0 && (is_value pair.1 && not (has_name pair.0 pairs))

-- each option is well
abbrev pub are_well : List Pair → Bool
are_well [] = true
are_well (pair ∷ pairs) = is_well pair pairs && are_well pairs

-- the value of the option of this name, where it is there
abbrev pub value_of : List ℕ → List Pair → Option (List ℕ)
value_of name pairs = option_map (λ pair. pair.1) (find (λ pair. bytes_eq pair.0 name) pairs)

abbrev pub well_pairs : Option (List Pair) → Option (List Pair)
well_pairs None = None
well_pairs (Some pairs) = if are_well pairs then Some pairs else None

-- the texts of words
abbrev pub texts_of : List (String Global) → List (List ℕ)
texts_of words = map string_bytes words

-- the options behind the word `serve`, where all is well with them
abbrev pub command_pairs : List (List ℕ) → Option (List Pair)
command_pairs [] = None
command_pairs (word ∷ words) = if bytes_eq word (codes "serve") then well_pairs (pairs_of words) else None
