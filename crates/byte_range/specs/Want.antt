-- What the value of a Range header asks for (RFC 9110, sections 14.1.1, 14.1.2 and 14.2), where a single range of bytes
-- is all that is understood.
use Rattle.std.specs.Prelude.{bytes_eq, ◌≡◌, ◌<◌, ◌≤◌, ◌-◌, ◌^◌, ℕ, Bool, true, ◌==◌, nat_lt, nat_le, min, List, [], ◌∷◌, ◌++◌, length, take, drop, codes, if◌then◌else◌, Option, Some, None}
use Rattle.std.specs.List.{position_or_len, before_first, after_first}
use Rattle.std.specs.Option.{option_map_or}
use Rattle.std.specs.Str.{all_ascii_digits, str_to_ascii_lowercase}
use Rattle.std.specs.Str.Parse.{digits_value}
use Rattle.byte_range.specs.declared.want.Want.{Want}
use Rattle.byte_range.specs.declared.want.Want.TheVariants.{All, From, Last}

-- the range unit and its '=', in any case
abbrev pub IsUnit : List ℕ → Type 0
IsUnit text = str_to_ascii_lowercase text ≡ codes "bytes="

-- decimal digits, and their number, where a number above 2^64 - 1 counts as that
abbrev pub IsNumber : List ℕ → ℕ → Type 0
IsNumber digits n =
    (0 < length digits) × (all_ascii_digits digits ≡ true) × (n ≡ min (digits_value 10 digits) (2 ^ 64 - 1))

-- The text is a single range: the positions from the first to the last, which is not below it; those from the first on;
-- or the last so many.
abbrev pub IsRange : List ℕ → Want → Type 0
IsRange text All = ⊥
IsRange text (From first None) =
    (unit : List ℕ) × (digits : List ℕ) × (text ≡ unit ++ (digits ++ 45 ∷ [])) × IsUnit unit × IsNumber digits first
IsRange text (From first (Some last)) =
    (unit : List ℕ) × (digits : List ℕ) × (others : List ℕ) × (text ≡ unit ++ (digits ++ 45 ∷ others)) ×
    IsUnit unit × IsNumber digits first × IsNumber others last × (first ≤ last)
IsRange text (Last count) =
    (unit : List ℕ) × (digits : List ℕ) × (text ≡ unit ++ 45 ∷ digits) × IsUnit unit × IsNumber digits count

-- the text is this range, or asks for all where it is no single range
abbrev pub Reads : List ℕ → Want → Type 0
Reads text All = (want : Want) → IsRange text want → ⊥
Reads text (From first last) = IsRange text (From first last)
Reads text (Last count) = IsRange text (Last count)

-- the number of digits, if they are some digits
abbrev pub number_of : List ℕ → Option ℕ
number_of [] = None
number_of (b ∷ bs) = if all_ascii_digits (b ∷ bs) then Some (min (digits_value 10 (b ∷ bs)) (2 ^ 64 - 1)) else None

-- two positions, which are a range where the last is not below the first
abbrev pub between : Option ℕ → Option ℕ → Want
between None last = All
between (Some first) None = All
between (Some first) (Some last) = if nat_le first last then From first (Some last) else All

-- what stands before and after the '-'
abbrev pub range_of : List ℕ → List ℕ → Want
range_of [] last = option_map_or Last (number_of last) All
range_of (b ∷ first) [] = option_map_or (λ n. From n None) (number_of (b ∷ first)) All
range_of (b ∷ first) (c ∷ last) = between (number_of (b ∷ first)) (number_of (c ∷ last))

abbrev pub is_dash : ℕ → Bool
is_dash b = b == 45

-- what stands behind the unit, if it has a '-'
abbrev pub set_of : List ℕ → Want
set_of text =
    if nat_lt (position_or_len is_dash text) (length text)
    then range_of (before_first is_dash text) (after_first is_dash text) else All

-- the text begins with the unit
abbrev pub has_unit : List ℕ → Bool
has_unit text = bytes_eq (str_to_ascii_lowercase (take 6 text)) (codes "bytes=")

-- what the value of a header asks for, computed
abbrev pub want_of : List ℕ → Want
want_of text = if has_unit text then set_of (drop 6 text) else All
