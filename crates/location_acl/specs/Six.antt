-- IPv6 addresses as texts (RFC 4291, section 2.2), and reading them from the left, a byte at a time: what a front of
-- the text says, and the value at its end.
use Rattle.std.specs.Prelude.{◌≡◌, ℕ, ◌+◌, ◌-◌, ◌*◌, ◌/◌, ◌%◌, ◌<◌, ◌≤◌, true, not, ◌==◌, ◌&&◌, nat_lt, nat_le, ◌⊎◌, List, [], ◌∷◌, ◌++◌, length, fold, replicate, Option, Some, None, option_map, option_and_then, if◌then◌else◌}
use Rattle.std.specs.Char.{digit_value, is_digit}
use Rattle.std.specs.List.{list_all}
use Rattle.std.specs.Str.Parse.{digits_value}
use Rattle.location_acl.specs.declared.dotted.Dotted.TheVariants.{Second}
use Rattle.location_acl.specs.declared.groups.Groups.{Groups}
use Rattle.location_acl.specs.declared.six.Digits.{Digits}
use Rattle.location_acl.specs.declared.six.Six.{Six}
use Rattle.location_acl.specs.declared.six.Six.TheVariants.{Start, Colon, Joined, Gap, Group, Tail}
use Rattle.location_acl.specs.Dotted.{IsDotted, number_with, dotted_step, dotted_value}
use Rattle.location_acl.specs.Groups.{AreBounded, no_groups, has_room, has_room_for_dotted, is_whole, with_group, with_gap, groups_value}

-- 1 to 4 hexadecimal digits, and their number
pub record IsGroup (text : List ℕ) (group : ℕ) : Type 0 where
  pub some : 1 ≤ length text
  pub few : length text ≤ 4
  pub digits : list_all (λ byte. is_digit byte 16) text ≡ true
  pub valued : group ≡ digits_value 16 text

-- groups joined by `:`, of which there may be none
abbrev pub AreJoined : List ℕ → List ℕ → Type 0
AreJoined text [] = text ≡ []
AreJoined text (group ∷ []) = IsGroup text group
AreJoined text (group ∷ next ∷ groups) =
    (digits : List ℕ) × (rest : List ℕ) × (text ≡ digits ++ 58 ∷ rest)
    × IsGroup digits group × AreJoined rest (next ∷ groups)

-- the same, where an IPv4 address may stand for the last two groups
abbrev pub AreWritten : List ℕ → List ℕ → Type 0
AreWritten text [] = text ≡ []
AreWritten text (group ∷ []) = IsGroup text group
AreWritten text (group ∷ next ∷ groups) =
    ((digits : List ℕ) × (rest : List ℕ) × (text ≡ digits ++ 58 ∷ rest)
    × IsGroup digits group × AreWritten rest (next ∷ groups))
    ⊎ ((groups ≡ []) × (next < 65536) × IsDotted text (group * 65536 + next))

-- the number that these groups of 16 bits make
abbrev pub number_of_groups : List ℕ → ℕ
number_of_groups groups = fold (λ number group. number * 65536 + group) 0 groups

-- eight groups
pub record IsWhole (text : List ℕ) (value : ℕ) : Type 0 where
  pub groups : List ℕ
  pub written : AreWritten text groups
  pub eight : length groups ≡ 8
  pub valued : value ≡ number_of_groups groups

-- fewer groups with one `::`, which stands for one or more groups of zeros
pub record IsShortened (text : List ℕ) (value : ℕ) : Type 0 where
  pub before : List ℕ
  pub after : List ℕ
  pub front : List ℕ
  pub back : List ℕ
  pub parts : text ≡ before ++ 58 ∷ 58 ∷ after
  pub written_before : AreJoined before front
  pub written_after : AreWritten after back
  pub fewer : length front + length back ≤ 7
  pub valued : value ≡ number_of_groups (front ++ (replicate (8 - (length front + length back)) 0 ++ back))

-- the value of a hexadecimal digit
abbrev pub hex_digit : ℕ → Option ℕ
hex_digit byte = if nat_lt (digit_value byte) 16 then Some (digit_value byte) else None

-- the first digit of a group
abbrev pub first_digit : ℕ → Option Digits
first_digit byte =
    option_map (λ digit. record { count = 1; group = digit; number = number_with None byte }) (hex_digit byte)

-- the digits of a group with one more behind them
abbrev pub with_digit : Digits → ℕ → Option Digits
with_digit digits byte =
    if nat_le 4 digits.count then None else option_map (λ digit. record {
      count = digits.count + 1;
      group = digits.group * 16 + digit;
      number = option_and_then (λ n. number_with (Some n) byte) digits.number;
    }) (hex_digit byte)

-- the front where the next byte is to begin a group
abbrev pub begun : Groups → ℕ → Option Six
begun groups byte = if has_room 1 groups then option_map (Group groups) (first_digit byte) else None

-- the front with a byte behind the digits of a group
abbrev pub after_digits : Groups → Digits → ℕ → Option Six
after_digits groups digits byte =
    if byte == 58 then (if has_room 2 groups then Some (Joined (with_group digits.group groups)) else None)
    else (if byte == 46 then
    (if has_room_for_dotted groups then option_map (λ a. Tail groups (Second a None)) digits.number else None)
    else option_map (Group groups) (with_digit digits byte))

-- the front of an IPv6 address with one more byte
abbrev pub six_step : Six → ℕ → Option Six
six_step Start byte = if byte == 58 then Some Colon else begun no_groups byte
six_step Colon byte = if byte == 58 then Some (Gap (with_gap no_groups)) else None
six_step (Joined groups) byte =
    if byte == 58 && not groups.has_gap then Some (Gap (with_gap groups)) else begun groups byte
six_step (Gap groups) byte = begun groups byte
six_step (Group groups digits) byte = after_digits groups digits byte
six_step (Tail groups dotted) byte = option_map (Tail groups) (dotted_step dotted byte)

-- the address, where the front is one
abbrev pub six_value : Six → Option ℕ
six_value Start = None
six_value Colon = None
six_value (Joined groups) = None
six_value (Gap groups) = Some (groups_value groups)
six_value (Group groups digits) =
    if is_whole (with_group digits.group groups) then Some (groups_value (with_group digits.group groups)) else None
six_value (Tail groups dotted) =
    option_map (λ n. groups_value (with_group (n % 65536) (with_group (n / 65536) groups))) (dotted_value dotted)

-- the address that the rest of a text makes of its front
abbrev pub six_run : Six → List ℕ → Option ℕ
six_run front [] = six_value front
six_run front (byte ∷ bytes) = option_and_then (λ next. six_run next bytes) (six_step front byte)

-- the IPv6 address that the text is
abbrev pub six_of : List ℕ → Option ℕ
six_of text = six_run Start text

-- 1 to 4 hexadecimal digits and their number
pub record AreHex (digits : Digits) : Type 0 where
  pub some : 1 ≤ digits.count
  pub few : digits.count ≤ 4
  pub one : digits.count ≤ 1 → digits.group < 16
  pub two : digits.count ≤ 2 → digits.group < 256
  pub three : digits.count ≤ 3 → digits.group < 4096
  pub four : digits.group < 65536

-- a front that some IPv6 address has: what is to follow has room
abbrev pub IsSound : Six → Type 0
IsSound Start = Unit {0}
IsSound Colon = Unit {0}
IsSound (Joined groups) = AreBounded groups × (has_room 1 groups ≡ true)
IsSound (Gap groups) = AreBounded groups × (groups.has_gap ≡ true) × (has_room 0 groups ≡ true)
IsSound (Group groups digits) = AreBounded groups × (has_room 1 groups ≡ true) × AreHex digits
IsSound (Tail groups dotted) = AreBounded groups × (has_room_for_dotted groups ≡ true)
