-- Decimal numbers below 2 ^ 64.
use Rattle.std.specs.Prelude.{ℕ, ◌+◌, ◌-◌, ◌*◌, ◌^◌, Bool, not, List, [], ◌∷◌, None, Some, length, slice_index, ◌==◌, ◌&&◌, nat_lt, if◌then◌else◌}
use Rattle.std.specs.Char.{is_ascii_digit}
use Rattle.std.specs.declared.option.Option.{Option}

-- the number that digits write after those of n, where each of them is a digit and the number stays below 2 ^ 64
abbrev pub number_after : ℕ → List ℕ → Option ℕ
number_after n [] = Some n
number_after n (byte ∷ bytes) = if is_ascii_digit byte && nat_lt (n * 10 + (byte - 48)) (2 ^ 64)
    then number_after (n * 10 + (byte - 48)) bytes else None

-- the number that decimal digits write; zeros may lead, and no digits write 0
abbrev pub number_of_digits : List ℕ → Option ℕ
number_of_digits text = number_after 0 text

-- one byte or more, of which the first is no `0` that leads others
abbrev pub is_unpadded : List ℕ → Bool
is_unpadded text = nat_lt 0 (length text) && not (slice_index text 0 == 48 && nat_lt 1 (length text))

-- the same of one digit or more, without leading zeros
abbrev pub number_of : List ℕ → Option ℕ
number_of text = if is_unpadded text then number_of_digits text else None
