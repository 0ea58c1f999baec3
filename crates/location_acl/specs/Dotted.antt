-- IPv4 addresses as texts (RFC 3986, section 3.2.2, IPv4address), and reading them from the left, a byte at a time:
-- what a front of the text says, and the value at its end.
use Rattle.std.specs.Prelude.{◌≡◌, ℕ, ◌+◌, ◌-◌, ◌*◌, ◌<◌, ◌==◌, ◌&&◌, nat_lt, nat_le, List, [], ◌∷◌, ◌++◌, decimal, Option, Some, None, option_map, option_and_then, if◌then◌else◌}
use Rattle.std.specs.Char.{is_ascii_digit}
use Rattle.location_acl.specs.declared.dotted.Dotted.{Dotted}
use Rattle.location_acl.specs.declared.dotted.Dotted.TheVariants.{First, Second, Third, Fourth}

-- four numbers 0 to 255 without leading zeros, joined by `.`; the address has their bits in this order
pub record IsDotted (text : List ℕ) (value : ℕ) : Type 0 where
  pub a : ℕ
  pub b : ℕ
  pub c : ℕ
  pub d : ℕ
  pub a_fits : a < 256
  pub b_fits : b < 256
  pub c_fits : c < 256
  pub d_fits : d < 256
  pub written : text ≡ decimal a ++ 46 ∷ (decimal b ++ 46 ∷ (decimal c ++ 46 ∷ decimal d))
  pub valued : value ≡ a * 16777216 + b * 65536 + c * 256 + d

-- the number with one more decimal digit behind it: 0 to 255, without leading zeros
abbrev pub number_with : Option ℕ → ℕ → Option ℕ
number_with None byte = if is_ascii_digit byte then Some (byte - 48) else None
number_with (Some n) byte =
    if is_ascii_digit byte && (nat_lt 0 n && nat_le (n * 10 + (byte - 48)) 255) then Some (n * 10 + (byte - 48))
    else None

-- the front of an IPv4 address with one more byte
abbrev pub dotted_step : Dotted → ℕ → Option Dotted
dotted_step (First number) byte =
    if byte == 46 then option_map (λ a. Second a None) number
    else option_map (λ n. First (Some n)) (number_with number byte)
dotted_step (Second a number) byte =
    if byte == 46 then option_map (λ b. Third a b None) number
    else option_map (λ n. Second a (Some n)) (number_with number byte)
dotted_step (Third a b number) byte =
    if byte == 46 then option_map (λ c. Fourth a b c None) number
    else option_map (λ n. Third a b (Some n)) (number_with number byte)
dotted_step (Fourth a b c number) byte = option_map (λ n. Fourth a b c (Some n)) (number_with number byte)

-- the address, where the front is one
abbrev pub dotted_value : Dotted → Option ℕ
dotted_value (First number) = None
dotted_value (Second a number) = None
dotted_value (Third a b number) = None
dotted_value (Fourth a b c number) = option_map (λ d. a * 16777216 + b * 65536 + c * 256 + d) number

-- the address that the rest of a text makes of its front
abbrev pub dotted_run : Dotted → List ℕ → Option ℕ
dotted_run front [] = dotted_value front
dotted_run front (byte ∷ bytes) = option_and_then (λ next. dotted_run next bytes) (dotted_step front byte)

-- the IPv4 address that the text is
abbrev pub dotted_of : List ℕ → Option ℕ
dotted_of text = dotted_run (First None) text
