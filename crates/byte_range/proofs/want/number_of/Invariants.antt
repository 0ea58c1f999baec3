use Rattle.std.proofs.Common.{◌≡◌, ◌-◌, ◌^◌, min, true, take}
use Rattle.std.specs.Str.{all_ascii_digits}
use Rattle.std.specs.Str.Parse.{digits_value}
use Rattle.byte_range.proofs.want.number_of.Given as goal

-- what was read so far are digits, and their number
abbrev pub invariant-digits : goal.invariant-digits
invariant-digits l = record {
  digits : all_ascii_digits (take l.digit-index l.digits) ≡ true;
  number : l.number ≡ min (digits_value 10 (take l.digit-index l.digits)) (2 ^ 64 - 1);
}
