use Rattle.std.proofs.Common.{◌≡◌, ◌≤◌, true, take}
use Rattle.std.specs.Str.{all_ascii_digits}
use Rattle.std.specs.Str.Parse.{digits_value}
use Rattle.location_acl.specs.Block.{most_of}
use Rattle.location_acl.proofs.block.begun_length.Given as goal

-- what was read so far are digits that begin a length, and their number
abbrev pub invariant-digits : goal.invariant-digits
invariant-digits l = record {
  few : l.at ≤ 3;
  digits : all_ascii_digits (take l.at l.text) ≡ true;
  number : l.number ≡ digits_value 10 (take l.at l.text);
  most : l.number ≤ most_of l.six;
  small : l.number ≤ 128;
}
