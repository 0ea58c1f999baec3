use Rattle.std.proofs.Common.{◌≡◌, ◌^◌, ◌<◌, drop}
use Rattle.listing.specs.Number.{number_after, number_of_digits}
use Rattle.listing.proofs.number.read_digits.Given as goal

abbrev pub invariant-digits : goal.invariant-digits
invariant-digits l = record { small : l.number < 2 ^ 64; rest : number_after l.number (drop l.byte-index l.text) ≡ number_of_digits l.text }
