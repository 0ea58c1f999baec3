-- How much the system takes of what is written to a connection.
use Rattle.std.specs.Prelude.{ℕ, List, Bool, nat_lt, Option}
use Rattle.listing.specs.Number.{number_of_digits}
use Rattle.listing.specs.Word.{parts_at, ◌>>=◌}
use Rattle.client_hub.specs.Behind.{trimmed}

-- the last of three numbers, between which tabs stand: how many bytes a buffer grows to by itself
abbrev pub grown_of : List ℕ → Option ℕ
grown_of text = parts_at 9 text >>= (λ first. parts_at 9 first.1 >>= (λ second. number_of_digits (trimmed second.1)))

-- a buffer that is set does not grow any more, so it is to be set only where it is greater
abbrev pub is_more : ℕ → ℕ → Bool
is_more given grown = nat_lt grown given
