-- The URLs of triggers' status resources.
use Rattle.std.specs.Prelude.{ℕ, List, length, take, drop, codes, bytes_eq, None, Some, if◌then◌else◌}
use Rattle.std.specs.declared.option.Option.{Option}
use Rattle.listing.specs.Number.{number_of}
use Rattle.listing.specs.Word.{◌>>=◌}

-- what follows this front, where the text begins with it
abbrev pub behind : List ℕ → List ℕ → Option (List ℕ)
behind front text = if bytes_eq (take (length front) text) front then Some (drop (length front) text) else None

-- the decimal number that follows this scheme, the control host and `/triggers/`
abbrev pub number_behind : List ℕ → List ℕ → List ℕ → Option ℕ
number_behind scheme control text =
    behind scheme text >>= behind control >>= behind (codes "/triggers/") >>= number_of

abbrev pub or_other : Option ℕ → Option ℕ → Option ℕ
or_other (Some n) other = Some n
or_other None other = other

-- the number of the trigger whose status resource has this URL at the control host
unfoldable pub trigger_number : List ℕ → List ℕ → Option ℕ
trigger_number control text =
    or_other (number_behind (codes "http://") control text) (number_behind (codes "https://") control text)
