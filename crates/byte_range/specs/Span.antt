-- What part of a body of some length is sent for a range (RFC 9110, sections 14.1.2 and 15.5.17).
use Rattle.std.specs.Prelude.{◌↔◌, ◌<◌, ◌≤◌, ◌+◌, ◌-◌, ℕ, ◌==◌, nat_lt, min, List, length, slice_range, if◌then◌else◌, Some, None}
use Rattle.std.specs.declared.option.Option.{Option}
use Rattle.byte_range.specs.declared.want.Want.{Want}
use Rattle.byte_range.specs.declared.want.Want.TheVariants.{All, From, Last}
use Rattle.byte_range.specs.declared.span.Span.{Span}
use Rattle.byte_range.specs.declared.span.Span.TheVariants.{Whole, Part, Unsatisfiable}

-- The part, the whole, or that no position of the body is asked for. A range whose last position is below its first is
-- none, and the last bytes of an empty body are that body.
abbrev pub span_of : Want → ℕ → Span
span_of All len = Whole
span_of (From first None) len = if nat_lt first len then Part first (len - 1) else Unsatisfiable
span_of (From first (Some last)) len =
    if nat_lt last first then Whole else (if nat_lt first len then Part first (min last (len - 1)) else Unsatisfiable)
span_of (Last count) len =
    if count == 0 then Unsatisfiable else (if len == 0 then Whole else Part (len - count) (len - 1))

-- what a part of a body is: the whole, the bytes from `first` to `last`, or none
abbrev pub part_of : List ℕ → Span → Option (List ℕ)
part_of body Whole = Some body
part_of body (Part first last) = Some (slice_range body first (last + 1))
part_of body Unsatisfiable = None

-- what is sent of a body for a range; none where it is unsatisfiable
abbrev pub slice : List ℕ → Want → Option (List ℕ)
slice body want = part_of body (span_of want (length body))

-- the position is asked for, in a body of this length
abbrev pub IsAsked : Want → ℕ → ℕ → Type 0
IsAsked All len position = Unit {0}
IsAsked (From first None) len position = first ≤ position
IsAsked (From first (Some last)) len position = (first ≤ position) × (position ≤ last)
IsAsked (Last count) len position = len ≤ position + count

-- A part is not empty, lies within the body, and has the positions of the body that are asked for. Where the range is
-- unsatisfiable, no position of the body is asked for.
abbrev pub IsAnswer : Want → ℕ → Span → Type 0
IsAnswer want len Whole = Unit {0}
IsAnswer want len (Part first last) =
    (first ≤ last) × (last < len) ×
    ((position : ℕ) → position < len → IsAsked want len position ↔ ((first ≤ position) × (position ≤ last)))
IsAnswer want len Unsatisfiable = (position : ℕ) → position < len → IsAsked want len position → ⊥
