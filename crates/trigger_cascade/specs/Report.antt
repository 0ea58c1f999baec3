-- The joined status of a command that was passed on.
use Rattle.std.specs.Prelude.{ℕ, Bool, true, false, not, List, [], ◌∷◌, ◌++◌, codes, decimal, if◌then◌else◌}
use Rattle.std.specs.List.{flat_map, list_any}
use Rattle.trigger_cascade.specs.Far.{far_name, is_final}
use Rattle.trigger_cascade.specs.declared.cdn.Cdn.{Cdn}
use Rattle.trigger_cascade.specs.declared.cdn.Standing.{Standing}
use Rattle.trigger_cascade.specs.declared.cdn.Standing.TheVariants as standing
use Rattle.trigger_cascade.specs.declared.far.Far.{Far}
use Rattle.trigger_cascade.specs.declared.far.Far.TheVariants.{Pending, Active, Complete, Processed, Failed}
use Rattle.trigger_cascade.specs.declared.far.Far.TheVariants.{Cancelling, Cancelled}

-- what a CDN came to: that it was skipped, why it has no status, or its last status (RFC 8007, section 5.2.3)
abbrev pub standing_text : Standing → List ℕ
standing_text standing.Waiting = codes "waiting"
standing_text standing.Skipped = codes "skipped"
standing_text (standing.Took place last) = far_name last
standing_text (standing.Refused status) = codes "refused " ++ decimal status
standing_text standing.Malformed = codes "malformed"
standing_text standing.Unreadable = codes "unreadable"
standing_text standing.Fault = codes "fault"

-- the line of a CDN
abbrev pub line_of : Cdn → List ℕ
line_of cdn = cdn.id.0 ++ codes " " ++ standing_text cdn.standing ++ codes "\n"

abbrev pub lines_of : List Cdn → List ℕ
lines_of [] = []
lines_of (cdn ∷ cdns) = line_of cdn ++ lines_of cdns

-- a trigger that failed or was cancelled
abbrev pub is_lost : Far → Bool
is_lost Pending = false
is_lost Active = false
is_lost Complete = false
is_lost Processed = false
is_lost Failed = true
is_lost Cancelling = false
is_lost Cancelled = true

-- a CDN that is neither skipped nor pending, active, cancelling, complete or processed
abbrev pub is_bad : Standing → Bool
is_bad standing.Waiting = true
is_bad standing.Skipped = false
is_bad (standing.Took place last) = is_lost last
is_bad (standing.Refused status) = true
is_bad standing.Malformed = true
is_bad standing.Unreadable = true
is_bad standing.Fault = true

-- a CDN that is pending, active or cancelling
abbrev pub is_open : Standing → Bool
is_open standing.Waiting = false
is_open standing.Skipped = false
is_open (standing.Took place last) = not (is_final last)
is_open (standing.Refused status) = false
is_open standing.Malformed = false
is_open standing.Unreadable = false
is_open standing.Fault = false

-- the status of all: `failed` where one is bad, else `active` where one is open, else `complete`
abbrev pub joined_name : List Cdn → List ℕ
joined_name cdns = if list_any (λ cdn. is_bad cdn.standing) cdns then codes "failed"
    else (if list_any (λ cdn. is_open cdn.standing) cdns then codes "active" else codes "complete")

-- the joined status: a line for each CDN, in order, and one for all
abbrev pub report : List Cdn → List ℕ
report cdns = lines_of cdns ++ codes "joined " ++ joined_name cdns ++ codes "\n"
