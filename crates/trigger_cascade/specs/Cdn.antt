-- How a CDN stands to a command that is passed on.
use Rattle.std.specs.Prelude.{ℕ, List, [], ◌∷◌, None, Some, sum_by}
use Rattle.std.specs.declared.option.Option.{Option}
use Rattle.trigger_cascade.specs.declared.cdn.Cdn.{Cdn}
use Rattle.trigger_cascade.specs.declared.cdn.Standing.{Standing}
use Rattle.trigger_cascade.specs.declared.cdn.Standing.TheVariants as standing
use Rattle.trigger_cascade.specs.declared.far.Far.TheVariants.{Pending}
use Rattle.trigger_cascade.specs.declared.link.Polled.{Polled}
use Rattle.trigger_cascade.specs.declared.link.Polled.TheVariants as polled
use Rattle.trigger_cascade.specs.declared.link.Posted.{Posted}
use Rattle.trigger_cascade.specs.declared.link.Posted.TheVariants as posted

-- how it stands after this answer to the command; want of memory ends all
abbrev pub after_post : Posted → Option Standing
after_post (posted.Created place) = Some (standing.Took place Pending)
after_post (posted.Refused status) = Some (standing.Refused status)
after_post posted.Malformed = Some standing.Malformed
after_post posted.Failed = Some standing.Fault
after_post posted.Memory = None

-- how it stands after this answer to a poll of the place of its status resource
abbrev pub after_poll : List ℕ → Polled → Option Standing
after_poll place (polled.Status far) = Some (standing.Took place far)
after_poll place polled.Unreadable = Some standing.Unreadable
after_poll place polled.Failed = Some standing.Fault
after_poll place polled.Memory = None

-- how many of its connections failed
abbrev pub fault_of : Standing → ℕ
fault_of standing.Waiting = 0
fault_of standing.Skipped = 0
fault_of (standing.Took place last) = 0
fault_of (standing.Refused status) = 0
fault_of standing.Malformed = 0
fault_of standing.Unreadable = 0
fault_of standing.Fault = 1

-- how many connections to these CDNs failed
abbrev pub fault_count : List Cdn → ℕ
fault_count cdns = sum_by (λ cdn. fault_of cdn.standing) cdns

-- the command is still to be posted to it
abbrev pub IsWaiting : Standing → Type 0
IsWaiting standing.Waiting = Unit {0}
IsWaiting standing.Skipped = ⊥
IsWaiting (standing.Took place last) = ⊥
IsWaiting (standing.Refused status) = ⊥
IsWaiting standing.Malformed = ⊥
IsWaiting standing.Unreadable = ⊥
IsWaiting standing.Fault = ⊥

abbrev pub AreWaiting : List Cdn → Type 0
AreWaiting [] = Unit {0}
AreWaiting (cdn ∷ cdns) = IsWaiting cdn.standing × AreWaiting cdns
