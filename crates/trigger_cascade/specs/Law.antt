-- What the rounds mean, in plain words.
use Rattle.std.specs.Prelude.{◌≡◌, ℕ, ◌+◌, ◌≤◌, Bool, true, false, List, [], ◌∷◌, bytes_eq, if◌then◌else◌}
use Rattle.cdni_base.specs.declared.provider.ProviderId.{ProviderId}
use Rattle.targets.specs.declared.target.Target.{Target}
use Rattle.trigger_cascade.specs.Far.{is_final}
use Rattle.trigger_cascade.specs.Passing.{is_named}
use Rattle.trigger_cascade.specs.declared.cdn.Cdn.{Cdn}
use Rattle.trigger_cascade.specs.declared.cdn.Standing.{Standing}
use Rattle.trigger_cascade.specs.declared.cdn.Standing.TheVariants as standing
use Rattle.trigger_cascade.specs.declared.link.LinkCall.{LinkCall}
use Rattle.trigger_cascade.specs.declared.link.LinkCall.TheVariants.{Post, Poll}

-- the commands that were posted, in order: to which target, and the body
abbrev pub posts_of : List LinkCall → List (Target × List ℕ)
posts_of [] = []
posts_of (Post to body answer ∷ made) = (to, body) ∷ posts_of made
posts_of (Poll place answer ∷ made) = posts_of made

-- one post of this body to each of these CDNs whose id is not in the path, in order
abbrev pub posts_due : List ProviderId → List ℕ → List Cdn → List (Target × List ℕ)
posts_due path body [] = []
posts_due path body (cdn ∷ cdns) = if is_named path cdn.id then posts_due path body cdns
    else (cdn.to, body) ∷ posts_due path body cdns

-- how often the status resource at this place was asked for
abbrev pub polls_at : List ℕ → List LinkCall → ℕ
polls_at place [] = 0
polls_at place (Post to body answer ∷ made) = polls_at place made
polls_at place (Poll other answer ∷ made) = if bytes_eq other place then 1 + polls_at place made
    else polls_at place made

-- a CDN whose last status is not final was polled this often
abbrev pub IsPolledOut : ℕ → List LinkCall → Standing → Type 0
IsPolledOut rounds made (standing.Took place last) = is_final last ≡ false → rounds ≤ polls_at place made
IsPolledOut rounds made standing.Waiting = ⊥
IsPolledOut rounds made standing.Skipped = Unit {0}
IsPolledOut rounds made (standing.Refused status) = Unit {0}
IsPolledOut rounds made standing.Malformed = Unit {0}
IsPolledOut rounds made standing.Unreadable = Unit {0}
IsPolledOut rounds made standing.Fault = Unit {0}

abbrev pub ArePolledOut : ℕ → List LinkCall → List Cdn → Type 0
ArePolledOut rounds made [] = Unit {0}
ArePolledOut rounds made (cdn ∷ cdns) = IsPolledOut rounds made cdn.standing × ArePolledOut rounds made cdns
