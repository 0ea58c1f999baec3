-- The rounds in which a command is passed on (RFC 8007, section 4.6), and the calls on the link that are made in them.
use Rattle.std.specs.Prelude.{◌≡◌, ℕ, zero, suc, ◌+◌, ◌≤◌, min, Bool, true, false, List, [], ◌∷◌, ◌++◌, None, Some, Ok}
use Rattle.std.specs.Prelude.{Err, bytes_eq, if◌then◌else◌, MatchBool}
use Rattle.std.specs.List.{list_any}
use Rattle.std.specs.Option.{option_map}
use Rattle.std.specs.declared.option.Option.{Option}
use Rattle.std.specs.declared.result.Result.{Result}
use Rattle.cdni_base.specs.declared.provider.ProviderId.{ProviderId}
use Rattle.edge_base.specs.declared.causes.TheConstants.{MOST_FAULTS}
use Rattle.targets.specs.declared.target.Target.{Target}
use Rattle.trigger_cascade.specs.Cdn.{after_poll, after_post, fault_count}
use Rattle.trigger_cascade.specs.Far.{is_final}
use Rattle.trigger_cascade.specs.declared.cdn.Cdn.{Cdn}
use Rattle.trigger_cascade.specs.declared.cdn.Standing.{Standing}
use Rattle.trigger_cascade.specs.declared.cdn.Standing.TheVariants as standing
use Rattle.trigger_cascade.specs.declared.link.LinkCall.{LinkCall}
use Rattle.trigger_cascade.specs.declared.link.LinkCall.TheVariants.{Post, Poll}
use Rattle.trigger_cascade.specs.declared.link.Polled.{Polled}
use Rattle.trigger_cascade.specs.declared.link.Posted.{Posted}

-- the path has this id
abbrev pub is_named : List ProviderId → ProviderId → Bool
is_named path id = list_any (λ passed. bytes_eq passed.0 id.0) path

-- a CDN that the command came through is skipped
abbrev pub started : List ProviderId → Cdn → Cdn
started path cdn = if is_named path cdn.id then record cdn { standing = standing.Skipped } else cdn

-- A visit of a CDN that takes commands at this target, the calls that are made of it, and how it stands then; want of
-- memory leaves nothing. One that waits is posted to. One that took the command is polled, unless its last status is
-- final. Nothing is asked of the others.
abbrev pub IsLeft : Standing → List LinkCall → Option Standing → Type 0
IsLeft standing made end = (made ≡ []) × (end ≡ Some standing)

abbrev pub Visit : List ℕ → Target → Standing → List LinkCall → Option Standing → Type 0
Visit body to standing.Waiting made end =
    (answer : Posted) × (made ≡ Post to body answer ∷ []) × (end ≡ after_post answer)
Visit body to (standing.Took place last) made end = MatchBool (is_final last)
    (IsLeft (standing.Took place last) made end)
    ((answer : Polled) × (made ≡ Poll place answer ∷ []) × (end ≡ after_poll place answer))
Visit body to standing.Skipped made end = IsLeft standing.Skipped made end
Visit body to (standing.Refused status) made end = IsLeft (standing.Refused status) made end
Visit body to standing.Malformed made end = IsLeft standing.Malformed made end
Visit body to standing.Unreadable made end = IsLeft standing.Unreadable made end
Visit body to standing.Fault made end = IsLeft standing.Fault made end

-- what follows makes these calls and ends so; nothing follows want of memory
abbrev pub Follows : {A B : Type 0} → (A → List LinkCall → Option B → Type 0) → Option A → List LinkCall → Option B
    → Type 0
Follows next None made end = (made ≡ []) × (end ≡ None)
Follows next (Some x) made end = next x made end

-- the CDNs are visited in order
abbrev pub Visits : List ℕ → List Cdn → List LinkCall → Option (List Cdn) → Type 0
Visits body [] made end = (made ≡ []) × (end ≡ Some [])
Visits body (cdn ∷ cdns) made end = (first : List LinkCall) × (rest : List LinkCall)
    × (standing : Option Standing) × (made ≡ first ++ rest) × Visit body cdn.to cdn.standing first standing
    × Follows (λ standing rest end. (others : Option (List Cdn)) × Visits body cdns rest others
    × (end ≡ option_map (λ xs. record cdn { standing = standing } ∷ xs) others)) standing rest end

-- they are visited in so many rounds
abbrev pub Passes : List ℕ → ℕ → List Cdn → List LinkCall → Option (List Cdn) → Type 0
Passes body zero cdns made end = (made ≡ []) × (end ≡ Some cdns)
Passes body (suc rounds) cdns made end = (first : List LinkCall) × (rest : List LinkCall)
    × (middle : Option (List Cdn)) × (made ≡ first ++ rest) × Visits body cdns first middle
    × Follows (Passes body rounds) middle rest end

-- how the CDNs stand at the end, unless no memory was found
abbrev pub end_of : {E : Type 0} → Result (Unit {0}) E → List Cdn → Option (List Cdn)
end_of (Ok done) cdns = Some cdns
end_of (Err wrong) cdns = None

abbrev pub standing_at : {E : Type 0} → Result (Unit {0}) E → Cdn → Option Standing
standing_at (Ok done) cdn = Some cdn.standing
standing_at (Err wrong) cdn = None

-- the count of faults did not fall, and rose by as many as the connections that failed became more, up to its last
-- value
abbrev pub Rises : ℕ → ℕ → ℕ → ℕ → Type 0
Rises before now old new = (before ≤ now) × (min (before + new) (MOST_FAULTS + old) ≤ now + old)

abbrev pub Counts : ℕ → ℕ → List Cdn → List Cdn → Type 0
Counts before now old new = Rises before now (fault_count old) (fault_count new)
