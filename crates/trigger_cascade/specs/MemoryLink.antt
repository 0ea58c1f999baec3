-- Links in memory.
use Rattle.std.specs.Prelude.{◌≡◌, ◌⊎◌, ℕ, ◌+◌, ◌≤◌, min, Bool, true, false, List, [], ◌∷◌, ◌++◌, length, None, Some}
use Rattle.std.specs.Prelude.{Ok, Err, drop}
use Rattle.std.specs.declared.option.Option.{Option}
use Rattle.std.specs.declared.result.Result.{Result}
use Rattle.trigger_cascade.specs.declared.link.LinkCall.{LinkCall}
use Rattle.trigger_cascade.specs.declared.link.Polled.{Polled}
use Rattle.trigger_cascade.specs.declared.link.Polled.TheVariants as polled
use Rattle.trigger_cascade.specs.declared.link.Posted.{Posted}
use Rattle.trigger_cascade.specs.declared.link.Posted.TheVariants as posted

-- both lists of answers, how many of each were given, the calls that were remembered, whether all were, and the faults
pub record Taped : Type 0 where
  pub posts : List Posted
  pub polls : List Polled
  pub posted : ℕ
  pub polled : ℕ
  pub made : List LinkCall
  pub telling : Bool
  pub faults : ℕ

abbrev pub told_if : Bool → List LinkCall → Option (List LinkCall)
told_if true made = Some made
told_if false made = None

-- what the link tells of its calls
abbrev pub told_of : Taped → Option (List LinkCall)
told_of link = told_if link.telling link.made

-- the answer that comes next: where the list has none, a failure
abbrev pub next_post : List Posted → Posted
next_post [] = posted.Failed
next_post (answer ∷ answers) = answer

abbrev pub next_poll : List Polled → Polled
next_poll [] = polled.Failed
next_poll (answer ∷ answers) = answer

-- an answer that was copied, or want of memory
abbrev pub or_memory : {E : Type 0} → Result Posted E → Posted
or_memory (Ok answer) = answer
or_memory (Err wrong) = posted.Memory

abbrev pub IsNextPost : Taped → Posted → Type 0
IsNextPost link result = (result ≡ next_post (drop link.posted link.posts)) ⊎ (result ≡ posted.Memory)

abbrev pub IsNextPoll : Taped → Polled → Type 0
IsNextPoll link result = result ≡ next_poll (drop link.polled link.polls)

-- how many answers were given after one more
abbrev pub place_behind : {A : Type 0} → ℕ → List A → ℕ
place_behind place answers = min (place + 1) (length answers)

-- what was given is within the lists
abbrev pub IsInStep : List Posted → List Polled → ℕ → ℕ → Type 0
IsInStep posts polls posted polled = (posted ≤ length posts) × (polled ≤ length polls)
