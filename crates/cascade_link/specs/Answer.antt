-- What the answers of a far CDN mean (RFC 8007, sections 4.1 and 4.2).
use Rattle.std.specs.Prelude.{◌≡◌, ◌≢◌, ◌⊎◌, ℕ, List, [], ◌∷◌, codes, None, Some}
use Rattle.std.specs.declared.option.Option.{Option}
use Rattle.http_wire.specs.Fields.{values_of}
use Rattle.http_wire.specs.Response.{ResponseParts}
use Rattle.trigger_cascade.specs.Far.{far_of}
use Rattle.trigger_cascade.specs.declared.link.Polled.{Polled}
use Rattle.trigger_cascade.specs.declared.link.Polled.TheVariants as polled
use Rattle.trigger_cascade.specs.declared.link.Posted.{Posted}
use Rattle.trigger_cascade.specs.declared.link.Posted.TheVariants as posted
use Rattle.upstream_gate.specs.declared.outcome.Outcome.{Outcome}
use Rattle.upstream_gate.specs.declared.outcome.Outcome.TheVariants as outcome

-- the one Location, where there is one
abbrev pub place_in : List (List ℕ) → Option (List ℕ)
place_in [] = None
place_in (value ∷ []) = Some value
place_in (value ∷ other ∷ values) = None

-- a 201 with one Location is Created, a 201 without is malformed, and another status is a refusal
abbrev pub MeansHead : ResponseParts → Posted → Type 0
MeansHead head (posted.Created place) = (head.status ≡ 201)
    × (place_in (values_of (codes "location") head.headers) ≡ Some place)
MeansHead head (posted.Refused status) = (head.status ≢ 201) × (status ≡ head.status)
MeansHead head posted.Malformed = (head.status ≡ 201)
    × (place_in (values_of (codes "location") head.headers) ≡ None)
MeansHead head posted.Failed = ⊥
MeansHead head posted.Memory = Unit {0}

-- a 200 that shows a status is that status, and every other answer is unreadable
abbrev pub MeansOutcome : Outcome → Polled → Type 0
MeansOutcome (outcome.Got got) (polled.Status far) = (got.status ≡ 200) × (far_of got.body ≡ Some far)
MeansOutcome (outcome.Got got) polled.Unreadable = (got.status ≢ 200) ⊎ (far_of got.body ≡ None)
MeansOutcome (outcome.Got got) polled.Failed = ⊥
MeansOutcome (outcome.Got got) polled.Memory = Unit {0}
MeansOutcome outcome.Failed result = result ≡ polled.Failed
MeansOutcome outcome.Memory result = result ≡ polled.Memory
MeansOutcome other result = result ≡ polled.Unreadable
