-- The places of faults: how much of a text some accepted text begins with.
use Rattle.std.specs.Prelude.{◌≡◌, ℕ, List, take, drop, Some, Ok, Err}
use Rattle.std.specs.List.{prefix_len}
use Rattle.std.specs.Option.{option_map_or}
use Rattle.std.specs.declared.option.Option.{Option}
use Rattle.std.specs.declared.result.Result.{Result}
use Rattle.listing.specs.Fronts.{IsLongestFront}
use Rattle.targets.specs.declared.endpoint.Endpoint.{Endpoint}
use Rattle.targets.specs.declared.endpoint.EndpointFault.{EndpointFault}
use Rattle.targets.specs.declared.endpoint.EndpointFault.TheVariants as endpoint_fault
use Rattle.targets.specs.declared.target.Target.{Target}
use Rattle.targets.specs.declared.target.TargetFault.{TargetFault}
use Rattle.targets.specs.declared.target.TargetFault.TheVariants as target_fault
use Rattle.targets.specs.Target.{scheme_of, scheme_length, is_before_path}
use Rattle.targets.specs.Grammar.{IsEndpoint}

-- the text is some endpoint
abbrev pub IsSomeEndpoint : List ℕ → Type 0
IsSomeEndpoint text = (endpoint : Endpoint) × IsEndpoint text endpoint

-- the fault of an endpoint stands there
abbrev pub StandsAtFront : List ℕ → Result Endpoint EndpointFault → Type 0
StandsAtFront text (Err (endpoint_fault.BadHost at)) = IsLongestFront IsSomeEndpoint text at
StandsAtFront text (Err (endpoint_fault.BadPort at)) = IsLongestFront IsSomeEndpoint text at
StandsAtFront text (Err endpoint_fault.Memory) = Unit {0}
StandsAtFront text (Ok endpoint) = Unit {0}

-- what follows a scheme up to the first `/` or `?`
abbrev pub authority_of : List ℕ → List ℕ
authority_of rest = take (prefix_len is_before_path rest) rest

-- the text of a target's endpoint: behind its scheme, or the host that is given where it has none
abbrev pub endpoint_text : List ℕ → Option (List ℕ) → Option (List ℕ)
endpoint_text text host =
    option_map_or (λ scheme. Some (authority_of (drop (scheme_length scheme) text))) (scheme_of text) host

-- a wrong endpoint of a target is found there
abbrev pub StandsInEndpoint : List ℕ → Option (List ℕ) → Result Target TargetFault → Type 0
StandsInEndpoint text host (Err (target_fault.BadHost at)) = (authority : List ℕ)
    × (endpoint_text text host ≡ Some authority) × IsLongestFront IsSomeEndpoint authority at
StandsInEndpoint text host result = Unit {0}
