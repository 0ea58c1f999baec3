-- Asking the endpoints of a plan.
use Rattle.std.specs.Prelude.{◌≡◌, ℕ, ◌<◌, List, [], ◌∷◌, ◌++◌, length, ◌⊎◌, true, false}
use Rattle.targets.specs.declared.endpoint.Endpoint.{Endpoint}
use Rattle.targets.specs.declared.target.Target.{Target}
use Rattle.targets.specs.Target.{query_text}
use Rattle.upstream_gate.specs.declared.outcome.Outcome.{Outcome}
use Rattle.upstream_gate.specs.declared.outcome.Outcome.TheVariants.{Memory}
use Rattle.upstream_gate.specs.Outcome.{Exchange, is_last}

-- the path, and `?` and the query where there is one (RFC 9112, section 3.2.1)
abbrev pub origin_form : Target → List ℕ
origin_form target = target.path ++ query_text target.query

-- the exchange was made with this endpoint, for this target
abbrev pub IsAskOf : List ℕ → Endpoint → Exchange → Type 0
IsAskOf target endpoint exchange = exchange.ask ≡ record { endpoint = endpoint; target = target }

-- no ask follows, since this end was the last, or no endpoint is left
abbrev pub EndsWith : List Endpoint → List Exchange → Outcome → Outcome → Type 0
EndsWith endpoints made outcome result = (made ≡ []) × (outcome ≡ result)
    × ((is_last outcome ≡ true) ⊎ (endpoints ≡ []))

-- one ask was made of the endpoint, which ended so; or none, for want of memory
abbrev pub AskedOne : List ℕ → Endpoint → List Exchange → Outcome → Type 0
AskedOne target endpoint [] result = result ≡ Memory
AskedOne target endpoint (exchange ∷ []) result = IsAskOf target endpoint exchange × (exchange.outcome ≡ result)
AskedOne target endpoint (exchange ∷ other ∷ others) result = ⊥

-- These asks were made of the endpoints in order, and the last one ended so. No endpoint is asked after content or want
-- of memory, and the next one is after any other end. Want of memory may end the asking before an ask.
abbrev pub Asked : List ℕ → List Endpoint → List Exchange → Outcome → Type 0
Asked target endpoints [] result = result ≡ Memory
Asked target [] (exchange ∷ made) result = ⊥
Asked target (endpoint ∷ endpoints) (exchange ∷ made) result =
    IsAskOf target endpoint exchange ×
    (EndsWith endpoints made exchange.outcome result
    ⊎ ((is_last exchange.outcome ≡ false) × (0 < length endpoints) × Asked target endpoints made result))
