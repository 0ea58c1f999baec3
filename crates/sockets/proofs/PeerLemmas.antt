-- Texts in brackets.
use Rattle.std.proofs.Common.{◌≡◌, ℕ, List, [], ◌∷◌, ◌++◌, drop, sym, ◌∙◌, ap, Option, None, Some, MatchOption, Bor}
use Rattle.std.specs.Prelude.{◌≢◌}
use Rattle.sockets.specs.Peer.{bracketed}

-- without `[` in front it is not in brackets
pub no_bracket : (host : List ℕ) → ((rest : List ℕ) → host ≢ 91 ∷ rest) → (inner : List ℕ) → host ≢ bracketed inner
no_bracket host none inner is = none (inner ++ 93 ∷ []) is

-- behind `[` it is in brackets exactly where `]` ends it
pub behind_bracket : (host rest : List ℕ) (found : Option (Bor (List ℕ))) → host ≡ 91 ∷ rest
    → MatchOption found ((front : List ℕ) → rest ≢ front ++ (93 ∷ [])) (λ inner. rest ≡ inner.now ++ (93 ∷ []))
    → MatchOption found ((inner : List ℕ) → host ≢ bracketed inner) (λ inner. host ≡ bracketed inner.now)
behind_bracket host rest None first none = λ inner is. none inner (ap (drop 1) (sym first ∙ is))
behind_bracket host rest (Some inner) first last = first ∙ ap (λ (l : List ℕ). 91 ∷ l) last
