-- One moment more.
use Rattle.std.proofs.Common.{◌≡◌, ℕ, ◌+◌, min, ◌==◌, Bool, true, false, cond, List, [], ◌∷◌, ◌++◌, refl, ap, ◌∙◌, arith, None, Some}
use Rattle.std.proofs.Math.Numerals.{add-one}
use Rattle.std.proofs.lemmas.Bool.{eqb-true, eqb-false}
use Rattle.edge_base.specs.Clock.{Grows}
use Rattle.edge_base.specs.ListClock.{Ticks, moment_at, first_moments, moments_given, after_moment}
use Rattle.edge_base.specs.declared.list_clock.TheConstants.{MOST_CALLS}

first_moments_next : (moments : List ℕ) (n : ℕ) → first_moments moments (n + 1) ≡ first_moments moments n ++ moment_at moments n ∷ []
unfolding first_moments
first_moments_next moments n = rw (add-one n) refl

grows : (moments : List ℕ) (calls : ℕ) (full filled : Bool) → (calls == MOST_CALLS) ≡ full → (min (calls + 1) MOST_CALLS == MOST_CALLS) ≡ filled
    → Grows (cond full None (Some (first_moments moments calls))) (cond filled None (Some (first_moments moments (min (calls + 1) MOST_CALLS)))) (moment_at moments calls ∷ [])
grows moments calls true true is then = tt
grows moments calls true false is then = absurd (eqb-false _ _ then (omega (arith, eqb-true _ _ is)))
grows moments calls false true is then = tt
grows moments calls false false is then =
    let more : min (calls + 1) MOST_CALLS ≡ calls + 1 = omega (arith, eqb-false _ _ then) in ap (first_moments moments) more ∙ first_moments_next moments calls

pub one_moment_more : (clock : Ticks) → Grows (moments_given clock) (moments_given (after_moment clock)) (moment_at clock.moments clock.calls ∷ [])
one_moment_more clock = grows clock.moments clock.calls _ _ refl refl
