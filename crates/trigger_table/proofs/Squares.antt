-- What a step's end leaves is what a history leaves where the fetch or the refresh ends that the trigger alone waits for.
use Rattle.std.proofs.Common.{◌≡◌, ℕ, Bool, cond, List, [], ◌∷◌, None, Some, refl, ap, ◌∙◌}
use Rattle.std.specs.declared.option.Option.{Option}
use Rattle.history.specs.After.{ended_fetch, ended_refresh}
use Rattle.history.specs.Steps.{awaits_fetch, awaits_refresh, changed, fetched, is_trigger, refreshed}
use Rattle.history.specs.World.{Awaited, OneFetch, OneRefresh, Trigger}
use Rattle.trigger_table.specs.State.{ended_at, step_ended}

-- of these triggers, exactly that of this number waits so
abbrev pub IsAloneIn : ℕ → (Option Awaited → Bool) → List Trigger → Type 0
IsAloneIn id waits [] = Unit {0}
IsAloneIn id waits (t ∷ ts) = (is_trigger id t ≡ waits t.awaited) × IsAloneIn id waits ts

module _ (id number : ℕ) (good : Bool) where
  fetch_by : (awaited : Option Awaited) (t : Trigger) → cond (awaits_fetch number awaited) (ended_at good awaited t) t ≡ cond (awaits_fetch number awaited) (fetched good t) t
  fetch_by None t = refl
  fetch_by (Some (OneFetch n)) t = refl
  fetch_by (Some (OneRefresh n)) t = refl

  refresh_by : (awaited : Option Awaited) (t : Trigger) → cond (awaits_refresh number awaited) (ended_at good awaited t) t ≡ cond (awaits_refresh number awaited) (refreshed good t) t
  refresh_by None t = refl
  refresh_by (Some (OneFetch n)) t = refl
  refresh_by (Some (OneRefresh n)) t = refl

  pub ended_fetch_is : (ts : List Trigger) → IsAloneIn id (awaits_fetch number) ts → changed id (step_ended good) ts ≡ ended_fetch number good ts
  ended_fetch_is [] alone = refl
  ended_fetch_is (t ∷ ts) alone =
      ap (λ b. cond b (step_ended good t) t ∷ changed id (step_ended good) ts) alone.0
      ∙ ap (λ u. u ∷ changed id (step_ended good) ts) (fetch_by t.awaited t)
      ∙ ap (λ us. cond (awaits_fetch number t.awaited) (fetched good t) t ∷ us) (ended_fetch_is ts alone.1)

  pub ended_refresh_is : (ts : List Trigger) → IsAloneIn id (awaits_refresh number) ts → changed id (step_ended good) ts ≡ ended_refresh number good ts
  ended_refresh_is [] alone = refl
  ended_refresh_is (t ∷ ts) alone =
      ap (λ b. cond b (step_ended good t) t ∷ changed id (step_ended good) ts) alone.0
      ∙ ap (λ u. u ∷ changed id (step_ended good) ts) (refresh_by t.awaited t)
      ∙ ap (λ us. cond (awaits_refresh number t.awaited) (refreshed good t) t ∷ us) (ended_refresh_is ts alone.1)
