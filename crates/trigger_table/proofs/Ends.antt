-- Triggers that are changed one after the other.
use Rattle.std.proofs.Common.{◌≡◌, ℕ, zero, suc, ◌+◌, ◌<◌, ◌≤◌, length, get_or, set, Bool, true, false, cond, List, [], ◌∷◌, map, refl, sym, ap, ◌∙◌, arith, add-one}
use Rattle.history.specs.Steps.{awaits_fetch, awaits_refresh, fetched, refreshed}
use Rattle.history.specs.World.{Trigger}
use Rattle.trigger_table.specs.State.{fetch_ended_in, refresh_ended_in}
use Rattle.trigger_table.specs.Triggers.{ids_of}

module _ (f : Trigger → Trigger) where
  -- the first so many are changed
  abbrev pub upto : ℕ → List Trigger → List Trigger
  upto zero ts = ts
  upto (suc i) [] = []
  upto (suc i) (t ∷ ts) = f t ∷ upto i ts

  set_suc : (i : ℕ) (d : Trigger) (ts : List Trigger) → i < length ts → set (upto i ts) i (f (get_or (upto i ts) i d)) ≡ upto (suc i) ts
  set_suc i d [] lt = absurd (omega (arith, lt))
  set_suc zero d (t ∷ ts) lt = refl
  set_suc (suc i) d (t ∷ ts) lt = ap (λ us. f t ∷ us) (set_suc i d ts (omega (arith, lt)))

  pub set_upto : (i : ℕ) (d : Trigger) (ts us : List Trigger) (u : Trigger) → i < length ts → us ≡ upto i ts → u ≡ f (get_or us i d) → set us i u ≡ upto (i + 1) ts
  set_upto i d ts us u lt is new = rw (new, is) (set_suc i d ts lt) ∙ ap (λ n. upto n ts) (sym (add-one i))

  pub whole : (i : ℕ) (ts us : List Trigger) → us ≡ upto i ts → length ts ≤ i → us ≡ map f ts
  whole zero [] us is le = is
  whole zero (t ∷ ts) us is le = absurd (omega (arith, le))
  whole (suc i) [] us is le = is
  whole (suc i) (t ∷ ts) us is le = is ∙ ap (λ vs. f t ∷ vs) (whole i ts (upto i ts) refl (omega (arith, le)))

  pub same_ids : ((t : Trigger) → (f t).job.id ≡ t.job.id) → (ts : List Trigger) → ids_of (map f ts) ≡ ids_of ts
  same_ids same [] = refl
  same_ids same (t ∷ ts) = ap (λ n. n ∷ ids_of (map f ts)) (same t) ∙ ap (λ ns. t.job.id ∷ ns) (same_ids same ts)

fetched_id : (good : Bool) (t : Trigger) → (fetched good t).job.id ≡ t.job.id
fetched_id true t = refl
fetched_id false t = refl

refreshed_id : (good : Bool) (t : Trigger) → (refreshed good t).job.id ≡ t.job.id
refreshed_id true t = refl
refreshed_id false t = refl

pub fetch_id : (fetch : ℕ) (good : Bool) (t : Trigger) → (fetch_ended_in fetch good t).job.id ≡ t.job.id
fetch_id fetch good t = elim (awaits_fetch fetch t.awaited) as (λ b. (cond b (fetched good t) t).job.id ≡ t.job.id) [ true ↦ fetched_id good t | false ↦ refl ]

pub refresh_id : (refresh : ℕ) (good : Bool) (t : Trigger) → (refresh_ended_in refresh good t).job.id ≡ t.job.id
refresh_id refresh good t = elim (awaits_refresh refresh t.awaited) as (λ b. (cond b (refreshed good t) t).job.id ≡ t.job.id) [ true ↦ refreshed_id good t | false ↦ refl ]
