-- What a cancel does to the triggers that it names.
use Rattle.std.proofs.Common.{◌≡◌, ℕ, zero, suc, Bool, true, false, ◌||◌, cond, Contains, List, [], ◌∷◌, ◌++◌, refl, sym, ap, ◌∙◌, subst, None, Some, Option, inl, inr, arith}
use Rattle.std.specs.List.{cons_option, filter_map, list_any, slice_get}
use Rattle.std.specs.Option.{option_map}
use Rattle.std.proofs.lemmas.Bool.{both_ways, cases_Bool, eqb-true, or_left, or_right}
use Rattle.std.proofs.lemmas.Option.{none-some, same_Some}
use Rattle.history.proofs.Cases.{cancel_cases}
use Rattle.history.proofs.Words.{world_push}
use Rattle.history.specs.After.{triggers_after}
use Rattle.history.specs.Event.{Entry, History, Cancel}
use Rattle.history.specs.History.{reply_to, world_of}
use Rattle.history.specs.Reply.{cancel_reply, reply_in}
use Rattle.history.specs.Steps.{cancelled, cancelled_from, first_unknown, is_trigger, statuses_of, trigger_of}
use Rattle.history.specs.World.{Made, Trigger, World}
use Rattle.history.specs.declared.reply.Reply.{Reply}
use Rattle.history.specs.declared.reply.Reply.TheVariants as reply
use Rattle.trigger_law.proofs.FinalLemmas.{found_is}
use Rattle.trigger_law.proofs.NumberLemmas.{cancel_found, triggers_are}
use Rattle.trigger_law.specs.Accounts.{IsCancelled, cancelled_status}
use Rattle.trigger_status.specs.declared.job.JobStatus.{JobStatus}
use Rattle.trigger_status.specs.declared.job.JobStatus.TheVariants.{Pending, Active, Complete, Failed, Cancelling, Cancelled}

-- ---- lists

any_found : (id : ℕ) (triggers : List Trigger) → list_any (is_trigger id) triggers ≡ true → (t : Trigger) × (trigger_of id triggers ≡ Some t)
any_found id [] is = absurd (both_ways false refl is)
any_found id (x ∷ xs) is = elim (cases_Bool (is_trigger id x)) [
  | inl this ↦ (x, ap (λ b. cond b (Some x) (trigger_of id xs)) this)
  | inr other ↦
      let later = any_found id xs (sym (ap (λ (b : Bool). b || list_any (is_trigger id) xs) other) ∙ is) in
      (later.0, ap (λ b. cond b (Some x) (trigger_of id xs)) other ∙ later.1)
]

-- where none is unknown each is known
each_known : (triggers : List Trigger) (ids : List ℕ) → first_unknown triggers ids ≡ None → (place id : ℕ) → slice_get ids place ≡ Some id → list_any (is_trigger id) triggers ≡ true
each_known triggers [] none place id is = absurd (none-some id is)
each_known triggers (x ∷ xs) none zero id is = elim (cases_Bool (list_any (is_trigger x) triggers)) [
  | inl known ↦ subst (λ n. list_any (is_trigger n) triggers ≡ true) (same_Some x id is) known
  | inr unknown ↦ absurd (none-some x (sym none ∙ ap (λ b. cond b (first_unknown triggers xs) (Some x)) unknown))
]
each_known triggers (x ∷ xs) none (suc place) id is = elim (cases_Bool (list_any (is_trigger x) triggers)) [
  | inl known ↦ each_known triggers xs (sym (ap (λ b. cond b (first_unknown triggers xs) (Some x)) known) ∙ none) place id is
  | inr unknown ↦ absurd (none-some x (sym none ∙ ap (λ b. cond b (first_unknown triggers xs) (Some x)) unknown))
]

-- what a list gives for each item, where it gives something for each
given_at : {A B : Type 0} (f : A → Option B) (xs : List A) → ((k : ℕ) (x : A) → slice_get xs k ≡ Some x → (y : B) × (f x ≡ Some y)) → (place : ℕ) (x : A) → slice_get xs place ≡ Some x
    → (y : B) × (f x ≡ Some y) × (slice_get (filter_map f xs) place ≡ Some y)
given_at f [] each place x is = absurd (none-some x is)
given_at f (z ∷ zs) each zero x is =
    let first = each zero x is in
    (first.0, first.1, ap (λ o. slice_get (cons_option o (filter_map f zs)) zero) (ap f (same_Some z x is) ∙ first.1))
given_at f (z ∷ zs) each (suc place) x is =
    let first = each zero z refl in
    let later = given_at f zs (λ k. each (suc k)) place x is in
    (later.0, later.1, ap (λ o. slice_get (cons_option o (filter_map f zs)) (suc place)) first.1 ∙ later.2)

named_any : (ids : List ℕ) (place id : ℕ) (t : Trigger) → slice_get ids place ≡ Some id → is_trigger id t ≡ true → list_any (λ one. is_trigger one t) ids ≡ true
named_any [] place id t is named = absurd (none-some id is)
named_any (x ∷ xs) zero id t is named = or_left (is_trigger x t) (list_any (λ one. is_trigger one t) xs) (subst (λ n. is_trigger n t ≡ true) (sym (same_Some x id is)) named)
named_any (x ∷ xs) (suc place) id t is named = or_right (is_trigger x t) (list_any (λ one. is_trigger one t) xs) (named_any xs place id t is named)

not_named : (ids : List ℕ) (id : ℕ) (t : Trigger) → (Contains ids id → ⊥) → is_trigger id t ≡ true → list_any (λ one. is_trigger one t) ids ≡ false
not_named [] id t none is = refl
not_named (x ∷ xs) id t none is = elim (cases_Bool (is_trigger x t)) [
  | inl named ↦ absurd (none (0, omega arith, sym (eqb-true t.job.id x named) ∙ eqb-true t.job.id id is))
  | inr other ↦ ap (λ (b : Bool). b || list_any (λ one. is_trigger one t) xs) other ∙ not_named xs id t (λ has. let below = has.1 in none (suc has.0, omega (arith, below), has.2)) is
]

-- ---- the answer

abbrev statuses_told : Reply → Option (List JobStatus)
statuses_told (reply.Statuses list) = Some list
statuses_told answer = None

module _ (w : World) (pass moment : ℕ) (ids : List ℕ) where
  abbrev ts : List Trigger
  ts = w.controlling.triggers

  abbrev Tells : Reply → Type 0
  Tells r = (list : List JobStatus) → statuses_told r ≡ Some list → (first_unknown ts ids ≡ None) × (list ≡ statuses_of (cancelled moment ids ts) ids)

  tells_by : (unknown : Option ℕ) → first_unknown ts ids ≡ unknown → Tells (cancel_reply w ids moment unknown)
  tells_by None none list is = (none, sym (same_Some (statuses_of (cancelled moment ids ts) ids) list is))
  tells_by (Some id) some list is = absurd (none-some list is)

  tells : Tells (reply_in w (pass, Cancel ids moment))
  unfolding reply_in
  tells = tells_by (first_unknown ts ids) refl

  -- what the cancel makes of a trigger
  abbrev made_of : Trigger → Trigger
  made_of t = cond (list_any (λ one. is_trigger one t) ids) (cancelled_from moment t.job.status t) t

  cancelled_so : (before : JobStatus) (t : Trigger) → t.job.status ≡ before → ((cancelled_from moment before t).job.status ≡ cancelled_status before) × ((cancelled_from moment before t).job.spec ≡ t.job.spec)
  cancelled_so Pending t is = (refl, refl)
  cancelled_so Active t is = (refl, refl)
  cancelled_so Complete t is = (is, refl)
  cancelled_so Failed t is = (is, refl)
  cancelled_so Cancelling t is = (is, refl)
  cancelled_so Cancelled t is = (is, refl)

  -- the triggers after it, which is answered so or names one that is unknown
  abbrev Leaves : Reply → Type 0
  Leaves r = (id : ℕ) → (triggers_after w (pass, Cancel ids moment) r ≡ ts) → trigger_of id (triggers_after w (pass, Cancel ids moment) r) ≡ trigger_of id ts

  other_left : (id : ℕ) → (Contains ids id → ⊥) → (found : Option Trigger) → trigger_of id ts ≡ found → option_map made_of found ≡ found
  other_left id none None is = refl
  other_left id none (Some t) is = ap (λ b. Some (cond b (cancelled_from moment t.job.status t) t)) (not_named ids id t none (found_is id ts t is))

  pub others_left : (id : ℕ) → (Contains ids id → ⊥) → trigger_of id (triggers_after w (pass, Cancel ids moment) (reply_in w (pass, Cancel ids moment))) ≡ trigger_of id ts
  others_left id none = cancel_cases w pass (λ r. trigger_of id (triggers_after w (pass, Cancel ids moment) r) ≡ trigger_of id ts) ids moment (λ n. refl)
      (λ list. cancel_found id moment ids ts ∙ other_left id none (trigger_of id ts) refl)

module _ (made : Made) (h : History) (pass moment : ℕ) (ids : List ℕ) where
  abbrev e : Entry
  e = (pass, Cancel ids moment)

  abbrev v : World
  v = world_of made h

  left : (id : ℕ) → trigger_of id (world_of made (h ++ e ∷ [])).controlling.triggers ≡ trigger_of id (triggers_after v e (reply_to made h e))
  left id = ap (λ (x : World). trigger_of id x.controlling.triggers) (world_push made h e) ∙ ap (trigger_of id) (triggers_are v e)

  pub others_stay : (id : ℕ) → (Contains ids id → ⊥) → trigger_of id (world_of made (h ++ e ∷ [])).controlling.triggers ≡ trigger_of id v.controlling.triggers
  others_stay id none = left id ∙ others_left v pass moment ids id none

  pub named_cancelled : (place id : ℕ) (list : List JobStatus) → reply_to made h e ≡ reply.Statuses list → slice_get ids place ≡ Some id
      → (status : JobStatus) × (slice_get list place ≡ Some status) × IsCancelled made h e id status
  named_cancelled place id list is there =
      let told = tells v pass moment ids list (ap statuses_told is) in
      let found : (k n : ℕ) → slice_get ids k ≡ Some n → (t : Trigger) × (trigger_of n v.controlling.triggers ≡ Some t) = λ k n at. any_found n v.controlling.triggers (each_known v.controlling.triggers ids told.0 k n at) in
      let status_after : (n : ℕ) → Option JobStatus = λ n. option_map (λ (t : Trigger). t.job.status) (trigger_of n (cancelled moment ids v.controlling.triggers)) in
      let given = given_at status_after ids (λ k n at. let t = found k n at in
      ((made_of v pass moment ids t.0).job.status, ap (option_map (λ (x : Trigger). x.job.status)) (cancel_found n moment ids v.controlling.triggers ∙ ap (option_map (made_of v pass moment ids)) t.1))) place id there in
      let this = found place id there in
      let changed = made_of v pass moment ids this.0 in
      let named : changed ≡ cancelled_from moment this.0.job.status this.0 =
      ap (λ b. cond b (cancelled_from moment this.0.job.status this.0) this.0) (named_any ids place id this.0 there (found_is id v.controlling.triggers this.0 this.1)) in
      let after : trigger_of id (world_of made (h ++ e ∷ [])).controlling.triggers ≡ Some changed =
      left id ∙ ap (λ r. trigger_of id (triggers_after v e r)) is ∙ cancel_found id moment ids v.controlling.triggers ∙ ap (option_map (made_of v pass moment ids)) this.1 in
      let so = cancelled_so v pass moment ids this.0.job.status this.0 refl in (
        given.0,
        ap (λ l. slice_get l place) told.1 ∙ given.2,
        record {
          trigger = this.0;
          was = this.1;
          changed = changed;
          is = after;
          status_is = ap (λ (x : Trigger). x.job.status) named ∙ so.0;
          spec_is = ap (λ (x : Trigger). x.job.spec) named ∙ so.1;
          told = same_Some given.0 changed.job.status (sym given.1 ∙ ap (option_map (λ (x : Trigger). x.job.status)) (cancel_found id moment ids v.controlling.triggers ∙ ap (option_map (made_of v pass moment ids)) this.1));
        },
      )
