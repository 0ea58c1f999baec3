-- Where a trigger is among triggers whose numbers rise.
use Rattle.std.proofs.Common.{◌≡◌, ℕ, zero, suc, ◌<◌, ◌≤◌, length, get_or, set, true, false, cond, not, List, [], ◌∷◌, ◌++◌, Some, refl, sym, ap, subst, ◌∙◌, arith, Result, Ok, Err}
use Rattle.std.specs.List.{remove}
use Rattle.std.specs.Option.{MatchOption}
use Rattle.std.proofs.lemmas.Bool.{eq-eqb, ne_eqb}
use Rattle.history.specs.Steps.{changed, ended, is_trigger, trigger_of}
use Rattle.history.specs.World.{Trigger}
use Rattle.std.specs.List.Sorted.{IsBinarySearchResult}
use Rattle.std.specs.Ordering.{nat_cmp}
use Rattle.std.specs.Result.{MatchResult, result_ok}
use Rattle.std.proofs.Math.Seq.{map-set_same}
use Rattle.std.proofs.lemmas.List.{length-map, map-append, set-get_or}
use Rattle.std.proofs.lemmas.List.Sorted.{searched}
use Rattle.trigger_table.proofs.Rising.{rising_above, rising_in_order}
use Rattle.trigger_table.specs.State.{HasTurn}
use Rattle.trigger_table.specs.declared.step.Step.{Step}
use Rattle.trigger_table.specs.declared.step.Step.TheVariants as step
use Rattle.trigger_table.specs.Triggers.{IsAbsent, IsAt, IsRising, StaysEnded, TriggersView, ids_of, without}

module _ (id : ℕ) where
  pub absent : (ts : List Trigger) → ((k : ℕ) → k < length (ids_of ts) → get_or (ids_of ts) k 0 ≡ id → ⊥) → IsAbsent id ts
  absent [] none = record { found = refl; change = λ f. refl; rest = refl }
  absent (t ∷ ts) none =
      let no : is_trigger id t ≡ false = ne_eqb t.job.id id (none 0 (omega arith)) in
      let later : IsAbsent id ts = absent ts (λ k lt. none (suc k) (omega arith)) in
      record {
        found = ap (λ b. cond b (Some t) (trigger_of id ts)) no ∙ later.found;
        change = λ f. ap (λ b. cond b (f t) t ∷ changed id f ts) no ∙ ap (λ xs. t ∷ xs) (later.change f);
        rest = ap (λ b. cond (not b) (t ∷ without id ts) (without id ts)) no ∙ ap (λ xs. t ∷ xs) later.rest;
      }

  pub present : (low high : ℕ) (ts : List Trigger) (i : ℕ) → IsRising low high (ids_of ts) → i < length (ids_of ts) → get_or (ids_of ts) i 0 ≡ id → IsAt id ts i
  present low high [] i up lt same = elim lt [ ]
  present low high (t ∷ ts) zero up lt same =
      let yes : is_trigger id t ≡ true = eq-eqb t.job.id id same in
      let later : IsAbsent id ts = absent ts (λ k lt' is. let above = rising_above t.job.id high (ids_of ts) up.1 k lt' in omega (arith, above, is, same)) in
      record {
        in_range = omega arith;
        number = λ d. same;
        found = λ d. ap (λ b. cond b (Some t) (trigger_of id ts)) yes;
        change = λ f d. ap (λ b. cond b (f t) t ∷ changed id f ts) yes ∙ ap (λ xs. f t ∷ xs) (later.change f);
        rest = ap (λ b. cond (not b) (t ∷ without id ts) (without id ts)) yes ∙ later.rest;
      }
  present low high (t ∷ ts) (suc i) up lt same =
      let above = rising_above t.job.id high (ids_of ts) up.1 i (omega arith) in
      let no : is_trigger id t ≡ false = ne_eqb t.job.id id (λ is. omega (arith, above, is, same)) in
      let later : IsAt id ts i = present t.job.id high ts i up.1 (omega arith) same in
      record {
        in_range = (let lt' = later.in_range in omega (arith, lt'));
        number = later.number;
        found = λ d. ap (λ b. cond b (Some t) (trigger_of id ts)) no ∙ later.found d;
        change = λ f d. ap (λ b. cond b (f t) t ∷ changed id f ts) no ∙ ap (λ xs. t ∷ xs) (later.change f d);
        rest = ap (λ b. cond (not b) (t ∷ without id ts) (without id ts)) no ∙ ap (λ xs. t ∷ xs) later.rest;
      }

  no_gap : (i k n : ℕ) → (k < i → n < id) → (i ≤ k → id < n) → n ≡ id → ⊥
  no_gap i k n less more same = grind arith

  placed_by : (low high : ℕ) (ts : List Trigger) (r : Result ℕ ℕ) → IsRising low high (ids_of ts)
      → MatchResult r (λ i. (i < length (ids_of ts)) × (get_or (ids_of ts) i 0 ≡ id)) (λ i. (i ≤ length (ids_of ts)) × ((k : ℕ) → k < i → get_or (ids_of ts) k 0 < id) × ((k : ℕ) → i ≤ k → k < length (ids_of ts) → id < get_or (ids_of ts) k 0))
      → MatchOption (result_ok r) (IsAbsent id ts) (IsAt id ts)
  placed_by low high ts (Ok i) up is = present low high ts i up is.0 is.1
  placed_by low high ts (Err i) up is = absent ts (λ k lt same. no_gap i k (get_or (ids_of ts) k 0) (is.1 k) (λ above. is.2 k above lt) same)

  -- what a binary search finds
  pub placed : (high : ℕ) (ts : List Trigger) (ids : List ℕ) (r : Result ℕ ℕ) → ids ≡ ids_of ts → IsRising 0 high ids → IsBinarySearchResult (λ y. nat_cmp y id) ids r
      → MatchOption (result_ok r) (IsAbsent id ts) (IsAt id ts)
  placed high ts ids r same up search =
      let up' : IsRising 0 high (ids_of ts) = subst (IsRising 0 high) same up in
      let search' : IsBinarySearchResult (λ y. nat_cmp y id) (ids_of ts) r = subst (λ (xs : List ℕ). IsBinarySearchResult (λ y. nat_cmp y id) xs r) same search in
      placed_by 0 high ts r up' (searched (ids_of ts) id r search' (rising_in_order 0 high (ids_of ts) up'))

  -- the trigger at the place is written over
  pub set_at : (ts : List Trigger) (place : ℕ) (f : Trigger → Trigger) (old new : Trigger) → IsAt id ts place → old ≡ get_or ts place old → new ≡ f old → set ts place new ≡ changed id f ts
  set_at ts place f old new at is made = ap (set ts place) (made ∙ ap f is) ∙ sym (at.change f old)

pub set_ids : (ts : List Trigger) (place : ℕ) (old new : Trigger) → old ≡ get_or ts place old → new.job.id ≡ old.job.id → ids_of (set ts place new) ≡ ids_of ts
set_ids ts place old new is same = map-set_same (λ (t : Trigger). t.job.id) ts place new old (same ∙ ap (λ (t : Trigger). t.job.id) is)

pub remove_ids : (ts : List Trigger) (place : ℕ) → ids_of (remove ts place) ≡ remove (ids_of ts) place
remove_ids [] zero = refl
remove_ids [] (suc place) = refl
remove_ids (t ∷ ts) zero = refl
remove_ids (t ∷ ts) (suc place) = ap (λ xs. t.job.id ∷ xs) (remove_ids ts place)

pub push_ids : (ts : List Trigger) (ids : List ℕ) (t : Trigger) → ids ≡ ids_of ts → ids ++ t.job.id ∷ [] ≡ ids_of (ts ++ t ∷ [])
push_ids ts ids t same = ap (λ (xs : List ℕ). xs ++ t.job.id ∷ []) same ∙ sym (map-append (λ (x : Trigger). x.job.id) ts (t ∷ []))

pub in_ids : (ts : List Trigger) (ids : List ℕ) (id place : ℕ) → ids ≡ ids_of ts → IsAt id ts place → place < length ids
in_ids ts ids id place same at = let r = at.in_range in rw (same, length-map) r

-- the view with these triggers
abbrev pub seen_with : ℕ → ℕ → List Trigger → TriggersView
seen_with most created triggers = record { triggers = triggers; most = most; created = created }

-- where it has ended before, it does not end again
pub stays_ended : (id : ℕ) (ts : List Trigger) (place : ℕ) (t : Trigger) (s : Step) → IsAt id ts place → t ≡ get_or ts place t → HasTurn s t → StaysEnded id s ts
stays_ended id ts place t step.Unknown at is turn = tt
stays_ended id ts place t (step.Final status) at is turn = λ moment. at.change (ended moment status) t ∙ ap (λ u. set ts place (ended moment status u)) (sym is) ∙ ap (set ts place) (turn moment ∙ is) ∙ set-get_or ts place t
stays_ended id ts place t (step.Claimed claimant) at is turn = tt
stays_ended id ts place t (step.StepOpen number) at is turn = tt
stays_ended id ts place t step.Start at is turn = tt
stays_ended id ts place t step.Refresh at is turn = tt
stays_ended id ts place t (step.Url url) at is turn = tt
stays_ended id ts place t (step.End status) at is turn = tt
