-- A cancel of many triggers, one after the other.
use Rattle.std.proofs.Common.{◌≡◌, ℕ, suc, ◌+◌, ◌<◌, length, get_or, take, drop, Bool, true, false, cond, List, [], ◌∷◌, ◌++◌, None, Some, Ok, refl, sym, ap, ◌∙◌, ◌==◌, ◌||◌, add-one}
use Rattle.std.specs.List.{find, cons_option, list_any}
use Rattle.std.specs.Option.{MatchOption, is_some, option_map, option_to_list}
use Rattle.std.specs.declared.option.Option.{Option}
use Rattle.std.proofs.Math.Seq.{drop-cons, take-suc}
use Rattle.std.proofs.lemmas.List.Elements.{filter_map-append}
use Rattle.std.proofs.lemmas.List.Folds.{list_any-append}
use Rattle.trigger_status.specs.declared.job.JobStatus.{JobStatus}
use Rattle.trigger_status.specs.declared.job.JobStatus.TheVariants as status
use Rattle.history.specs.Steps.{cancelled, cancelled_from, changed, first_unknown, is_trigger, statuses_of, trigger_of}
use Rattle.history.specs.World.{Trigger}
use Rattle.trigger_table.specs.State.{cancel_of, cancelled_status}
use Rattle.trigger_table.specs.Triggers.{IsAbsent, IsAt, cancel_reply, cancel_reply_by, cancelled_statuses}

-- ---- the first unknown number

pub any_found : {A : Type 0} (p : A → Bool) (xs : List A) → is_some (find p xs) ≡ list_any p xs
any_found p [] = refl
any_found p (x ∷ xs) = elim (p x) as (λ t. is_some (cond t (Some x) (find p xs)) ≡ (t || list_any p xs)) [ true ↦ refl | false ↦ any_found p xs ]

has_some : (id : ℕ) (ts : List Trigger) (place : ℕ) → IsAt id ts place → true ≡ list_any (is_trigger id) ts
has_some id [] place at = elim at.in_range [ ]
has_some id (t ∷ ts) place at = ap (λ (o : Option Trigger). is_some o) (sym (at.found t)) ∙ any_found (is_trigger id) (t ∷ ts)

pub has_is : (id : ℕ) (ts : List Trigger) (r : Option ℕ) → MatchOption r (IsAbsent id ts) (IsAt id ts) → is_some r ≡ list_any (is_trigger id) ts
has_is id ts None absent = ap (λ (o : Option Trigger). is_some o) (sym absent.found) ∙ any_found (is_trigger id) ts
has_is id ts (Some place) at = has_some id ts place at

pub unknown_here : (ts : List Trigger) (ids : List ℕ) (i : ℕ) → i < length ids → list_any (is_trigger (get_or ids i 0)) ts ≡ false → first_unknown ts (drop i ids) ≡ Some (get_or ids i 0)
unknown_here ts ids i lt absent =
    ap (first_unknown ts) (drop-cons ids i 0 lt)
    ∙ ap (λ b. cond b (first_unknown ts (drop (suc i) ids)) (Some (get_or ids i 0))) absent

pub known_here : (ts : List Trigger) (ids : List ℕ) (i : ℕ) → i < length ids → list_any (is_trigger (get_or ids i 0)) ts ≡ true → first_unknown ts (drop i ids) ≡ first_unknown ts (drop (i + 1) ids)
known_here ts ids i lt known =
    ap (first_unknown ts) (drop-cons ids i 0 lt)
    ∙ ap (λ b. cond b (first_unknown ts (drop (suc i) ids)) (Some (get_or ids i 0))) known
    ∙ ap (λ n. first_unknown ts (drop n ids)) (sym (add-one i))

-- ---- one trigger

module _ (moment : ℕ) where
  id_kept : (s : JobStatus) (t : Trigger) → (cancelled_from moment s t).job.id ≡ t.job.id
  id_kept status.Pending t = refl
  id_kept status.Active t = refl
  id_kept status.Complete t = refl
  id_kept status.Failed t = refl
  id_kept status.Cancelling t = refl
  id_kept status.Cancelled t = refl

  status_is : (s : JobStatus) (t : Trigger) → s ≡ t.job.status → (cancelled_from moment s t).job.status ≡ cancelled_status s
  status_is status.Pending t is = refl
  status_is status.Active t is = refl
  status_is status.Complete t is = sym is
  status_is status.Failed t is = sym is
  status_is status.Cancelling t is = sym is
  status_is status.Cancelled t is = sym is

  twice : (s : JobStatus) (t : Trigger) → s ≡ t.job.status → cancel_of moment (cancelled_from moment s t) ≡ cancelled_from moment s t
  twice status.Pending t is = refl
  twice status.Active t is = refl
  twice status.Complete t is = ap (λ s. cancelled_from moment s t) (sym is)
  twice status.Failed t is = ap (λ s. cancelled_from moment s t) (sym is)
  twice status.Cancelling t is = ap (λ s. cancelled_from moment s t) (sym is)
  twice status.Cancelled t is = ap (λ s. cancelled_from moment s t) (sym is)

  id_in : (b : Bool) (t : Trigger) → (cond b (cancel_of moment t) t).job.id ≡ t.job.id
  id_in true t = id_kept t.job.status t
  id_in false t = refl

  -- ---- one number more

  merged : (a b : Bool) (t : Trigger) → cond b (cancel_of moment (cond a (cancel_of moment t) t)) (cond a (cancel_of moment t) t) ≡ cond (a || (b || false)) (cancel_of moment t) t
  merged true true t = twice t.job.status t refl
  merged true false t = refl
  merged false true t = refl
  merged false false t = refl

  module _ (ids : List ℕ) (id : ℕ) where
    one_more : (t : Trigger) → (let u = cond (list_any (λ x. is_trigger x t) ids) (cancel_of moment t) t in cond (is_trigger id u) (cancel_of moment u) u) ≡ cond (list_any (λ x. is_trigger x t) (ids ++ id ∷ [])) (cancel_of moment t) t
    one_more t =
        ap (λ n. cond (n == id) (cancel_of moment (cond (list_any (λ x. is_trigger x t) ids) (cancel_of moment t) t)) (cond (list_any (λ x. is_trigger x t) ids) (cancel_of moment t) t)) (id_in (list_any (λ x. is_trigger x t) ids) t)
        ∙ merged (list_any (λ x. is_trigger x t) ids) (is_trigger id t) t
        ∙ ap (λ b. cond b (cancel_of moment t) t) (sym (list_any-append (λ x. is_trigger x t) ids (id ∷ [])))

    more : (ts : List Trigger) → changed id (cancel_of moment) (cancelled moment ids ts) ≡ cancelled moment (ids ++ id ∷ []) ts
    more [] = refl
    more (t ∷ ts) = ap (λ u. u ∷ changed id (cancel_of moment) (cancelled moment ids ts)) (one_more t) ∙ ap (λ us. cond (list_any (λ x. is_trigger x t) (ids ++ id ∷ [])) (cancel_of moment t) t ∷ us) (more ts)

  pub cancelled_none : (ts : List Trigger) → cancelled moment [] ts ≡ ts
  cancelled_none [] = refl
  cancelled_none (t ∷ ts) = ap (λ us. t ∷ us) (cancelled_none ts)

  pub cancelled_more : (ids : List ℕ) (i : ℕ) (ts : List Trigger) → i < length ids → changed (get_or ids i 0) (cancel_of moment) (cancelled moment (take i ids) ts) ≡ cancelled moment (take (i + 1) ids) ts
  cancelled_more ids i ts lt = more (take i ids) (get_or ids i 0) ts ∙ ap (λ xs. cancelled moment xs ts) (sym (take-suc ids i 0 lt) ∙ ap (λ n. take n ids) (sym (add-one i)))

  -- ---- the statuses

  found_by : (b any : Bool) (t : Trigger) (xs rest : Option Trigger) → (b ≡ true → any ≡ true)
      → option_map (λ u. u.job.status) xs ≡ option_map (λ u. cancelled_status u.job.status) rest
      → option_map (λ (u : Trigger). u.job.status) (cond b (Some (cond any (cancel_of moment t) t)) xs) ≡ option_map (λ (u : Trigger). cancelled_status u.job.status) (cond b (Some t) rest)
  found_by true any t xs rest is same = ap (λ c. Some (cond c (cancel_of moment t) t).job.status) (is refl) ∙ ap Some (status_is t.job.status t refl)
  found_by false any t xs rest is same = same

  module _ (ids : List ℕ) where
    -- whoever has one of these numbers has one of those
    abbrev AreAmong : List ℕ → Type 0
    AreAmong xs = (t : Trigger) → list_any (λ x. is_trigger x t) xs ≡ true → list_any (λ x. is_trigger x t) ids ≡ true

    status_of : (id : ℕ) → ((t : Trigger) → is_trigger id t ≡ true → list_any (λ x. is_trigger x t) ids ≡ true) → (ts : List Trigger)
        → option_map (λ (u : Trigger). u.job.status) (trigger_of id (cancelled moment ids ts)) ≡ option_map (λ (u : Trigger). cancelled_status u.job.status) (trigger_of id ts)
    status_of id among [] = refl
    status_of id among (t ∷ ts) =
        let any = list_any (λ x. is_trigger x t) ids in
        ap (λ n. option_map (λ (u : Trigger). u.job.status) (cond (n == id) (Some (cond any (cancel_of moment t) t)) (trigger_of id (cancelled moment ids ts)))) (id_in any t)
        ∙ found_by (is_trigger id t) any t (trigger_of id (cancelled moment ids ts)) (trigger_of id ts) (among t) (status_of id among ts)

    or_first : (a b : Bool) → a ≡ true → (a || b) ≡ true
    or_first true b is = refl
    or_first false b is = cc

    or_second : (a b : Bool) → b ≡ true → (a || b) ≡ true
    or_second true b is = refl
    or_second false b is = is

    statuses_among : (xs : List ℕ) → AreAmong xs → (ts : List Trigger) → statuses_of (cancelled moment ids ts) xs ≡ cancelled_statuses ts xs
    statuses_among [] among ts = refl
    statuses_among (x ∷ xs) among ts =
        ap (λ o. cons_option o (statuses_of (cancelled moment ids ts) xs)) (status_of x (λ t has. among t (or_first (is_trigger x t) (list_any (λ y. is_trigger y t) xs) has)) ts)
        ∙ ap (cons_option (option_map (λ (u : Trigger). cancelled_status u.job.status) (trigger_of x ts))) (statuses_among xs (λ t has. among t (or_second (is_trigger x t) (list_any (λ y. is_trigger y t) xs) has)) ts)

    pub statuses_are : (ts : List Trigger) → statuses_of (cancelled moment ids ts) ids ≡ cancelled_statuses ts ids
    statuses_are ts = statuses_among ids (λ t has. has) ts

pub cancel_is : (ts : List Trigger) (ids : List ℕ) (moment : ℕ) (list : List JobStatus) → first_unknown ts ids ≡ None → list ≡ cancelled_statuses ts ids → Ok list ≡ cancel_reply ts ids moment
cancel_is ts ids moment list known is = ap Ok (is ∙ sym (statuses_are moment ids ts)) ∙ ap (cancel_reply_by ts ids moment) (sym known)

cons_none : {A : Type 0} (o : Option A) → cons_option o [] ≡ option_to_list o
cons_none None = refl
cons_none (Some x) = refl

pub statuses_more : (ts : List Trigger) (ids : List ℕ) (i : ℕ) (r : Option JobStatus) → i < length ids → r ≡ option_map (λ (u : Trigger). cancelled_status u.job.status) (trigger_of (get_or ids i 0) ts)
    → cancelled_statuses ts (take (i + 1) ids) ≡ cancelled_statuses ts (take i ids) ++ option_to_list r
statuses_more ts ids i r lt is =
    let h = λ (id : ℕ). option_map (λ (u : Trigger). cancelled_status u.job.status) (trigger_of id ts) in
    ap (cancelled_statuses ts) (ap (λ n. take n ids) (add-one i) ∙ take-suc ids i 0 lt)
    ∙ filter_map-append h (take i ids) (get_or ids i 0 ∷ [])
    ∙ ap (λ xs. cancelled_statuses ts (take i ids) ++ xs) (cons_none (h (get_or ids i 0)) ∙ ap option_to_list (sym is))
