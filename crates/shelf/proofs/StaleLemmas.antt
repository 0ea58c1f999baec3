-- What starts leave of the objects of a table and of the open fetches.
use Rattle.std.proofs.Common.{◌≡◌, ℕ, zero, suc, append_assoc, length-take, true≢false, ◌+◌, ◌<◌, ◌≤◌, max, min, Bool, true, false, cond, not, nat_le, nat_lt, List, [], ◌∷◌, ◌++◌, length, map, take, drop, remove, slice_get, get_or, None, Some, refl, sym, ap, ◌∙◌, ◌||◌, arith, inl, inr}
use Rattle.std.specs.List.{filter, find}
use Rattle.std.specs.Option.{is_some, option_map, option_to_list}
use Rattle.std.specs.declared.option.Option.{Option}
use Rattle.std.proofs.lemmas.Bool.{cases_Bool, cond-false, cond-true}
use Rattle.std.proofs.lemmas.List.{drop_more, take_more, map-append}
use Rattle.std.proofs.lemmas.List.Elements.{filter-append, filter_agree}
use Rattle.std.proofs.lemmas.Option.{none-some, same_Some}
use Rattle.cdni_base.specs.Key.{KeyParts}
use Rattle.rows.specs.Row.{moved}
use Rattle.epochs.specs.EpochsList.{is_stale, past}
use Rattle.epochs.specs.declared.epochs_list.Start.{Start}
use Rattle.object_cache.specs.ObjectTable as objects
use Rattle.object_cache.specs.declared.object.Object.{Object}
use Rattle.object_cache.proofs.TableLemmas.{apart_behind, none_right}
use Rattle.trigger_command.specs.Selection.{hits}
use Rattle.trigger_command.specs.declared.selection.Selection.{Selection}
use Rattle.history.specs.Kept.{is_of, kept_of, used}
use Rattle.history.specs.World.{Kept}
use Rattle.shelf.proofs.ListLemmas.{find-map, filter-map, filter_same}
use Rattle.shelf.proofs.ShelfLemmas.{used_kept}
use Rattle.shelf.specs.KeptShelf.{AreBegun, AreUpToEpoch, content_of, flight_of, is_gone, kept_in, kept_object, least_begun, least_needed, struck, unhit}
use Rattle.shelf.specs.declared.open.Open.{Open}
use Rattle.shelf.specs.declared.kept_shelf.Launched.{Launched}

-- ---- objects up to an epoch

module _ (top : ℕ) where
  pub up_filter : (test : Object → Bool) (os : List Object) → AreUpToEpoch top os → AreUpToEpoch top (filter test os)
  up_filter test [] up = tt
  up_filter test (o ∷ os) up = elim (test o) as (λ t. AreUpToEpoch top (cond t (o ∷ filter test os) (filter test os))) [
    | true ↦ (up.0, up_filter test os up.1)
    | false ↦ up_filter test os up.1
  ]

  up_append : (os others : List Object) → AreUpToEpoch top os → AreUpToEpoch top others → AreUpToEpoch top (os ++ others)
  up_append [] others up more = more
  up_append (o ∷ os) others up more = (up.0, up_append os others up.1 more)

  up_found : (test : Object → Bool) (os : List Object) → AreUpToEpoch top os → AreUpToEpoch top (option_to_list (find test os))
  up_found test [] up = tt
  up_found test (o ∷ os) up = elim (test o) as (λ t. AreUpToEpoch top (option_to_list (cond t (Some o) (find test os)))) [
    | true ↦ (up.0, tt)
    | false ↦ up_found test os up.1
  ]

  pub up_moved : (test : Object → Bool) (os : List Object) → AreUpToEpoch top os → AreUpToEpoch top (moved test os)
  up_moved test os up = up_append (filter (λ o. not (test o)) os) (option_to_list (find test os)) (up_filter (λ o. not (test o)) os up) (up_found test os up)

  up_evicted : (most : ℕ) (os : List Object) → AreUpToEpoch top os → AreUpToEpoch top (objects.evicted most os)
  up_evicted most [] up = tt
  up_evicted most (o ∷ os) up = elim (nat_le (objects.total (o ∷ os)) most) as (λ t. AreUpToEpoch top (cond t (o ∷ os) (objects.evicted most os))) [
    | true ↦ up
    | false ↦ up_evicted most os up.1
  ]

  pub up_filled : (limit : ℕ) (os : List Object) (o : Object) → AreUpToEpoch top os → o.begun ≤ top → AreUpToEpoch top (objects.filled limit os o)
  up_filled limit os o up this = elim (objects.is_filled limit os o) as (λ t. AreUpToEpoch top (cond t (objects.evicted limit (objects.others o.key os ++ o ∷ [])) os)) [
    | true ↦ up_evicted limit (objects.others o.key os ++ o ∷ []) (up_append (objects.others o.key os) (o ∷ []) (up_filter (λ p. not (objects.is_of o.key p)) os up) (this, tt))
    | false ↦ up
  ]

pub up_later : (top later : ℕ) (os : List Object) → AreUpToEpoch top os → top ≤ later → AreUpToEpoch later os
up_later top later [] up more = tt
up_later top later (o ∷ os) up more = (omega (arith, up.0, more), up_later top later os up.1 more)

-- ---- open fetches in order

pub begun_top : (low high : ℕ) (fs : List (Open Launched)) → AreBegun low high fs → low ≤ high
begun_top low high [] so = so
begun_top low high (f ∷ fs) so = let rest = begun_top f.what.begun high fs so.1 in omega (arith, so.0, rest)

begun_lower : (lower low high : ℕ) (fs : List (Open Launched)) → AreBegun low high fs → lower ≤ low → AreBegun lower high fs
begun_lower lower low high [] so less = omega (arith, so, less)
begun_lower lower low high (f ∷ fs) so less = (omega (arith, so.0, less), so.1)

pub begun_filter : (test : Open Launched → Bool) (low high : ℕ) (fs : List (Open Launched)) → AreBegun low high fs → AreBegun low high (filter test fs)
begun_filter test low high [] so = so
begun_filter test low high (f ∷ fs) so = elim (test f) as (λ t. AreBegun low high (cond t (f ∷ filter test fs) (filter test fs))) [
  | true ↦ (so.0, begun_filter test f.what.begun high fs so.1)
  | false ↦ begun_lower low f.what.begun high (filter test fs) (begun_filter test f.what.begun high fs so.1) so.0
]

pub begun_push : (low high : ℕ) (fs : List (Open Launched)) (one : Open Launched) → AreBegun low high fs → one.what.begun ≡ high → AreBegun low high (fs ++ one ∷ [])
begun_push low high [] one so is = (omega (arith, so, is), omega (arith, is))
begun_push low high (f ∷ fs) one so is = (so.0, begun_push f.what.begun high fs one so.1 is)

pub begun_higher : (low high higher : ℕ) (fs : List (Open Launched)) → AreBegun low high fs → high ≤ higher → AreBegun low higher fs
begun_higher low high higher [] so more = omega (arith, so, more)
begun_higher low high higher (f ∷ fs) so more = (so.0, begun_higher f.what.begun high higher fs so.1 more)

-- the first is the least
least_over : (low high : ℕ) (fs : List (Open Launched)) → AreBegun low high fs → low ≤ least_begun high fs
least_over low high [] so = so
least_over low high (f ∷ fs) so = let rest = least_over f.what.begun high fs so.1 in omega (arith, so.0, rest)

least_first : (low high : ℕ) (f : Open Launched) (fs : List (Open Launched)) → AreBegun low high (f ∷ fs) → f.what.begun ≡ least_begun high (f ∷ fs)
least_first low high f fs so = let rest = least_over f.what.begun high fs so.1 in omega (arith, rest)

pub least_top : (high : ℕ) (fs : List (Open Launched)) → least_begun high fs ≤ high
least_top high [] = omega arith
least_top high (f ∷ fs) = let rest = least_top high fs in omega (arith, rest)

begun_from : (oldest low high : ℕ) (fs : List (Open Launched)) → AreBegun low high fs → oldest ≤ least_begun high fs → AreBegun oldest high fs
begun_from oldest low high [] so below = below
begun_from oldest low high (f ∷ fs) so below = (omega (arith, below), so.1)

least_push : (high : ℕ) (fs : List (Open Launched)) (one : Open Launched) → one.what.begun ≡ high → least_begun high (fs ++ one ∷ []) ≡ least_begun high fs
least_push high [] one is = omega (arith, is)
least_push high (f ∷ fs) one is = ap (λ n. min f.what.begun n) (least_push high fs one is)

pub first_least : (low high : ℕ) (f : Open Launched) (fs : List (Open Launched)) → AreBegun low high fs → Some f ≡ slice_get fs 0 → f.what.begun ≡ least_begun high fs
first_least low high f [] so is = absurd (none-some f (sym is))
first_least low high f (g ∷ gs) so is = ap (λ (one : Open Launched). one.what.begun) (same_Some f g is) ∙ least_first low high g gs so

pub none_least : (high : ℕ) (fs : List (Open Launched)) → None ≡ slice_get fs 0 → high ≡ least_begun high fs
none_least high [] is = refl
none_least high (g ∷ gs) is = absurd (none-some g is)

pub found_begun : (test : Open Launched → Bool) (low high : ℕ) (fs : List (Open Launched)) (f : Open Launched) → AreBegun low high fs → find test fs ≡ Some f → f.what.begun ≤ high
found_begun test low high [] f so is = absurd (none-some f is)
found_begun test low high (g ∷ gs) f so is = found_by (test g) is (found_begun test g.what.begun high gs f so.1)
  where
    found_by : (t : Bool) → cond t (Some g) (find test gs) ≡ Some f → (find test gs ≡ Some f → f.what.begun ≤ high) → f.what.begun ≤ high
    found_by true is rest = let same = ap (λ (one : Open Launched). one.what.begun) (same_Some g f is) in let top = begun_top g.what.begun high gs so.1 in omega (arith, same, top)
    found_by false is rest = rest is

-- ---- which starts are needed

module _ (newest noted : ℕ) where
  pub needed_none : (os : List Object) (fs : List (Open Launched)) → length os ≡ 0 → least_begun newest fs ≡ least_needed newest noted os fs
  needed_none [] fs none = refl
  needed_none (o ∷ os) fs none = absurd (omega (arith, none))

  pub needed_some : (os : List Object) (fs : List (Open Launched)) → (length os ≡ 0 → ⊥) → min (least_begun newest fs) noted ≡ least_needed newest noted os fs
  needed_some [] fs some = absurd (some refl)
  needed_some (o ∷ os) fs some = refl

  needed_begun : (os : List Object) (fs : List (Open Launched)) → least_needed newest noted os fs ≤ least_begun newest fs
  needed_begun [] fs = omega arith
  needed_begun (o ∷ os) fs = omega arith

  pub needed_push : (os : List Object) (fs : List (Open Launched)) (one : Open Launched) → one.what.begun ≡ newest
      → least_needed newest noted os (fs ++ one ∷ []) ≡ least_needed newest noted os fs
  needed_push [] fs one is = least_push newest fs one is
  needed_push (o ∷ os) fs one is = ap (λ n. min n noted) (least_push newest fs one is)

  needed_end : (os : List Object) (o : Object) (fs : List (Open Launched)) → least_needed newest noted (os ++ o ∷ []) fs ≡ min (least_begun newest fs) noted
  needed_end [] o fs = refl
  needed_end (x ∷ os) o fs = refl

  pub needed_moved : (test : Object → Bool) (os : List Object) (fs : List (Open Launched)) → least_needed newest noted (moved test os) fs ≡ least_needed newest noted os fs
  needed_moved test [] fs = refl
  needed_moved test (o ∷ os) fs = moved_by (test o)
    where
      moved_by : (t : Bool) → least_needed newest noted (cond (not t) (o ∷ filter (λ x. not (test x)) os) (filter (λ x. not (test x)) os) ++ option_to_list (cond t (Some o) (find test os))) fs
          ≡ min (least_begun newest fs) noted
      moved_by true = needed_end (filter (λ x. not (test x)) os) o fs
      moved_by false = refl

pub past_twice : (oldest : ℕ) (starts : List Start) → past oldest (past oldest starts) ≡ past oldest starts
past_twice oldest [] = refl
past_twice oldest (s ∷ starts) = elim (cases_Bool (nat_lt oldest s.epoch)) [
  | inl later ↦ ap (past oldest) (cond-true (nat_lt oldest s.epoch) (s ∷ past oldest starts) (past oldest starts) later)
      ∙ cond-true (nat_lt oldest s.epoch) (s ∷ past oldest (past oldest starts)) (past oldest (past oldest starts)) later
      ∙ ap (λ rest. s ∷ rest) (past_twice oldest starts)
      ∙ sym (cond-true (nat_lt oldest s.epoch) (s ∷ past oldest starts) (past oldest starts) later)
  | inr earlier ↦ ap (past oldest) (cond-false (nat_lt oldest s.epoch) (s ∷ past oldest starts) (past oldest starts) earlier)
      ∙ past_twice oldest starts ∙ sym (cond-false (nat_lt oldest s.epoch) (s ∷ past oldest starts) (past oldest starts) earlier)
]

-- ---- starts that are forgotten

module _ (old new : List Start) (oldest : ℕ)
    (agrees : (begun : ℕ) (key : KeyParts) (ccid : Option (List ℕ)) → oldest ≤ begun → is_stale new begun key ccid ≡ is_stale old begun key ccid) where
  agreed_kept : (noted : ℕ) (os : List Object) → oldest ≤ noted → kept_in new noted os ≡ kept_in old noted os
  agreed_kept noted os below =
      ap (map kept_object) (filter_agree (λ o. not (is_gone new noted o)) (λ o. not (is_gone old noted o))
      (λ o. ap not (agrees (max o.begun noted) o.key o.ccid (omega (arith, below)))) os)

  agreed_fetches : (high : ℕ) (fs : List (Open Launched)) → AreBegun oldest high fs → map (flight_of new) fs ≡ map (flight_of old) fs
  agreed_fetches high [] so = refl
  agreed_fetches high (f ∷ fs) so =
      ap (λ hit. record { number = f.number; pass = f.pass; what = record { fetching = f.what.fetching; hit = hit } } ∷ map (flight_of new) fs) (agrees f.what.begun f.what.fetching.key f.what.fetching.ccid so.0)
      ∙ ap (λ rest. flight_of old f ∷ rest) (agreed_fetches high fs (begun_lower oldest f.what.begun high fs so.1 so.0))

module _ (old new : List Start) (newest noted oldest : ℕ) (os : List Object) (fs : List (Open Launched)) (is : oldest ≡ least_needed newest noted os fs)
    (agrees : (begun : ℕ) (key : KeyParts) (ccid : Option (List ℕ)) → oldest ≤ begun → is_stale new begun key ccid ≡ is_stale old begun key ccid) where
  pub settled_kept : kept_in new noted os ≡ kept_in old noted os
  settled_kept = by os is
    where
      by : (os : List Object) → oldest ≡ least_needed newest noted os fs → kept_in new noted os ≡ kept_in old noted os
      by [] is = refl
      by (o ∷ os) is = agreed_kept old new oldest agrees noted (o ∷ os) (omega (arith, is))

  pub settled_fetches : (low : ℕ) → AreBegun low newest fs → map (flight_of new) fs ≡ map (flight_of old) fs
  settled_fetches low so =
      let below = needed_begun newest noted os fs in
      agreed_fetches old new oldest agrees newest fs (begun_from oldest low newest fs so (omega (arith, is, below)))

-- ---- a start

-- the copy of its selection hits what the selection hits
hits_content : (selection : Selection) (key : KeyParts) (ccid : Option (List ℕ)) → hits (content_of selection) key ccid ≡ hits selection key ccid
unfolding hits
hits_content selection key ccid = refl

-- what passes one test, and of that what passes another
both_one : {A : Type 0} (test : A → Bool) (x : A) (all first second : Bool) (new old : List A) → test x ≡ not second → all ≡ (first || second) → new ≡ filter test old
    → cond (not all) (x ∷ new) new ≡ filter test (cond (not first) (x ∷ old) old)
both_one test x all true second new old this is rest = ap (λ t. cond (not t) (x ∷ new) new) is ∙ rest
both_one test x all false true new old this is rest = ap (λ t. cond (not t) (x ∷ new) new) is ∙ rest ∙ sym (cond-false (test x) (x ∷ filter test old) (filter test old) this)
both_one test x all false false new old this is rest =
    ap (λ t. cond (not t) (x ∷ new) new) is ∙ ap (λ xs. x ∷ xs) rest ∙ sym (cond-true (test x) (x ∷ filter test old) (filter test old) this)

module _ (old new : List Start) (newest : ℕ) (selection : Selection)
    (more : (begun : ℕ) (key : KeyParts) (ccid : Option (List ℕ)) → begun ≤ newest → is_stale new begun key ccid ≡ (is_stale old begun key ccid || hits (content_of selection) key ccid)) where
  more_hits : (begun : ℕ) (key : KeyParts) (ccid : Option (List ℕ)) → begun ≤ newest → is_stale new begun key ccid ≡ (is_stale old begun key ccid || hits selection key ccid)
  more_hits begun key ccid before = more begun key ccid before ∙ ap (λ t. is_stale old begun key ccid || t) (hits_content selection key ccid)

  started_live : (noted : ℕ) (os : List Object) → noted ≤ newest → AreUpToEpoch newest os
      → filter (λ o. not (is_gone new noted o)) os ≡ filter (λ o. not (hits selection o.key o.ccid)) (filter (λ o. not (is_gone old noted o)) os)
  started_live noted [] swept up = refl
  started_live noted (o ∷ os) swept up =
      both_one (λ x. not (hits selection x.key x.ccid)) o (is_gone new noted o) (is_gone old noted o) (hits selection o.key o.ccid)
      (filter (λ x. not (is_gone new noted x)) os) (filter (λ x. not (is_gone old noted x)) os) refl
      (more_hits (max o.begun noted) o.key o.ccid (omega (arith, swept, up.0))) (started_live noted os swept up.1)

  pub started_kept : (noted : ℕ) (os : List Object) → noted ≤ newest → AreUpToEpoch newest os → kept_in new noted os ≡ unhit selection (kept_in old noted os)
  started_kept noted os swept up =
      ap (map kept_object) (started_live noted os swept up)
      ∙ sym (filter-map kept_object (λ k. not (hits selection k.key k.ccid)) (filter (λ o. not (is_gone old noted o)) os))

  pub started_fetches : (low : ℕ) (fs : List (Open Launched)) → AreBegun low newest fs → map (flight_of new) fs ≡ map (struck selection) (map (flight_of old) fs)
  started_fetches low [] so = refl
  started_fetches low (f ∷ fs) so =
      let before = begun_top f.what.begun newest fs so.1 in
      ap (λ hit. record { number = f.number; pass = f.pass; what = record { fetching = f.what.fetching; hit = hit } } ∷ map (flight_of new) fs) (more_hits f.what.begun f.what.fetching.key f.what.fetching.ccid before)
      ∙ ap (λ rest. struck selection (flight_of old f) ∷ rest) (started_fetches f.what.begun fs so.1)

-- ---- look-ups

-- what is found in a table, where it is not gone
abbrev pub live_one : List Start → ℕ → Option Object → Option Object
live_one starts noted None = None
live_one starts noted (Some o) = cond (is_gone starts noted o) None (Some o)

abbrev live : List Start → ℕ → List Object → List Object
live starts noted os = filter (λ o. not (is_gone starts noted o)) os

module _ (starts : List Start) (noted : ℕ) where
  module _ (test : Object → Bool) (o : Object) (rest os : List Object) where
    find_by : (gone this : Bool) → is_gone starts noted o ≡ gone → test o ≡ this → (test o ≡ true → find test os ≡ None) → find test rest ≡ live_one starts noted (find test os)
        → find test (cond (not (is_gone starts noted o)) (o ∷ rest) rest) ≡ live_one starts noted (cond (test o) (Some o) (find test os))
    find_by true true g t behind same =
        ap (λ b. find test (cond (not b) (o ∷ rest) rest)) g ∙ same ∙ ap (live_one starts noted) (behind t)
        ∙ sym (ap (λ b. live_one starts noted (cond b (Some o) (find test os))) t ∙ ap (λ b. cond b None (Some o)) g)
    find_by true false g t behind same =
        ap (λ b. find test (cond (not b) (o ∷ rest) rest)) g ∙ same ∙ sym (ap (λ b. live_one starts noted (cond b (Some o) (find test os))) t)
    find_by false true g t behind same =
        ap (λ b. find test (cond (not b) (o ∷ rest) rest)) g ∙ ap (λ b. cond b (Some o) (find test rest)) t
        ∙ sym (ap (λ b. live_one starts noted (cond b (Some o) (find test os))) t ∙ ap (λ b. cond b None (Some o)) g)
    find_by false false g t behind same =
        ap (λ b. find test (cond (not b) (o ∷ rest) rest)) g ∙ ap (λ b. cond b (Some o) (find test rest)) t ∙ same
        ∙ sym (ap (λ b. live_one starts noted (cond b (Some o) (find test os))) t)

  some_end : (key : KeyParts) (a : List Object) (o : Object) → objects.is_of key o ≡ true → objects.kept_of key (a ++ o ∷ []) ≡ None → ⊥
  some_end key a o t none = none-some o (sym (none_right (objects.is_of key) a (o ∷ []) none) ∙ cond-true (objects.is_of key o) (Some o) None t)

  find_live : (key : KeyParts) (a os : List Object) → objects.AreApart a os → find (objects.is_of key) (live starts noted os) ≡ live_one starts noted (find (objects.is_of key) os)
  find_live key a [] apart = refl
  find_live key a (o ∷ os) apart =
      find_by (objects.is_of key) o (live starts noted os) os (is_gone starts noted o) (objects.is_of key o) refl refl
      (λ t. apart_behind key (a ++ o ∷ []) os (some_end key a o t) apart.1) (find_live key (a ++ o ∷ []) os apart.1)

  pub found_in : (key : KeyParts) (os : List Object) → objects.AreApart [] os
      → kept_of key (kept_in starts noted os) ≡ option_map kept_object (live_one starts noted (objects.kept_of key os))
  found_in key os apart = find-map kept_object (λ k. is_of key k) (live starts noted os) ∙ ap (option_map kept_object) (find_live key [] os apart)

  filters_swap : (p q : Object → Bool) (os : List Object) → filter p (filter q os) ≡ filter q (filter p os)
  filters_swap p q [] = refl
  filters_swap p q (o ∷ os) = by (p o) (q o) refl refl (filters_swap p q os)
    where
      by : (a b : Bool) → p o ≡ a → q o ≡ b → filter p (filter q os) ≡ filter q (filter p os)
          → filter p (cond (q o) (o ∷ filter q os) (filter q os)) ≡ filter q (cond (p o) (o ∷ filter p os) (filter p os))
      by true true e f same =
          ap (λ b. filter p (cond b (o ∷ filter q os) (filter q os))) f ∙ cond-true (p o) (o ∷ filter p (filter q os)) (filter p (filter q os)) e ∙ ap (λ xs. o ∷ xs) same
          ∙ sym (ap (λ b. filter q (cond b (o ∷ filter p os) (filter p os))) e ∙ cond-true (q o) (o ∷ filter q (filter p os)) (filter q (filter p os)) f)
      by true false e f same =
          ap (λ b. filter p (cond b (o ∷ filter q os) (filter q os))) f ∙ same
          ∙ sym (ap (λ b. filter q (cond b (o ∷ filter p os) (filter p os))) e ∙ cond-false (q o) (o ∷ filter q (filter p os)) (filter q (filter p os)) f)
      by false true e f same =
          ap (λ b. filter p (cond b (o ∷ filter q os) (filter q os))) f ∙ cond-false (p o) (o ∷ filter p (filter q os)) (filter p (filter q os)) e ∙ same
          ∙ sym (ap (λ b. filter q (cond b (o ∷ filter p os) (filter p os))) e)
      by false false e f same =
          ap (λ b. filter p (cond b (o ∷ filter q os) (filter q os))) f ∙ same ∙ sym (ap (λ b. filter q (cond b (o ∷ filter p os) (filter p os))) e)

  live_option : (o : Option Object) → live starts noted (option_to_list o) ≡ option_to_list (live_one starts noted o)
  live_option None = refl
  live_option (Some o) = elim (is_gone starts noted o) as (λ t. cond (not t) (o ∷ []) [] ≡ option_to_list (cond t None (Some o))) [ true ↦ refl | false ↦ refl ]

  live_moved : (key : KeyParts) (os : List Object) → objects.AreApart [] os → live starts noted (moved (objects.is_of key) os) ≡ moved (objects.is_of key) (live starts noted os)
  live_moved key os apart =
      let test = objects.is_of key in
      let others = filter (λ o. not (test o)) os in
      filter-append (λ o. not (is_gone starts noted o)) others (option_to_list (find test os))
      ∙ ap (λ xs. xs ++ live starts noted (option_to_list (find test os))) (filters_swap (λ o. not (is_gone starts noted o)) (λ o. not (test o)) os)
      ∙ ap (λ xs. filter (λ o. not (test o)) (live starts noted os) ++ xs) (live_option (find test os) ∙ ap option_to_list (sym (find_live key [] os apart)))

  pub kept_moved : (key : KeyParts) (os : List Object) → objects.AreApart [] os → kept_in starts noted (moved (objects.is_of key) os) ≡ used key (kept_in starts noted os)
  kept_moved key os apart = ap (map kept_object) (live_moved key os apart) ∙ used_kept key (live starts noted os)

-- ---- an object that no start is tried on again

module _ (newest : ℕ) where
  up_one : (found : Option Object) → AreUpToEpoch newest (map (objects.renewed_one newest) (option_to_list found))
  up_one None = tt
  up_one (Some o) = (omega arith, tt)

  pub up_renewed : (key : KeyParts) (os : List Object) → AreUpToEpoch newest os → AreUpToEpoch newest (objects.renewed key newest os)
  up_renewed key os up = up_append newest (objects.others key os) (map (objects.renewed_one newest) (option_to_list (objects.kept_of key os))) (up_filter newest (λ o. not (objects.is_of key o)) os up) (up_one (objects.kept_of key os))

  pub needed_renewed : (noted : ℕ) (key : KeyParts) (os : List Object) (fs : List (Open Launched)) → least_needed newest noted (objects.renewed key newest os) fs ≡ least_needed newest noted os fs
  needed_renewed noted key [] fs = refl
  needed_renewed noted key (o ∷ os) fs = renewed_by (objects.is_of key o)
    where
      renewed_by : (t : Bool) → least_needed newest noted (cond (not t) (o ∷ objects.others key os) (objects.others key os) ++ map (objects.renewed_one newest) (option_to_list (cond t (Some o) (objects.kept_of key os)))) fs
          ≡ min (least_begun newest fs) noted
      renewed_by true = needed_end newest noted (objects.others key os) (objects.renewed_one newest o) fs
      renewed_by false = refl

module _ (starts : List Start) (noted : ℕ) where
  kept_end : (os : List Object) (o : Object) → is_gone starts noted o ≡ false → kept_in starts noted (os ++ o ∷ []) ≡ kept_in starts noted os ++ kept_object o ∷ []
  kept_end os o stays =
      ap (map kept_object) (filter-append (λ x. not (is_gone starts noted x)) os (o ∷ []) ∙ ap (λ t. live starts noted os ++ cond (not t) (o ∷ []) []) stays)
      ∙ map-append kept_object (live starts noted os) (o ∷ [])

  module _ (newest : ℕ) (swept : noted ≤ newest) (none : (key : KeyParts) (ccid : Option (List ℕ)) → is_stale starts newest key ccid ≡ false) (others : List Object) where
    renewed_kept : (found : Option Object) → is_some (option_map kept_object (live_one starts noted found)) ≡ true
        → kept_in starts noted (others ++ map (objects.renewed_one newest) (option_to_list found)) ≡ kept_in starts noted (others ++ option_to_list found)
    renewed_kept None is = absurd (true≢false (sym is))
    renewed_kept (Some o) is = by (is_gone starts noted o) refl
      where
        by : (gone : Bool) → is_gone starts noted o ≡ gone → kept_in starts noted (others ++ objects.renewed_one newest o ∷ []) ≡ kept_in starts noted (others ++ o ∷ [])
        by true g = absurd (true≢false (sym is ∙ ap (λ t. is_some (option_map kept_object (cond t None (Some o)))) g))
        by false g =
            let at : max newest noted ≡ newest = omega (arith, swept) in
            kept_end others (objects.renewed_one newest o) (ap (λ n. is_stale starts n o.key o.ccid) at ∙ none o.key o.ccid)
            ∙ sym (kept_end others o g)

  pub kept_renewed : (newest : ℕ) → noted ≤ newest → ((key : KeyParts) (ccid : Option (List ℕ)) → is_stale starts newest key ccid ≡ false) → (key : KeyParts) (os : List Object) → objects.AreApart [] os
      → is_some (kept_of key (kept_in starts noted os)) ≡ true → kept_in starts noted (objects.renewed key newest os) ≡ used key (kept_in starts noted os)
  kept_renewed newest swept none key os apart some =
      renewed_kept newest swept none (objects.others key os) (objects.kept_of key os) (ap (λ (k : Option Kept). is_some k) (sym (found_in starts noted key os apart)) ∙ some)
      ∙ kept_moved starts noted key os apart

  none_mapped : (o : Option Object) → option_map kept_object o ≡ None → o ≡ None
  none_mapped None is = refl
  none_mapped (Some o) is = absurd (none-some (kept_object o) (sym is))

  -- what is gone may leave
  pub kept_others : (key : KeyParts) (os : List Object) → kept_of key (kept_in starts noted os) ≡ None → kept_in starts noted (objects.others key os) ≡ kept_in starts noted os
  kept_others key os none =
      ap (map kept_object) (filters_swap starts noted (λ o. not (is_gone starts noted o)) (λ o. not (objects.is_of key o)) os
      ∙ filter_same (objects.is_of key) (live starts noted os) (none_mapped (find (objects.is_of key) (live starts noted os)) (sym (find-map kept_object (λ k. is_of key k) (live starts noted os)) ∙ none)))

-- ---- what was swept

module _ (starts : List Start) (newest : ℕ) (none : (key : KeyParts) (ccid : Option (List ℕ)) → is_stale starts newest key ccid ≡ false) where
  all_live : (os : List Object) → AreUpToEpoch newest os → live starts newest os ≡ os
  all_live [] up = refl
  all_live (o ∷ os) up =
      let at : max o.begun newest ≡ newest = omega (arith, up.0) in
      let stays : is_gone starts newest o ≡ false = ap (λ n. is_stale starts n o.key o.ccid) at ∙ none o.key o.ccid in
      ap (λ t. cond (not t) (o ∷ live starts newest os) (live starts newest os)) stays ∙ ap (λ xs. o ∷ xs) (all_live os up.1)

  -- nothing is gone of what was tried with all starts
  pub all_kept : (os : List Object) → AreUpToEpoch newest os → kept_in starts newest os ≡ map kept_object os
  all_kept os up = ap (map kept_object) (all_live os up)

module _ {A : Type 0} where
  get_middle : (before : List A) (x : A) (behind : List A) → slice_get (before ++ x ∷ behind) (length before) ≡ Some x
  get_middle [] x behind = refl
  get_middle (y ∷ before) x behind = get_middle before x behind

  remove_middle : (before : List A) (x : A) (behind : List A) → remove (before ++ x ∷ behind) (length before) ≡ before ++ behind
  remove_middle [] x behind = refl
  remove_middle (y ∷ before) x behind = ap (λ xs. y ∷ xs) (remove_middle before x behind)

  -- one object more is tried: those before its index are as they were, and of the others those stay that pass
  pub swept_step : (gone : A → Bool) (before : List A) (x o : A) (behind now new : List A) (i : ℕ) → length before ≡ i
      → now ≡ before ++ x ∷ filter (λ y. not (gone y)) behind → slice_get now i ≡ Some o → new ≡ cond (gone o) (remove now i) now
      → new ≡ before ++ filter (λ y. not (gone y)) (x ∷ behind)
  swept_step gone before x o behind now new i at is there step =
      let rest = filter (λ y. not (gone y)) behind in
      let same : x ≡ o = same_Some x o (sym (get_middle before x rest) ∙ ap (λ n. slice_get (before ++ x ∷ rest) n) at ∙ ap (λ xs. slice_get xs i) (sym is) ∙ there) in
      step ∙ ap (λ y. cond (gone y) (remove now i) now) (sym same) ∙ by (gone x)
    where
      by : (t : Bool) → cond t (remove now i) now ≡ before ++ cond (not t) (x ∷ filter (λ y. not (gone y)) behind) (filter (λ y. not (gone y)) behind)
      by true = ap (λ xs. remove xs i) is ∙ ap (λ n. remove (before ++ x ∷ filter (λ y. not (gone y)) behind) n) (sym at) ∙ remove_middle before x (filter (λ y. not (gone y)) behind)
      by false = is

  pub swept_at : (gone : A → Bool) (os now new : List A) (i k : ℕ) (o : A) → i ≡ k + 1 → i ≤ length os → now ≡ take i os ++ filter (λ y. not (gone y)) (drop i os)
      → slice_get now k ≡ Some o → new ≡ cond (gone o) (remove now k) now → new ≡ take k os ++ filter (λ y. not (gone y)) (drop k os)
  swept_at gone os now new i k o one few is there step =
      let l : k < length os = omega (arith, one, few) in
      let at : length (take k os) ≡ k = omega (arith, length-take k os, l) in
      let rest = filter (λ y. not (gone y)) (drop (k + 1) os) in
      swept_step gone (take k os) (get_or os k o) o (drop (k + 1) os) now new k at
      (is ∙ ap (λ n. take n os ++ filter (λ y. not (gone y)) (drop n os)) one ∙ ap (λ xs. xs ++ rest) (take_more os k o l) ∙ append_assoc (take k os) (get_or os k o ∷ []) rest)
      there step ∙ ap (λ ys. take k os ++ filter (λ y. not (gone y)) ys) (sym (drop_more os k o l))

  pub there_at : (xs : List A) (k : ℕ) → k < length xs → (x : A) × (slice_get xs k ≡ Some x)
  there_at [] k l = absurd (omega (arith, l))
  there_at (x ∷ xs) zero l = (x, refl)
  there_at (x ∷ xs) (suc k) l = there_at xs k (omega (arith, l))

  pub all_tried : (test : A → Bool) (os now : List A) (i : ℕ) → i ≡ 0 → now ≡ take i os ++ filter test (drop i os) → now ≡ filter test os
  all_tried test os now i none is = is ∙ ap (λ n. take n os ++ filter test (drop n os)) none
