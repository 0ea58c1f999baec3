-- Which objects a walk has tried.
use Rattle.std.proofs.Common.{◌≡◌, ℕ, zero, suc, ◌+◌, ◌≤◌, max, All, Contains, Bool, true, false, cond, not, nat_lt, List, [], ◌∷◌, ◌++◌, length, map, take, remove, slice_get, None, Some, refl, sym, ap, subst, ◌∙◌, ◌||◌, ◌&&◌, arith, inl, inr}
use Rattle.std.specs.List.{filter}
use Rattle.std.specs.declared.option.Option.{Option}
use Rattle.std.proofs.lemmas.Bool.{both_ways, cases_Bool, cases_lt, lt-ltb, ltb-true, or_from, or_parts}
use Rattle.std.proofs.lemmas.List.{take_all, take_more}
use Rattle.std.proofs.lemmas.List.Elements.{All-append, All-cons, All-contains, All-contains_itself, All-head, All-nil, All-tail, All-weaker}
use Rattle.std.proofs.lemmas.Option.{get_or_from_slice_get, none-some, same_Some, slice_get_within}
use Rattle.cdni_base.specs.Key.{KeyParts}
use Rattle.epochs.specs.EpochsList.{is_stale}
use Rattle.epochs.specs.declared.epochs_list.Start.{Start}
use Rattle.history.specs.World.{Kept}
use Rattle.object_cache.specs.ObjectTable as objects
use Rattle.object_cache.specs.declared.object.Object.{Object}
use Rattle.trigger_command.specs.Selection.{hits}
use Rattle.trigger_command.specs.declared.selection.Selection.{Selection}
use Rattle.shelf.specs.KeptShelf.{AreTried, AreUpToEpoch, IsPartOf, content_of, is_gone, kept_in, kept_object, least_needed}
use Rattle.shelf.specs.declared.kept_shelf.Launched.{Launched}
use Rattle.shelf.specs.declared.open.Open.{Open}

-- the two tests are one
abbrev same_at : List Start → ℕ → ℕ → Object → Type 0
same_at starts noted aimed o = is_gone starts noted o ≡ is_gone starts aimed o

pub tried_none : (starts : List Start) (noted aimed : ℕ) → AreTried starts noted aimed []
tried_none starts noted aimed = All-nil (same_at starts noted aimed)

pub tried_equal : (starts : List Start) (noted aimed : ℕ) (os : List Object) → noted ≡ aimed → AreTried starts noted aimed os
tried_equal starts noted aimed [] is = tried_none starts noted aimed
tried_equal starts noted aimed (o ∷ os) is =
    All-cons (same_at starts noted aimed) o os (ap (λ n. is_gone starts n o) is) (tried_equal starts noted aimed os is)

pub tried_passed : (starts : List Start) (noted aimed : ℕ) (old new : objects.Kept) → objects.ArePassed old new
    → AreTried starts noted aimed (take old.passed old.objects) → AreTried starts noted aimed (take new.passed new.objects)
tried_passed starts noted aimed old new passed tried =
    All-weaker (Contains (take old.passed old.objects)) (same_at starts noted aimed)
    (λ o there. All-contains (same_at starts noted aimed) (take old.passed old.objects) o tried there) (take new.passed new.objects) passed

-- starts that are forgotten
tried_agreed : (old new : List Start) (oldest noted aimed : ℕ) (os : List Object)
    → ((begun : ℕ) (key : KeyParts) (ccid : Option (List ℕ)) → oldest ≤ begun → is_stale new begun key ccid ≡ is_stale old begun key ccid)
    → oldest ≤ noted → noted ≤ aimed → AreTried old noted aimed os → AreTried new noted aimed os
tried_agreed old new oldest noted aimed os agrees below more tried =
    All-weaker (same_at old noted aimed) (same_at new noted aimed)
    (λ o same. agrees (max o.begun noted) o.key o.ccid (omega (arith, below)) ∙ same ∙ sym (agrees (max o.begun aimed) o.key o.ccid (omega (arith, below, more))))
    os tried

pub tried_settled : (old new : List Start) (newest noted aimed oldest passed : ℕ) (os : List Object) (fs : List (Open Launched))
    → oldest ≡ least_needed newest noted os fs
    → ((begun : ℕ) (key : KeyParts) (ccid : Option (List ℕ)) → oldest ≤ begun → is_stale new begun key ccid ≡ is_stale old begun key ccid)
    → noted ≤ aimed → AreTried old noted aimed (take passed os) → AreTried new noted aimed (take passed os)
tried_settled old new newest noted aimed oldest zero os fs is agrees more tried = tried_none new noted aimed
tried_settled old new newest noted aimed oldest (suc n) [] fs is agrees more tried = tried_none new noted aimed
tried_settled old new newest noted aimed oldest (suc n) (o ∷ os) fs is agrees more tried =
    tried_agreed old new oldest noted aimed (take (suc n) (o ∷ os)) agrees (omega (arith, is)) more tried

-- a start more
pub up_take : (top n : ℕ) (os : List Object) → AreUpToEpoch top os → AreUpToEpoch top (take n os)
up_take top zero os up = tt
up_take top (suc n) [] up = tt
up_take top (suc n) (o ∷ os) up = (up.0, up_take top n os up.1)

pub tried_started : (old new : List Start) (newest : ℕ) (selection : Selection)
    → ((begun : ℕ) (key : KeyParts) (ccid : Option (List ℕ)) → begun ≤ newest → is_stale new begun key ccid ≡ (is_stale old begun key ccid || hits (content_of selection) key ccid))
    → (noted aimed : ℕ) (os : List Object) → noted ≤ newest → aimed ≤ newest → AreUpToEpoch newest os
    → AreTried old noted aimed os → AreTried new noted aimed os
tried_started old new newest selection more noted aimed [] swept aim up tried = tried_none new noted aimed
tried_started old new newest selection more noted aimed (o ∷ os) swept aim up tried =
    All-cons (same_at new noted aimed) o os
    (more (max o.begun noted) o.key o.ccid (omega (arith, swept, up.0))
    ∙ ap (λ t. t || hits (content_of selection) o.key o.ccid) (All-head (same_at old noted aimed) o os tried)
    ∙ sym (more (max o.begun aimed) o.key o.ccid (omega (arith, aim, up.0))))
    (tried_started old new newest selection more noted aimed os swept aim up.1 (All-tail (same_at old noted aimed) o os tried))

-- ---- all were tried

tried_live : (starts : List Start) (noted aimed : ℕ) (os : List Object) → AreTried starts noted aimed os
    → filter (λ o. not (is_gone starts aimed o)) os ≡ filter (λ o. not (is_gone starts noted o)) os
tried_live starts noted aimed [] tried = refl
tried_live starts noted aimed (o ∷ os) tried =
    ap (λ gone. cond (not gone) (o ∷ filter (λ o. not (is_gone starts aimed o)) os) (filter (λ o. not (is_gone starts aimed o)) os))
    (sym (All-head (same_at starts noted aimed) o os tried))
    ∙ ap (λ xs. cond (not (is_gone starts noted o)) (o ∷ xs) xs) (tried_live starts noted aimed os (All-tail (same_at starts noted aimed) o os tried))

pub tried_kept : (starts : List Start) (noted aimed passed : ℕ) (os : List Object) → length os ≤ passed
    → AreTried starts noted aimed (take passed os) → kept_in starts aimed os ≡ kept_in starts noted os
tried_kept starts noted aimed passed os all tried =
    ap (map kept_object) (tried_live starts noted aimed os (subst (AreTried starts noted aimed) (take_all passed os all) tried))

-- ---- one more was tried

-- what no start after one hits, none after a later one does
one_later : (begun later epoch : ℕ) (hit : Bool) → begun ≤ later → (nat_lt begun epoch && hit) ≡ false → (nat_lt later epoch && hit) ≡ false
one_later begun later epoch hit more none = elim (cases_Bool (nat_lt later epoch)) [
  | inl after ↦ let further = ltb-true later epoch after in
      ap (λ t. t && hit) (after ∙ sym (lt-ltb begun epoch (omega (arith, more, further)))) ∙ none
  | inr before ↦ ap (λ t. t && hit) before
]

stale_later : (starts : List Start) (begun later : ℕ) (key : KeyParts) (ccid : Option (List ℕ)) → begun ≤ later
    → is_stale starts begun key ccid ≡ false → is_stale starts later key ccid ≡ false
stale_later [] begun later key ccid more none = refl
stale_later (s ∷ starts) begun later key ccid more none =
    let parts = or_parts (nat_lt begun s.epoch && hits s.selection key ccid) (is_stale starts begun key ccid) none in
    or_from (nat_lt later s.epoch && hits s.selection key ccid) (is_stale starts later key ccid)
    (one_later begun later s.epoch (hits s.selection key ccid) more parts.0) (stale_later starts begun later key ccid more parts.1)

gone_later : (starts : List Start) (noted aimed : ℕ) (o : Object) → noted ≤ aimed → is_gone starts noted o ≡ false → is_gone starts aimed o ≡ false
gone_later starts noted aimed o more = stale_later starts (max o.begun noted) (max o.begun aimed) o.key o.ccid (omega (arith, more))

pub tried_one : (starts : List Start) (noted aimed passed : ℕ) (os : List Object) (o : Object) → noted ≤ aimed → Some o ≡ slice_get os passed
    → is_gone starts noted o ≡ false → AreTried starts noted aimed (take passed os) → AreTried starts noted aimed (take (passed + 1) os)
tried_one starts noted aimed passed os o more there stays tried =
    let same = same_at starts noted aimed in
    let within = slice_get_within os passed o (sym there) in
    let is : take (passed + 1) os ≡ take passed os ++ o ∷ [] = take_more os passed o within
    ∙ ap (λ x. take passed os ++ x ∷ []) (get_or_from_slice_get os passed o o (sym there)) in
    subst (AreTried starts noted aimed) (sym is)
    (All-append same (take passed os) (o ∷ []) tried (All-cons same o [] (stays ∙ sym (gone_later starts noted aimed o more stays)) (All-nil same)))

-- ---- one leaves

pub take_removed : (os : List Object) (k : ℕ) → take k (remove os k) ≡ take k os
take_removed [] zero = refl
take_removed [] (suc k) = refl
take_removed (o ∷ os) zero = refl
take_removed (o ∷ os) (suc k) = ap (λ xs. o ∷ xs) (take_removed os k)

pub kept_removed : (starts : List Start) (noted : ℕ) (os : List Object) (k : ℕ) (o : Object) → Some o ≡ slice_get os k → is_gone starts noted o ≡ true
    → kept_in starts noted (remove os k) ≡ kept_in starts noted os
kept_removed starts noted os k o there gone = ap (map kept_object) (live_removed os k there)
  where
    live_removed : (os : List Object) (k : ℕ) → Some o ≡ slice_get os k
        → filter (λ x. not (is_gone starts noted x)) (remove os k) ≡ filter (λ x. not (is_gone starts noted x)) os
    live_removed [] k there = absurd (none-some o (sym there))
    live_removed (x ∷ os) zero there =
        sym (ap (λ t. cond (not t) (x ∷ filter (λ x. not (is_gone starts noted x)) os) (filter (λ x. not (is_gone starts noted x)) os))
        (ap (is_gone starts noted) (sym (same_Some o x there)) ∙ gone))
    live_removed (x ∷ os) (suc k) there =
        ap (λ xs. cond (not (is_gone starts noted x)) (x ∷ xs) xs) (live_removed os k there)

pub up_removed : (top : ℕ) (os : List Object) (k : ℕ) → AreUpToEpoch top os → AreUpToEpoch top (remove os k)
up_removed top [] zero up = tt
up_removed top [] (suc k) up = tt
up_removed top (o ∷ os) zero up = up.1
up_removed top (o ∷ os) (suc k) up = (up.0, up_removed top os k up.1)

part_rest : (P : Kept → Type 0) (os : List Object) (k : ℕ) → All P (map kept_object os) → All P (map kept_object (remove os k))
part_rest P [] zero all = all
part_rest P [] (suc k) all = all
part_rest P (o ∷ os) zero all = All-tail P (kept_object o) (map kept_object os) all
part_rest P (o ∷ os) (suc k) all =
    All-cons P (kept_object o) (map kept_object (remove os k)) (All-head P (kept_object o) (map kept_object os) all)
    (part_rest P os k (All-tail P (kept_object o) (map kept_object os) all))

pub part_removed : (os : List Object) (k : ℕ) → IsPartOf (map kept_object (remove os k)) (map kept_object os)
part_removed os k = part_rest (Contains (map kept_object os)) os k (All-contains_itself (map kept_object os))

pub one_removed : (os : List Object) (k : ℕ) (o : Object) → Some o ≡ slice_get os k → length (remove os k) + 1 ≡ length os
one_removed [] k o there = absurd (none-some o (sym there))
one_removed (x ∷ os) zero o there = omega arith
one_removed (x ∷ os) (suc k) o there = let rest = one_removed os k o there in omega (arith, rest)

-- what is in memory after two steps
pub part_both : (a b c : List Kept) → IsPartOf b a → IsPartOf c b → IsPartOf c a
part_both a b c h g = All-weaker (Contains b) (Contains a) (λ one there. All-contains (Contains a) b one h there) c g

-- ---- the end of a walk

pub none_left : (os : List Object) (k : ℕ) → None ≡ slice_get os k → length os ≤ k
none_left [] k none = omega arith
none_left (o ∷ os) zero none = absurd (none-some o none)
none_left (o ∷ os) (suc k) none = let rest = none_left os k none in omega (arith, rest)

pub aimed_newest : (aimed newest now : ℕ) → aimed ≤ newest → (nat_lt aimed newest ≡ true → now ≡ newest) → (nat_lt aimed newest ≡ false → now ≡ aimed) → now ≡ newest
aimed_newest aimed newest now most due under_way = elim (cases_Bool (nat_lt aimed newest)) [
  | inl t ↦ due t
  | inr f ↦ under_way f ∙ (elim (cases_lt aimed newest) [
    | inl l ↦ absurd (both_ways (nat_lt aimed newest) f (lt-ltb aimed newest l))
    | inr m ↦ omega (arith, most, m)
  ])
]
