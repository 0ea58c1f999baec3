-- Starts that are known, and those that were forgotten.
use Rattle.std.proofs.Common.{◌≡◌, ℕ, ◌+◌, ◌<◌, ◌≤◌, max, Bool, true, false, ◌&&◌, ◌||◌, nat_lt, List, [], ◌∷◌, ◌++◌, fold, refl, sym, ap, ◌∙◌, subst, inl, inr, Option, arith}
use Rattle.std.specs.Bool.{Decides}
use Rattle.std.specs.List.{list_any}
use Rattle.std.proofs.lemmas.Bool.{cases_Bool, cond-true, cond-false, ltb-true, ltb-false, lt-ltb, le-ltb, leb-true, leb-false}
use Rattle.std.proofs.lemmas.Bool.Decides.{Decides-and, Decides-ltb}
use Rattle.std.proofs.lemmas.List.Folds.{Any-from_list_any, list_any-from_Any}
use Rattle.cdni_base.specs.Key.{KeyParts}
use Rattle.trigger_command.specs.Selection.{hits, Hits}
use Rattle.trigger_command.specs.declared.selection.Selection.{Selection}
use Rattle.trigger_command.proofs.SelectionLemmas.{hits_decides}
use Rattle.epochs.specs.EpochsList.{IsStale, is_stale, Known, Event, begins, forgets, nothing, next_start, past, after, known_after, starts_from, all_starts, AreRising, behind_front, is_front_up_to}
use Rattle.epochs.specs.declared.epochs_list.Start.{Start}

-- ---- the test decides the relation

start_decides : (begun : ℕ) (key : KeyParts) (ccid : Option (List ℕ)) (start : Start) → Decides (nat_lt begun start.epoch && hits start.selection key ccid) ((begun < start.epoch) × Hits start.selection key ccid)
start_decides begun key ccid start = Decides-and _ _ (Decides-ltb begun start.epoch) (hits_decides start.selection key ccid)

pub stale_decides : (starts : List Start) (begun : ℕ) (key : KeyParts) (ccid : Option (List ℕ)) → Decides (is_stale starts begun key ccid) (IsStale starts begun key ccid)
stale_decides starts begun key ccid = (
  λ e. let found = Any-from_list_any (λ start. nat_lt begun start.epoch && hits start.selection key ccid) starts e in
      (found.0, found.1, found.2, found.3, (start_decides begun key ccid found.1).0 found.4),
  λ found. list_any-from_Any (λ start. nat_lt begun start.epoch && hits start.selection key ccid) starts (found.0, found.1, found.2, found.3, (start_decides begun key ccid found.1).1 found.4),
)

-- ---- one start more

any_append : {A : Type 0} (test : A → Bool) (xs ys : List A) → list_any test (xs ++ ys) ≡ (list_any test xs || list_any test ys)
any_append test [] ys = refl
any_append test (x ∷ xs) ys = by_first (test x) (list_any test xs) (list_any test ys) (any_append test xs ys)
  where
    by_first : (a b c : Bool) → list_any test (xs ++ ys) ≡ (b || c) → (a || list_any test (xs ++ ys)) ≡ ((a || b) || c)
    by_first true b c is = refl
    by_first false b c is = is

or_none : (b : Bool) → (b || false) ≡ b
or_none true = refl
or_none false = refl

pub one_more : (starts : List Start) (newest begun : ℕ) (selection : Selection) (key : KeyParts) (ccid : Option (List ℕ)) → begun ≤ newest
    → is_stale (starts ++ next_start newest selection ∷ []) begun key ccid ≡ (is_stale starts begun key ccid || hits selection key ccid)
one_more starts newest begun selection key ccid before =
    any_append (λ start. nat_lt begun start.epoch && hits start.selection key ccid) starts (next_start newest selection ∷ [])
    ∙ ap (λ last. is_stale starts begun key ccid || last) (or_none _ ∙ ap (λ later. later && hits selection key ccid) (lt-ltb begun (newest + 1) (omega arith)))

pub rising_more : (low newest : ℕ) (starts : List Start) (selection : Selection) → AreRising low newest starts → AreRising low (newest + 1) (starts ++ next_start newest selection ∷ [])
rising_more low newest [] selection so = (omega (arith, so), omega arith)
rising_more low newest (start ∷ starts) selection so = (so.0, rising_more start.epoch newest starts selection so.1)

-- ---- nothing starts after the newest

never : (begun : ℕ) (start : Start) (key : KeyParts) (ccid : Option (List ℕ)) → start.epoch ≤ begun → (nat_lt begun start.epoch && hits start.selection key ccid) ≡ false
never begun start key ccid before = ap (λ later. later && hits start.selection key ccid) (le-ltb begun start.epoch before)

top : (low high : ℕ) (starts : List Start) → AreRising low high starts → low ≤ high
top low high [] so = so
top low high (start ∷ starts) so = omega (arith, so.0, top start.epoch high starts so.1)

pub none_after : (low high : ℕ) (starts : List Start) (key : KeyParts) (ccid : Option (List ℕ)) → AreRising low high starts → is_stale starts high key ccid ≡ false
none_after low high [] key ccid so = refl
none_after low high (start ∷ starts) key ccid so =
    ap (λ first. first || is_stale starts high key ccid) (never high start key ccid (top start.epoch high starts so.1)) ∙ none_after start.epoch high starts key ccid so.1

-- nor after a later epoch
pub none_later : (low high begun : ℕ) (starts : List Start) (key : KeyParts) (ccid : Option (List ℕ)) → high ≤ begun → AreRising low high starts → is_stale starts begun key ccid ≡ false
none_later low high begun [] key ccid later so = refl
none_later low high begun (start ∷ starts) key ccid later so =
    let before = top start.epoch high starts so.1 in
    ap (λ first. first || is_stale starts begun key ccid) (never begun start key ccid (omega (arith, before, later))) ∙ none_later start.epoch high begun starts key ccid later so.1

-- ---- forgetting

pub front_goes : (oldest : ℕ) (starts rest : List Start) → is_front_up_to oldest starts ≡ true → (start : Start) → starts ≡ start ∷ rest → behind_front oldest rest ≡ behind_front oldest starts
front_goes oldest starts rest old start is = sym (ap (behind_front oldest) is ∙ cond-false (nat_lt oldest start.epoch) (start ∷ rest) (behind_front oldest rest) (le-ltb oldest start.epoch (leb-true start.epoch oldest (sym (ap (is_front_up_to oldest) is) ∙ old))))

pub front_stays : (oldest : ℕ) (starts : List Start) → is_front_up_to oldest starts ≡ false → behind_front oldest starts ≡ starts
front_stays oldest [] young = refl
front_stays oldest (start ∷ starts) young = cond-true (nat_lt oldest start.epoch) (start ∷ starts) (behind_front oldest starts) (lt-ltb oldest start.epoch (leb-false start.epoch oldest young))

all_past : (oldest low high : ℕ) (starts : List Start) → oldest ≤ low → AreRising low high starts → past oldest starts ≡ starts
all_past oldest low high [] before so = refl
all_past oldest low high (start ∷ starts) before so =
    cond-true (nat_lt oldest start.epoch) (start ∷ past oldest starts) (past oldest starts) (lt-ltb oldest start.epoch (omega (arith, so.0)))
    ∙ ap (λ rest. start ∷ rest) (all_past oldest start.epoch high starts (omega (arith, so.0)) so.1)

pub behind_is_past : (oldest low high : ℕ) (starts : List Start) → AreRising low high starts → behind_front oldest starts ≡ past oldest starts
behind_is_past oldest low high [] so = refl
behind_is_past oldest low high (start ∷ starts) so = elim (cases_Bool (nat_lt oldest start.epoch)) [
  | inl later ↦ cond-true (nat_lt oldest start.epoch) (start ∷ starts) (behind_front oldest starts) later
      ∙ sym (cond-true (nat_lt oldest start.epoch) (start ∷ past oldest starts) (past oldest starts) later
      ∙ ap (λ rest. start ∷ rest) (all_past oldest start.epoch high starts (omega (arith, ltb-true oldest start.epoch later)) so.1))
  | inr earlier ↦ cond-false (nat_lt oldest start.epoch) (start ∷ starts) (behind_front oldest starts) earlier
      ∙ behind_is_past oldest start.epoch high starts so.1
      ∙ sym (cond-false (nat_lt oldest start.epoch) (start ∷ past oldest starts) (past oldest starts) earlier)
]

lower : (low higher high : ℕ) (starts : List Start) → higher ≤ low → AreRising low high starts → AreRising higher high starts
lower low higher high [] before so = omega (arith, so)
lower low higher high (start ∷ starts) before so = (omega (arith, so.0), so.1)

pub rising_past : (oldest low high : ℕ) (starts : List Start) → oldest ≤ high → AreRising low high starts → AreRising (max low oldest) high (behind_front oldest starts)
rising_past oldest low high [] within so = omega (arith, so)
rising_past oldest low high (start ∷ starts) within so = elim (cases_Bool (nat_lt oldest start.epoch)) [
  | inl later ↦ subst (AreRising (max low oldest) high) (sym (cond-true (nat_lt oldest start.epoch) (start ∷ starts) (behind_front oldest starts) later))
      (let after = ltb-true oldest start.epoch later in omega (arith, so.0, after), so.1)
  | inr earlier ↦ subst (AreRising (max low oldest) high) (sym (cond-false (nat_lt oldest start.epoch) (start ∷ starts) (behind_front oldest starts) earlier))
      (lower (max start.epoch oldest) (max low oldest) high (behind_front oldest starts) (let before = ltb-false oldest start.epoch earlier in omega (arith, so.0, before)) (rising_past oldest start.epoch high starts within so.1))
]

pub past_agrees : (oldest begun : ℕ) (starts : List Start) (key : KeyParts) (ccid : Option (List ℕ)) → oldest ≤ begun → is_stale (past oldest starts) begun key ccid ≡ is_stale starts begun key ccid
past_agrees oldest begun [] key ccid before = refl
past_agrees oldest begun (start ∷ starts) key ccid before = elim (cases_Bool (nat_lt oldest start.epoch)) [
  | inl later ↦ ap (λ left. is_stale left begun key ccid) (cond-true (nat_lt oldest start.epoch) (start ∷ past oldest starts) (past oldest starts) later)
      ∙ ap (λ rest. (nat_lt begun start.epoch && hits start.selection key ccid) || rest) (past_agrees oldest begun starts key ccid before)
  | inr earlier ↦ ap (λ left. is_stale left begun key ccid) (cond-false (nat_lt oldest start.epoch) (start ∷ past oldest starts) (past oldest starts) earlier)
      ∙ past_agrees oldest begun starts key ccid before
      ∙ sym (ap (λ first. first || is_stale starts begun key ccid) (never begun start key ccid (let old = ltb-false oldest start.epoch earlier in omega (arith, old))))
]

-- ---- all events

missed : (events : List Event) (known : Known) (starts : List Start) (begun : ℕ) (key : KeyParts) (ccid : Option (List ℕ))
    → (known.settled ≤ begun → is_stale known.starts begun key ccid ≡ is_stale starts begun key ccid) → (fold after known events).settled ≤ begun
    → is_stale (fold after known events).starts begun key ccid ≡ is_stale (starts_from known.newest starts events) begun key ccid
missed [] known starts begun key ccid so below = so below
missed (begins selection ∷ events) known starts begun key ccid so below =
    missed events (after known (begins selection)) (starts ++ next_start known.newest selection ∷ []) begun key ccid
    (λ first. any_append (λ start. nat_lt begun start.epoch && hits start.selection key ccid) known.starts (next_start known.newest selection ∷ [])
    ∙ ap (λ before. before || is_stale (next_start known.newest selection ∷ []) begun key ccid) (so first)
    ∙ sym (any_append (λ start. nat_lt begun start.epoch && hits start.selection key ccid) starts (next_start known.newest selection ∷ []))) below
missed (forgets oldest ∷ events) known starts begun key ccid so below =
    missed events (after known (forgets oldest)) starts begun key ccid
    (λ first. past_agrees oldest begun known.starts key ccid (omega (arith, first)) ∙ so (omega (arith, first))) below

pub none_missed : (events : List Event) (begun : ℕ) (key : KeyParts) (ccid : Option (List ℕ)) → (known_after events).settled ≤ begun
    → is_stale (known_after events).starts begun key ccid ≡ is_stale (all_starts events) begun key ccid
none_missed events begun key ccid below = missed events nothing [] begun key ccid (λ first. refl) below
