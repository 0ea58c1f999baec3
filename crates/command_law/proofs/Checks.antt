-- The checks of a trigger, in their order: what they let through, and the first that fails.
use Rattle.std.proofs.Common.{◌≡◌, ℕ, zero, suc, ◌+◌, ◌-◌, ◌^◌, ◌<◌, min, Bool, true, false, List, [], ◌∷◌, ◌++◌, length, take, All, refl, sym, ap, ◌∙◌, subst, inl, inr, Ok, Err, None, Some, Option, arith}
use Rattle.std.proofs.lemmas.List.{length-map}
use Rattle.std.specs.List.{AllZip}
use Rattle.std.specs.Bool.{Decides}
use Rattle.std.specs.Prelude.{◌⊎◌, if◌then◌else◌, nat_lt, ◌&&◌, ◌==◌}
use Rattle.std.specs.Option.{option_map_or}
use Rattle.std.specs.declared.result.Result.{Result}
use Rattle.std.proofs.lemmas.Bool.{cases_eq}
use Rattle.std.proofs.lemmas.Bool.Decides.{Decides-eqb, Decides-ltb, Decides-and, not_from_Decides}
use Rattle.std.proofs.lemmas.List.Elements.{All-append, All-cons, All-head, All-nil, All-tail, All-weaker}
use Rattle.json_read.specs.Field.{◌>>=◌}
use Rattle.targets.specs.Grammar.{IsTarget}
use Rattle.trigger_command.specs.Draft.{each_from}
use Rattle.trigger_command.specs.Reading.{Judged, url_at, pattern_item, pattern_item_at, is_preposition, pattern_count, draft_count, wrong_lists, selection_of, spec_of}
use Rattle.trigger_command.specs.Spec.{SpecParts}
use Rattle.trigger_command.specs.declared.fault.CommandFault.{CommandFault}
use Rattle.trigger_command.specs.declared.fault.CommandFault.TheVariants as fault
use Rattle.trigger_command.specs.declared.selection.PatternItem.{PatternItem}
use Rattle.trigger_command.specs.declared.selection.Selection.{Selection}
use Rattle.trigger_command.specs.declared.selection.UrlItem.{UrlItem}
use Rattle.trigger_command.specs.declared.spec.TriggerKind.{TriggerKind}
use Rattle.trigger_command.specs.declared.spec.TriggerKind.TheVariants.{Preposition, Invalidate, Purge}
use Rattle.command_law.specs.Faults.{IsAbsoluteUrl, IsAllowed, IsFirstWrong, IsShort, HasRightLists, IsWrongTrigger, WrittenPattern, WrittenTrigger, urls_of, patterns_of, item_count}
use Rattle.command_law.specs.Faults as faults
use Rattle.command_law.proofs.Meets.{Meets, ok_err, same_err, meets_ok, meets_err, meets_also, meets_then, meets_step, meets_step_by, meets_each}
use Rattle.command_law.proofs.Fields.{pattern_draft, trigger_draft}
use Rattle.command_law.proofs.Items.{IsUrlItem, IsItemOf, url_meets, pattern_item_meets, each_of_drafts, each_is_right, right_each}

-- ---- the numbers of items

pattern_counts : (trigger : WrittenTrigger) → pattern_count (trigger_draft trigger) ≡ faults.pattern_count trigger
pattern_counts trigger = simp length-map

item_counts : (trigger : WrittenTrigger) → draft_count (trigger_draft trigger) ≡ item_count trigger
item_counts trigger = simp length-map

abbrev wrong_by : Bool → Bool → Bool → Bool → ℕ → Option CommandFault
wrong_by none pattern ccid many n = if none then Some fault.NoSelection else (if pattern then Some fault.PatternInPreposition else (if ccid then Some fault.CcidInPreposition
    else (if many then Some (fault.TooMany n) else None)))

-- the faults of the numbers alone
abbrev pub IsWrongNumber : WrittenTrigger → CommandFault → Type 0
IsWrongNumber trigger (fault.BadUrl index) = ⊥
IsWrongNumber trigger (fault.BadPattern index) = ⊥
IsWrongNumber trigger other = IsWrongTrigger trigger other

abbrev checked : Option CommandFault → Judged (Unit {0})
checked wrong = option_map_or (λ w. Err w) wrong (Ok tt)

module _ (trigger : WrittenTrigger) where
  HasNone : Type 0
  HasNone = item_count trigger ≡ 0

  none_only : item_count trigger ≡ 0 → (wrong : CommandFault) → IsWrongNumber trigger wrong → wrong ≡ fault.NoSelection
  none_only is fault.NoSelection so = refl
  none_only is fault.PatternInPreposition so = absurd (omega (arith, so.1))
  none_only is fault.CcidInPreposition so = absurd (omega (arith, so.2))
  none_only is (fault.TooMany n) so = absurd (omega (arith, so.1))
  none_only is other so = absurd so

  pattern_only : 0 < item_count trigger → (trigger.kind ≡ Preposition) × (0 < faults.pattern_count trigger) → (wrong : CommandFault) → IsWrongNumber trigger wrong → wrong ≡ fault.PatternInPreposition
  pattern_only some is fault.NoSelection so = absurd (omega (arith, so))
  pattern_only some is fault.PatternInPreposition so = refl
  pattern_only some is fault.CcidInPreposition so = absurd (omega (arith, so.1, is.1))
  pattern_only some is (fault.TooMany n) so = let allowed = so.0 is.0 in absurd (omega (arith, allowed.0, is.1))
  pattern_only some is other so = absurd so

  ccid_only : 0 < item_count trigger → ((trigger.kind ≡ Preposition) × (0 < faults.pattern_count trigger) → ⊥) → (trigger.kind ≡ Preposition) × (0 < length trigger.ccids)
      → (wrong : CommandFault) → IsWrongNumber trigger wrong → wrong ≡ fault.CcidInPreposition
  ccid_only some without is fault.NoSelection so = absurd (omega (arith, so))
  ccid_only some without is fault.PatternInPreposition so = absurd (without so)
  ccid_only some without is fault.CcidInPreposition so = refl
  ccid_only some without is (fault.TooMany n) so = let allowed = so.0 is.0 in absurd (omega (arith, allowed.1, is.1))
  ccid_only some without is other so = absurd so

  many_only : 0 < item_count trigger → ((trigger.kind ≡ Preposition) × (0 < faults.pattern_count trigger) → ⊥) → ((trigger.kind ≡ Preposition) × (0 < length trigger.ccids) → ⊥)
      → (n : ℕ) → n ≡ min (item_count trigger) (2 ^ 64 - 1) → (wrong : CommandFault) → IsWrongNumber trigger wrong → wrong ≡ fault.TooMany n
  many_only some without neither n is fault.NoSelection so = absurd (omega (arith, so))
  many_only some without neither n is fault.PatternInPreposition so = absurd (without so)
  many_only some without neither n is fault.CcidInPreposition so = absurd (neither (so.0, so.2))
  many_only some without neither n is (fault.TooMany m) so = ap fault.TooMany (so.2 ∙ sym is)
  many_only some without neither n is other so = absurd so

  right_only : HasRightLists trigger → (wrong : CommandFault) → IsWrongNumber trigger wrong → ⊥
  right_only right fault.NoSelection so = omega (arith, so, right.some)
  right_only right fault.PatternInPreposition so = let allowed = right.allowed so.0 in omega (arith, allowed.0, so.1)
  right_only right fault.CcidInPreposition so = let allowed = right.allowed so.0 in omega (arith, allowed.1, so.2)
  right_only right (fault.TooMany n) so = omega (arith, so.1, right.few)
  right_only right other so = so

  allowed_so : ((trigger.kind ≡ Preposition) × (0 < faults.pattern_count trigger) → ⊥) → ((trigger.kind ≡ Preposition) × (0 < length trigger.ccids) → ⊥) → IsAllowed trigger
  allowed_so without neither is = (zero_or (faults.pattern_count trigger) (λ more. without (is, more)), zero_or (length trigger.ccids) (λ more. neither (is, more)))
    where
      zero_or : (n : ℕ) → (0 < n → ⊥) → n ≡ 0
      zero_or zero none = refl
      zero_or (suc n) none = absurd (none (omega arith))

  numbers_by : (none pattern ccid many : Bool) (n : ℕ) → Decides none (item_count trigger ≡ 0) → Decides pattern ((trigger.kind ≡ Preposition) × (0 < faults.pattern_count trigger))
      → Decides ccid ((trigger.kind ≡ Preposition) × (0 < length trigger.ccids)) → Decides many (1000 < item_count trigger) → n ≡ min (item_count trigger) (2 ^ 64 - 1)
      → Meets (checked (wrong_by none pattern ccid many n)) (λ done. HasRightLists trigger) (IsWrongNumber trigger)
  numbers_by true pattern ccid many n dn dp dc dm is = let zero_is = dn.0 refl in meets_also (Err fault.NoSelection) (meets_err fault.NoSelection)
      (λ done impossible. absurd impossible) (λ done right. omega (arith, zero_is, right.some)) (λ wrong so. subst (IsWrongNumber trigger) (sym so) zero_is) (none_only zero_is)
  numbers_by false true ccid many n dn dp dc dm is = let p = dp.0 refl in let some : 0 < item_count trigger = omega (arith, p.1) in meets_also (Err fault.PatternInPreposition) (meets_err fault.PatternInPreposition)
      (λ done impossible. absurd impossible) (λ done right. let allowed = right.allowed p.0 in omega (arith, allowed.0, p.1)) (λ wrong so. subst (IsWrongNumber trigger) (sym so) p) (pattern_only some p)
  numbers_by false false true many n dn dp dc dm is =
      let c = dc.0 refl in
      let without = not_from_Decides false dp refl in
      let some : 0 < item_count trigger = omega (arith, c.1) in
      let right_so : IsWrongNumber trigger fault.CcidInPreposition = (c.0, (none_of c.0 without), c.1) in
      meets_also (Err fault.CcidInPreposition) (meets_err fault.CcidInPreposition)
      (λ done impossible. absurd impossible) (λ done right. let allowed = right.allowed c.0 in omega (arith, allowed.1, c.1)) (λ wrong so. subst (IsWrongNumber trigger) (sym so) right_so) (ccid_only some without c)
    where
      none_of : trigger.kind ≡ Preposition → ((trigger.kind ≡ Preposition) × (0 < faults.pattern_count trigger) → ⊥) → faults.pattern_count trigger ≡ 0
      none_of kind without = elim (cases_eq (faults.pattern_count trigger) 0) [ inl none ↦ none | inr some ↦ absurd (without (kind, omega (arith, some))) ]
  numbers_by false false false true n dn dp dc dm is =
      let without = not_from_Decides false dp refl in
      let neither = not_from_Decides false dc refl in
      let many = dm.0 refl in
      let some : 0 < item_count trigger = omega (arith, many) in
      let right_so : IsWrongNumber trigger (fault.TooMany n) = (allowed_so without neither, many, is) in
      meets_also (Err (fault.TooMany n)) (meets_err (fault.TooMany n))
      (λ done impossible. absurd impossible) (λ done right. omega (arith, right.few, many)) (λ wrong so. subst (IsWrongNumber trigger) (sym so) right_so) (many_only some without neither n is)
  numbers_by false false false false n dn dp dc dm is =
      let empty = not_from_Decides false dn refl in
      let few = not_from_Decides false dm refl in
      let right : HasRightLists trigger = record { some = omega (arith, empty); allowed = allowed_so (not_from_Decides false dp refl) (not_from_Decides false dc refl); few = omega (arith, few) } in
      meets_also (Ok tt) (meets_ok tt) (λ done same. right) (λ done so. refl) (λ wrong impossible. absurd impossible) (right_only right)

preposition_is : (kind : TriggerKind) → Decides (is_preposition kind) (kind ≡ Preposition)
preposition_is Preposition = (λ is. refl, λ is. refl)
preposition_is Invalidate = (λ is. cc, λ is. absurd (cc))
preposition_is Purge = (λ is. cc, λ is. absurd (cc))

numbers_meet : (trigger : WrittenTrigger) → Meets (checked (wrong_lists (trigger_draft trigger))) (λ done. HasRightLists trigger) (IsWrongNumber trigger)
unfolding wrong_lists
numbers_meet trigger = rw (item_counts trigger, pattern_counts trigger) (numbers_by trigger (item_count trigger == 0) (is_preposition trigger.kind && nat_lt 0 (faults.pattern_count trigger)) (is_preposition trigger.kind && nat_lt 0 (length trigger.ccids))
    (nat_lt 1000 (item_count trigger)) (min (item_count trigger) (2 ^ 64 - 1)) (Decides-eqb (item_count trigger) 0)
    (Decides-and _ _ (preposition_is trigger.kind) (Decides-ltb 0 (faults.pattern_count trigger))) (Decides-and _ _ (preposition_is trigger.kind) (Decides-ltb 0 (length trigger.ccids)))
    (Decides-ltb 1000 (item_count trigger)) refl)

-- ---- two lists that are numbered together

-- two lists that are read, the second behind the first
abbrev pub both_read : {A B F : Type 0} → (ℕ → B → Result A F) → List B → List B → Result (List A × List A) F
both_read read xs ys = each_from read 0 xs >>= λ a. each_from read (length xs) ys >>= λ b. Ok (a, b)

module _ {A B F : Type 0} (read : ℕ → B → Result A F) where
  abbrev joined : Result (List A × List A) F → Result (List A) F
  joined (Ok pair) = Ok (pair.0 ++ pair.1)
  joined (Err wrong) = Err wrong

  put_first : (a : A) (r : Result (List A) F) (s : List A → Result (List A) F) → (r >>= λ others. Ok (a ∷ others)) >>= s ≡ r >>= λ others. s (a ∷ others)
  put_first a (Ok others) s = refl
  put_first a (Err wrong) s = refl

  moved : (x : Result A F) (rest : Result (List A) F) (more : Result (List A) F)
      → (x >>= λ first. (rest >>= λ a. more >>= λ b. Ok (a ++ b)) >>= λ others. Ok (first ∷ others))
      ≡ (x >>= λ first. rest >>= λ others. Ok (first ∷ others)) >>= λ a. more >>= λ b. Ok (a ++ b)
  moved (Err wrong) rest more = refl
  moved (Ok first) (Err wrong) more = refl
  moved (Ok first) (Ok others) (Err wrong) = refl
  moved (Ok first) (Ok others) (Ok more) = refl

  each_joined : (n : ℕ) (xs ys : List B) → each_from read n (xs ++ ys) ≡ each_from read n xs >>= λ a. each_from read (n + length xs) ys >>= λ b. Ok (a ++ b)
  unfolding each_from
  each_joined n [] ys = let same : n + 0 ≡ n = omega arith in rw same (unchanged (each_from read n ys))
    where
      unchanged : (r : Result (List A) F) → r ≡ r >>= λ b. Ok ([] ++ b)
      unchanged (Ok b) = refl
      unchanged (Err wrong) = refl
  each_joined n (x ∷ xs) ys = let same : n + 1 + length xs ≡ n + suc (length xs) = omega arith in
      ap (λ rest. read n x >>= λ first. rest >>= λ others. Ok (first ∷ others)) (each_joined (n + 1) xs ys)
      ∙ moved (read n x) (each_from read (n + 1) xs) (each_from read (n + 1 + length xs) ys)
      ∙ ap (λ m. (read n x >>= λ first. each_from read (n + 1) xs >>= λ others. Ok (first ∷ others)) >>= λ a. each_from read m ys >>= λ b. Ok (a ++ b)) same

  both_joined : (xs ys : List B) → each_from read 0 (xs ++ ys) ≡ joined (both_read read xs ys)
  both_joined xs ys = let same : 0 + length xs ≡ length xs = omega arith in
      each_joined 0 xs ys ∙ ap (λ m. each_from read 0 xs >>= λ a. each_from read m ys >>= λ b. Ok (a ++ b)) same ∙ as_pair (each_from read 0 xs) (each_from read (length xs) ys)
    where
      as_pair : (r s : Result (List A) F) → r >>= (λ a. s >>= λ b. Ok (a ++ b)) ≡ joined (r >>= λ a. s >>= λ b. Ok (a, b))
      as_pair (Ok a) (Ok b) = refl
      as_pair (Ok a) (Err wrong) = refl
      as_pair (Err wrong) s = refl

  joined_err : (r : Result (List A × List A) F) (wrong : F) → joined r ≡ Err wrong → r ≡ Err wrong
  joined_err (Ok pair) wrong is = absurd (ok_err (pair.0 ++ pair.1) wrong is)
  joined_err (Err other) wrong is = ap Err (same_err other wrong is)

module _ {A B : Type 0} (read : ℕ → B → Judged A) (IsRight : B → A → Type 0) (IsGood : B → Type 0) (wrong_at : ℕ → CommandFault)
    (each : (n : ℕ) (x : B) → Meets (read n x) (IsRight x) (λ wrong. (IsGood x → ⊥) × (wrong ≡ wrong_at n)))
    (good : (x : B) (a : A) → IsRight x a → IsGood x) (item : (x : B) → IsGood x → (a : A) × IsRight x a) where
  all_good : (xs : List B) (found : List A) → AllZip IsRight xs found → All IsGood xs
  all_good xs found all = All-weaker (λ x. (a : A) × IsRight x a) IsGood (λ x so. good x so.0 so.1) xs (each_is_right IsRight xs found all)

  all_right : (xs : List B) → All IsGood xs → (found : List A) × AllZip IsRight xs found
  all_right xs all = right_each IsRight xs (All-weaker IsGood (λ x. (a : A) × IsRight x a) item xs all)

  -- one list
  pub first_meets : (xs : List B) → Meets (each_from read 0 xs) (λ found. AllZip IsRight xs found) (λ wrong. (i : ℕ) × IsFirstWrong IsGood xs i × (wrong ≡ wrong_at i))
  first_meets xs = meets_also (each_from read 0 xs) (meets_each read IsRight (λ n x wrong. (IsGood x → ⊥) × (wrong ≡ wrong_at n)) each 0 xs)
      (λ found so. so) (λ found so. so)
      (λ wrong so. (so.0, (so.1, so.2, so.4.0, all_good (take so.0 xs) so.3.0 so.3.1), subst (λ i. wrong ≡ wrong_at i) (omega arith) so.4.1))
      (λ wrong so. (so.0, so.1.0, so.1.1, all_right (take so.0 xs) so.1.3, (so.1.2, subst (λ i. wrong ≡ wrong_at i) (omega arith) so.2)))

  -- two lists
  pub both_meets : (xs ys : List B) → Meets (both_read read xs ys) (λ pair. AllZip IsRight xs pair.0 × AllZip IsRight ys pair.1)
      (λ wrong. (i : ℕ) × IsFirstWrong IsGood (xs ++ ys) i × (wrong ≡ wrong_at i))
  both_meets xs ys =
      let one = meets_each read IsRight (λ n x wrong. (IsGood x → ⊥) × (wrong ≡ wrong_at n)) each 0 xs in
      let other = meets_each read IsRight (λ n x wrong. (IsGood x → ⊥) × (wrong ≡ wrong_at n)) each (length xs) ys in
      let apart = meets_step (each_from read 0 xs) (λ a. each_from read (length xs) ys >>= λ b. Ok (a, b)) one (λ a first. meets_step (each_from read (length xs) ys) (λ b. Ok (a, b)) other (λ b second. meets_ok (a, b))) in
      record {
        read = λ pair is. let so = apart.read pair is in (subst (λ p. AllZip IsRight xs p.0) so.2.2 so.1, subst (λ p. AllZip IsRight ys p.1) so.2.2 so.2.1);
        is_read = λ pair so. apart.is_read pair (pair.0, so.0, (pair.1, so.1, refl));
        refused = λ wrong is. (first_meets (xs ++ ys)).refused wrong (both_joined read xs ys ∙ ap (joined read) is);
        is_refused = λ wrong so. joined_err read (both_read read xs ys) wrong (sym (both_joined read xs ys) ∙ (first_meets (xs ++ ys)).is_refused wrong so);
      }

-- ---- a selection

-- the selection and the trigger that is written
pub record IsSelected (trigger : WrittenTrigger) (selection : Selection) : Type 0 where
  pub metadata_urls : AllZip IsUrlItem trigger.metadata_urls selection.metadata_urls
  pub content_urls : AllZip IsUrlItem trigger.content_urls selection.content_urls
  pub ccids : trigger.ccids ≡ selection.ccids
  pub metadata_patterns : AllZip IsItemOf trigger.metadata_patterns selection.metadata_patterns
  pub content_patterns : AllZip IsItemOf trigger.content_patterns selection.content_patterns

abbrev pair_of : {A F : Type 0} → Result A F → Result A F → Result (A × A) F
pair_of a b = a >>= λ x. b >>= λ y. Ok (x, y)

-- four readings as two pairs
paired : {A B C F : Type 0} (a b : Result A F) (c d : Result B F) (f : A → A → B → B → C)
    → (a >>= λ x. b >>= λ y. c >>= λ z. d >>= λ w. Ok (f x y z w)) ≡ pair_of a b >>= λ p. pair_of c d >>= λ q. Ok (f p.0 p.1 q.0 q.1)
paired (Err wrong) b c d f = refl
paired (Ok x) (Err wrong) c d f = refl
paired (Ok x) (Ok y) (Err wrong) d f = refl
paired (Ok x) (Ok y) (Ok z) (Err wrong) f = refl
paired (Ok x) (Ok y) (Ok z) (Ok w) f = refl

abbrev selected : WrittenTrigger → List UrlItem → List UrlItem → List PatternItem → List PatternItem → Selection
selected trigger metadata_urls content_urls metadata_patterns content_patterns = record {
  metadata_urls = metadata_urls;
  content_urls = content_urls;
  ccids = trigger.ccids;
  metadata_patterns = metadata_patterns;
  content_patterns = content_patterns;
}

abbrev read_pattern : ℕ → WrittenPattern → Judged PatternItem
read_pattern i pattern = pattern_item_at i (pattern_draft pattern)

selection_paired : (trigger : WrittenTrigger) → selection_of (trigger_draft trigger)
    ≡ both_read url_at trigger.metadata_urls trigger.content_urls >>= λ p. both_read read_pattern trigger.metadata_patterns trigger.content_patterns >>= λ q. Ok (selected trigger p.0 p.1 q.0 q.1)
unfolding selection_of
selection_paired trigger =
    rw (each_of_drafts 0 trigger.metadata_patterns, length-map trigger.metadata_patterns pattern_draft, each_of_drafts (length trigger.metadata_patterns) trigger.content_patterns)
    (paired (each_from url_at 0 trigger.metadata_urls) (each_from url_at (length trigger.metadata_urls) trigger.content_urls) (each_from read_pattern 0 trigger.metadata_patterns)
    (each_from read_pattern (length trigger.metadata_patterns) trigger.content_patterns) (selected trigger))

abbrev IsBadUrl : WrittenTrigger → CommandFault → Type 0
IsBadUrl trigger wrong = (i : ℕ) × IsFirstWrong IsAbsoluteUrl (urls_of trigger) i × (wrong ≡ fault.BadUrl i)

abbrev IsBadPattern : WrittenTrigger → CommandFault → Type 0
IsBadPattern trigger wrong = (i : ℕ) × IsFirstWrong IsShort (patterns_of trigger) i × (wrong ≡ fault.BadPattern i)

item_of_pattern : (pattern : WrittenPattern) → IsShort pattern → (item : PatternItem) × IsItemOf pattern item
item_of_pattern pattern short = (pattern_item (pattern_draft pattern), (short, refl))

item_of_url : (text : List ℕ) → IsAbsoluteUrl text → (item : UrlItem) × IsUrlItem text item
item_of_url text absolute = (record { text = text; target = absolute.0 }, (refl, absolute.1))

url_absolute : (text : List ℕ) (item : UrlItem) → IsUrlItem text item → IsAbsoluteUrl text
url_absolute text item so = (item.target, subst (λ t. IsTarget t None false item.target) (sym so.0) so.1)

urls_meet : (xs ys : List (List ℕ)) → Meets (both_read url_at xs ys) (λ pair. AllZip IsUrlItem xs pair.0 × AllZip IsUrlItem ys pair.1) (λ wrong. (i : ℕ) × IsFirstWrong IsAbsoluteUrl (xs ++ ys) i × (wrong ≡ fault.BadUrl i))
urls_meet xs ys = both_meets url_at IsUrlItem IsAbsoluteUrl fault.BadUrl url_meets url_absolute item_of_url xs ys

patterns_meet : (xs ys : List WrittenPattern) → Meets (both_read read_pattern xs ys) (λ pair. AllZip IsItemOf xs pair.0 × AllZip IsItemOf ys pair.1) (λ wrong. (i : ℕ) × IsFirstWrong IsShort (xs ++ ys) i × (wrong ≡ fault.BadPattern i))
patterns_meet xs ys = both_meets read_pattern IsItemOf IsShort fault.BadPattern pattern_item_meets (λ pattern item so. so.0) item_of_pattern xs ys

All-front : {A : Type 0} (P : A → Type 0) (xs ys : List A) → All P (xs ++ ys) → All P xs
All-front P [] ys all = All-nil P
All-front P (x ∷ xs) ys all = All-cons P x xs (All-head P x (xs ++ ys) all) (All-front P xs ys (All-tail P x (xs ++ ys) all))

All-back : {A : Type 0} (P : A → Type 0) (xs ys : List A) → All P (xs ++ ys) → All P ys
All-back P [] ys all = all
All-back P (x ∷ xs) ys all = All-back P xs ys (All-tail P x (xs ++ ys) all)

-- both lists of URLs are absolute
both_absolute : (xs ys : List (List ℕ)) → ((pair : List UrlItem × List UrlItem) × (AllZip IsUrlItem xs pair.0 × AllZip IsUrlItem ys pair.1)) → All IsAbsoluteUrl (xs ++ ys)
both_absolute xs ys so = All-append IsAbsoluteUrl xs ys (all_good url_at IsUrlItem IsAbsoluteUrl fault.BadUrl url_meets url_absolute item_of_url xs so.0.0 so.1.0)
    (all_good url_at IsUrlItem IsAbsoluteUrl fault.BadUrl url_meets url_absolute item_of_url ys so.0.1 so.1.1)

absolute_both : (xs ys : List (List ℕ)) → All IsAbsoluteUrl (xs ++ ys) → (pair : List UrlItem × List UrlItem) × (AllZip IsUrlItem xs pair.0 × AllZip IsUrlItem ys pair.1)
absolute_both xs ys all =
    let first = all_right url_at IsUrlItem IsAbsoluteUrl fault.BadUrl url_meets url_absolute item_of_url xs (All-front IsAbsoluteUrl xs ys all) in
    let second = all_right url_at IsUrlItem IsAbsoluteUrl fault.BadUrl url_meets url_absolute item_of_url ys (All-back IsAbsoluteUrl xs ys all) in
    ((first.0, second.0), (first.1, second.1))

selection_meets : (trigger : WrittenTrigger) → Meets (selection_of (trigger_draft trigger)) (IsSelected trigger) (λ wrong. IsBadUrl trigger wrong ⊎ (All IsAbsoluteUrl (urls_of trigger) × IsBadPattern trigger wrong))
selection_meets trigger = subst (λ reading. Meets reading (IsSelected trigger) (λ wrong. IsBadUrl trigger wrong ⊎ (All IsAbsoluteUrl (urls_of trigger) × IsBadPattern trigger wrong))) (sym (selection_paired trigger))
    (meets_also _
    (meets_step_by (All IsAbsoluteUrl (urls_of trigger)) (both_read url_at trigger.metadata_urls trigger.content_urls) _ (urls_meet trigger.metadata_urls trigger.content_urls)
    (λ p so. both_absolute trigger.metadata_urls trigger.content_urls (p, so)) (absolute_both trigger.metadata_urls trigger.content_urls)
    (λ p so. meets_step (both_read read_pattern trigger.metadata_patterns trigger.content_patterns) _ (patterns_meet trigger.metadata_patterns trigger.content_patterns) (λ q so. meets_ok (selected trigger p.0 p.1 q.0 q.1))))
    (λ selection so. subst (IsSelected trigger) so.2.2 (record { metadata_urls = so.1.0; content_urls = so.1.1; ccids = refl; metadata_patterns = so.2.1.0; content_patterns = so.2.1.1 }))
    (λ selection so. (
      (selection.metadata_urls, selection.content_urls),
      (so.metadata_urls, so.content_urls),
      (
        (selection.metadata_patterns, selection.content_patterns),
        (so.metadata_patterns, so.content_patterns),
        ap (λ ccids. record { metadata_urls = selection.metadata_urls; content_urls = selection.content_urls; ccids = ccids; metadata_patterns = selection.metadata_patterns; content_patterns = selection.content_patterns }) so.ccids,
      ),
    ))
    (λ wrong so. elim so [ inl bad ↦ inl bad | inr later ↦ elim later.1 [ inl bad ↦ inr (later.0, bad) | inr more ↦ absurd more.1 ] ])
    (λ wrong so. elim so [ inl bad ↦ inl bad | inr later ↦ inr (later.0, inl later.1) ]))

-- ---- a trigger specification

-- the specification that a right trigger is
pub record IsSpecOf (trigger : WrittenTrigger) (spec : SpecParts) : Type 0 where
  pub right : HasRightLists trigger
  pub kind : trigger.kind ≡ spec.kind
  pub selection : IsSelected trigger spec.selection

guarded_by : {A : Type 0} (wrong : Option CommandFault) (reading : Judged A) → option_map_or (λ w. Err w) wrong reading ≡ checked wrong >>= λ done. reading
guarded_by None reading = refl
guarded_by (Some wrong) reading = refl

in_words : (trigger : WrittenTrigger) (wrong : CommandFault) → IsWrongNumber trigger wrong → IsWrongTrigger trigger wrong
in_words trigger fault.NoSelection so = so
in_words trigger fault.PatternInPreposition so = so
in_words trigger fault.CcidInPreposition so = so
in_words trigger (fault.TooMany n) so = so
in_words trigger other so = absurd so

later_in_words : (trigger : WrittenTrigger) (wrong : CommandFault) → HasRightLists trigger → IsBadUrl trigger wrong ⊎ (All IsAbsoluteUrl (urls_of trigger) × IsBadPattern trigger wrong) → IsWrongTrigger trigger wrong
later_in_words trigger wrong right (inl bad) = subst (IsWrongTrigger trigger) (sym bad.2) (right, bad.1)
later_in_words trigger wrong right (inr later) = subst (IsWrongTrigger trigger) (sym later.1.2) (right, later.0, later.1.1)

by_steps : (trigger : WrittenTrigger) (wrong : CommandFault) → IsWrongTrigger trigger wrong
    → IsWrongNumber trigger wrong ⊎ (((done : Unit {0}) × HasRightLists trigger) × (IsBadUrl trigger wrong ⊎ (All IsAbsoluteUrl (urls_of trigger) × IsBadPattern trigger wrong)))
by_steps trigger fault.NoSelection so = inl so
by_steps trigger fault.PatternInPreposition so = inl so
by_steps trigger fault.CcidInPreposition so = inl so
by_steps trigger (fault.TooMany n) so = inl so
by_steps trigger (fault.BadUrl i) so = inr ((tt, so.0), inl (i, so.1, refl))
by_steps trigger (fault.BadPattern i) so = inr ((tt, so.0), inr (so.1, (i, so.2, refl)))
by_steps trigger other so = absurd so

pub spec_meets : (trigger : WrittenTrigger) → Meets (spec_of (trigger_draft trigger)) (IsSpecOf trigger) (IsWrongTrigger trigger)
unfolding spec_of
spec_meets trigger = subst (λ reading. Meets reading (IsSpecOf trigger) (IsWrongTrigger trigger)) (sym (guarded_by (wrong_lists (trigger_draft trigger)) _))
    (meets_also _
    (meets_step (checked (wrong_lists (trigger_draft trigger))) _ (numbers_meet trigger)
    (λ done right. meets_then (selection_of (trigger_draft trigger)) (λ selection. Ok (record { kind = trigger.kind; selection = selection })) (selection_meets trigger) (λ selection so. meets_ok {A = SpecParts} (record { kind = trigger.kind; selection = selection }))))
    (λ spec so. subst (IsSpecOf trigger) so.2.2 (record { right = so.1; kind = refl; selection = so.2.1 }))
    (λ spec so. (tt, so.right, (spec.selection, so.selection, ap (λ kind. record { kind = kind; selection = spec.selection }) so.kind)))
    (λ wrong so. elim so [ inl number ↦ in_words trigger wrong number | inr later ↦ later_in_words trigger wrong later.0.1 (selected_wrong later.1) ])
    (λ wrong so. elim (by_steps trigger wrong so) [ inl number ↦ inl number | inr later ↦ inr (later.0, inl later.1) ]))
  where
    selected_wrong : {A : Type 0} {B : A → Type 0} {P : Type 0} → P ⊎ ((a : A) × B a × ⊥) → P
    selected_wrong (inl wrong) = wrong
    selected_wrong (inr later) = absurd later.2
