-- The first match of a list of rules, computed, is the answer of the relation; and so is what `find` finds.
use Rattle.std.proofs.Common.{◌≡◌, ℕ, ◌+◌, Bool, true, false, cond, zero, suc, List, [], ◌∷◌, take, refl, sym, ◌∙◌, ap, subst, arith, None, Some}
use Rattle.std.specs.List.{find}
use Rattle.std.specs.declared.option.Option.{Option}
use Rattle.std.proofs.lemmas.Bool.{cond-true, cond-false}
use Rattle.std.proofs.lemmas.Option.{same_Some, none-some}
use Rattle.listing.specs.FirstMatch.{first_from, first_match, NoneHolds, IsFirst, IsAnswer, IsFirstMatch}

module _ {Rule : Type 0} (holds : Rule → Bool) where
  pub none_more : (rule : Rule) (rules : List Rule) → holds rule ≡ false → NoneHolds holds rules → NoneHolds holds (rule ∷ rules)
  none_more rule rules is none zero other at = ap holds (sym (same_Some rule other at)) ∙ is
  none_more rule rules is none (suc i) other at = none i other at

  pub first_here : (rule : Rule) (rules : List Rule) → holds rule ≡ true → IsFirst holds (rule ∷ rules) zero rule
  first_here rule rules is = record { at = refl; holds_it = is; none_before = λ i other at. absurd (none-some other at) }

  pub first_more : (rule : Rule) (rules : List Rule) (index : ℕ) (first : Rule) → holds rule ≡ false → IsFirst holds rules index first → IsFirst holds (rule ∷ rules) (suc index) first
  first_more rule rules index first is found =
      record { at = found.at; holds_it = found.holds_it; none_before = none_more rule (take index rules) is found.none_before }

  -- what is first behind a rule that does not hold
  first_less : (rule : Rule) (rules : List Rule) (index : ℕ) (first : Rule) → IsFirst holds (rule ∷ rules) (suc index) first → (holds rule ≡ false) × IsFirst holds rules index first
  first_less rule rules index first found =
      (found.none_before 0 rule refl, record { at = found.at; holds_it = found.holds_it; none_before = λ i. found.none_before (suc i) })

  -- the first of a list that begins with it
  first_head : (rule : Rule) (rules : List Rule) (first : Rule) → IsFirst holds (rule ∷ rules) zero first → (rule ≡ first) × (holds rule ≡ true)
  first_head rule rules first found = let same = same_Some rule first found.at in (same, ap holds same ∙ found.holds_it)

  -- ---- what `find` finds

  pub find_none : (rules : List Rule) → NoneHolds holds rules → find holds rules ≡ None
  find_none [] none = refl
  find_none (rule ∷ rules) none = cond-false _ _ _ (none 0 rule refl) ∙ find_none rules (λ i. none (suc i))

  pub find_first : (rules : List Rule) (index : ℕ) (first : Rule) → IsFirst holds rules index first → find holds rules ≡ Some first
  find_first [] index first found = absurd (none-some first found.at)
  find_first (rule ∷ rules) zero first found = let head = first_head rule rules first found in cond-true _ _ _ head.1 ∙ ap Some head.0
  find_first (rule ∷ rules) (suc index) first found = let less = first_less rule rules index first found in cond-false _ _ _ less.0 ∙ find_first rules index first less.1

  abbrev FoundOf : List Rule → Option Rule → Type 0
  FoundOf rules None = NoneHolds holds rules
  FoundOf rules (Some first) = (index : ℕ) × IsFirst holds rules index first

  found_more : (rule : Rule) (rules : List Rule) (b : Bool) (rest : Option Rule) → holds rule ≡ b → FoundOf rules rest → FoundOf (rule ∷ rules) (cond b (Some rule) rest)
  found_more rule rules true rest is found = (zero, first_here rule rules is)
  found_more rule rules false None is found = none_more rule rules is found
  found_more rule rules false (Some first) is found = (suc found.0, first_more rule rules found.0 first is found.1)

  found_of : (rules : List Rule) → FoundOf rules (find holds rules)
  found_of [] = λ i rule at. absurd (none-some rule at)
  found_of (rule ∷ rules) = found_more rule rules (holds rule) (find holds rules) refl (found_of rules)

  pub none_found : (rules : List Rule) → find holds rules ≡ None → NoneHolds holds rules
  none_found rules is = subst (FoundOf rules) is (found_of rules)

  pub first_found : (rules : List Rule) (first : Rule) → find holds rules ≡ Some first → (index : ℕ) × IsFirst holds rules index first
  first_found rules first is = subst (FoundOf rules) is (found_of rules)

module _ {Rule : Type 0} (holds allows : Rule → Bool) where
  -- ---- what a list of rules answers

  -- the answer, where the rules are numbered from `start` on
  abbrev AnswerFrom : ℕ → List Rule → Bool → Option ℕ → Type 0
  AnswerFrom start rules allowed (Some number) = (index : ℕ) × (rule : Rule) × IsFirst holds rules index rule × (number ≡ index + start) × (allowed ≡ allows rule)
  AnswerFrom start rules allowed None = NoneHolds holds rules × (allowed ≡ false)

  later : (start : ℕ) (rule : Rule) (rules : List Rule) (allowed : Bool) (number : Option ℕ) → holds rule ≡ false
      → AnswerFrom (start + 1) rules allowed number → AnswerFrom start (rule ∷ rules) allowed number
  later start rule rules allowed None is none = (none_more holds rule rules is none.0, none.1)
  later start rule rules allowed (Some number) is found =
      (suc found.0, found.1, first_more holds rule rules found.0 found.1 is found.2, omega (arith, found.3), found.4)

  here : (start : ℕ) (rule : Rule) (rules : List Rule) (b : Bool) (rest : Bool × Option ℕ) → holds rule ≡ b → AnswerFrom (start + 1) rules rest.0 rest.1
      → AnswerFrom start (rule ∷ rules) (cond b (allows rule, Some start) rest).0 (cond b (allows rule, Some start) rest).1
  here start rule rules true rest is found = (zero, rule, first_here holds rule rules is, omega arith, refl)
  here start rule rules false rest is found = later start rule rules rest.0 rest.1 is found

  answers : (start : ℕ) (rules : List Rule) → AnswerFrom start rules (first_from holds allows start rules).0 (first_from holds allows start rules).1
  answers start [] = (λ i rule at. absurd (none-some rule at), refl)
  answers start (rule ∷ rules) = here start rule rules (holds rule) (first_from holds allows (start + 1) rules) refl (answers (start + 1) rules)

  -- the answer is none but the computed one
  only_none : (start : ℕ) (rules : List Rule) → NoneHolds holds rules → first_from holds allows start rules ≡ (false, None)
  only_none start [] none = refl
  only_none start (rule ∷ rules) none = cond-false _ _ _ (none 0 rule refl) ∙ only_none (start + 1) rules (λ i. none (suc i))

  only_first : (start : ℕ) (rules : List Rule) (rule : Rule) (index : ℕ) → IsFirst holds rules index rule → first_from holds allows start rules ≡ (allows rule, Some (index + start))
  only_first start [] rule index found = absurd (none-some rule found.at)
  only_first start (first ∷ rules) rule zero found =
      let head = first_head holds first rules rule found in
      let numbered : start ≡ zero + start = omega arith in
      cond-true _ _ _ head.1 ∙ (λ i. (allows (head.0 i), Some (numbered i)))
  only_first start (first ∷ rules) rule (suc index) found =
      let less = first_less holds first rules index rule found in
      let numbered : index + (start + 1) ≡ suc index + start = omega arith in
      cond-false _ _ _ less.0 ∙ only_first (start + 1) rules rule index less.1 ∙ (λ i. (allows rule, Some (numbered i)))

  only : (start : ℕ) (rules : List Rule) (allowed : Bool) (number : Option ℕ) → AnswerFrom start rules allowed number → first_from holds allows start rules ≡ (allowed, number)
  only start rules allowed None none = only_none start rules none.0 ∙ (λ i. (sym none.1 i, None))
  only start rules allowed (Some number) found = only_first start rules found.1 found.0 found.2 ∙ (λ i. (sym found.4 i, Some (sym found.3 i)))

  from_one : (rules : List Rule) (allowed : Bool) (number : Option ℕ) → AnswerFrom 1 rules allowed number → IsAnswer holds allows rules allowed number
  from_one rules allowed None none = none
  from_one rules allowed (Some number) found = found

  to_one : (rules : List Rule) (allowed : Bool) (number : Option ℕ) → IsAnswer holds allows rules allowed number → AnswerFrom 1 rules allowed number
  to_one rules allowed None none = none
  to_one rules allowed (Some number) found = found

  -- the computed answer is one, and the only one
  is_answer : (rules : Option (List Rule)) → IsFirstMatch holds allows rules (first_match holds allows rules)
  is_answer None = refl
  is_answer (Some rules) = from_one rules _ _ (answers 1 rules)

  pub decided_is : (rules : Option (List Rule)) (answer : Bool × Option ℕ) → first_match holds allows rules ≡ answer → IsFirstMatch holds allows rules answer
  decided_is rules answer is = subst (IsFirstMatch holds allows rules) is (is_answer rules)

  pub is_only_answer : (rules : Option (List Rule)) (answer : Bool × Option ℕ) → IsFirstMatch holds allows rules answer → first_match holds allows rules ≡ answer
  is_only_answer None answer is = sym is
  is_only_answer (Some rules) answer is = only 1 rules answer.0 answer.1 (to_one rules answer.0 answer.1 is)
