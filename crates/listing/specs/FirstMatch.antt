-- What a list of rules answers: the first rule whose test holds decides (RFC 8006, sections 4.2.2 to 4.2.4).
use Rattle.std.specs.Prelude.{◌≡◌, ℕ, ◌+◌, ◌^◌, ◌<◌, Bool, true, false, List, [], ◌∷◌, length, take, slice_get, None, Some, if◌then◌else◌}
use Rattle.std.specs.declared.option.Option.{Option}

module _ {Rule : Type 0} where
  -- the action and number of the first rule whose test holds, where the rules are numbered from this number on;
  -- where none holds: deny, with no number
  abbrev pub first_from : (Rule → Bool) → (Rule → Bool) → ℕ → List Rule → Bool × Option ℕ
  first_from holds allows number [] = (false, None)
  first_from holds allows number (rule ∷ rules) =
      if holds rule then (allows rule, Some number) else first_from holds allows (number + 1) rules

  -- absent rules allow, with no number; rules are numbered from 1
  abbrev pub first_match : (Rule → Bool) → (Rule → Bool) → Option (List Rule) → Bool × Option ℕ
  first_match holds allows None = (true, None)
  first_match holds allows (Some rules) = first_from holds allows 1 rules

  -- rules that are there have numbers below 2 ^ 32
  abbrev pub AreNumbered : Option (List Rule) → Type 0
  AreNumbered None = Unit {0}
  AreNumbered (Some rules) = length rules < 2 ^ 32

  -- the test holds of none of the rules
  abbrev pub NoneHolds : (Rule → Bool) → List Rule → Type 0
  NoneHolds holds rules = (i : ℕ) (rule : Rule) → slice_get rules i ≡ Some rule → holds rule ≡ false

  -- the rule at this index is the first of which the test holds
  pub record IsFirst (holds : Rule → Bool) (rules : List Rule) (index : ℕ) (rule : Rule) : Type 0 where
    pub at : slice_get rules index ≡ Some rule
    pub holds_it : holds rule ≡ true
    pub none_before : NoneHolds holds (take index rules)

  -- this is the action of the first rule of which the test holds, and this its number, counted from 1
  abbrev pub IsOfFirst : (Rule → Bool) → (Rule → Bool) → List Rule → Bool → ℕ → Type 0
  IsOfFirst holds allows rules allowed number =
      (index : ℕ) × (rule : Rule) × IsFirst holds rules index rule × (number ≡ index + 1) × (allowed ≡ allows rule)

  -- rules answer the action and number of the first that holds, and deny without a number where none holds
  abbrev pub IsAnswer : (Rule → Bool) → (Rule → Bool) → List Rule → Bool → Option ℕ → Type 0
  IsAnswer holds allows rules allowed (Some number) = IsOfFirst holds allows rules allowed number
  IsAnswer holds allows rules allowed None = NoneHolds holds rules × (allowed ≡ false)

  -- absent rules allow, without a number; else the first that holds decides
  abbrev pub IsFirstMatch : (Rule → Bool) → (Rule → Bool) → Option (List Rule) → Bool × Option ℕ → Type 0
  IsFirstMatch holds allows None answer = answer ≡ (true, None)
  IsFirstMatch holds allows (Some rules) answer = IsAnswer holds allows rules answer.0 answer.1
