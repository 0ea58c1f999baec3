-- What is open has numbers that were given, and a new number is none of them.
use Rattle.std.proofs.Common.{◌≡◌, ℕ, ◌<◌, ◌≤◌, Bool, true, false, cond, List, [], ◌∷◌, ◌++◌, None, Some, refl, ap, ◌∙◌, arith, nat_eq, ◌&&◌}
use Rattle.std.specs.List.{filter, find}
use Rattle.std.proofs.lemmas.Bool.{ne_eqb}
use Rattle.shelf.specs.Open.{AreRising, AreUpTo}
use Rattle.shelf.specs.declared.open.Open.{Open}

module _ {T : Type 0} where
  pub none_named : (last number pass : ℕ) (all : List (Open T)) → AreUpTo last all → last < number → find (λ (y : Open T). nat_eq number y.number && nat_eq pass y.pass) all ≡ None
  none_named last number pass [] below over = refl
  none_named last number pass (one ∷ all) below over =
      let no : nat_eq number one.number ≡ false = ne_eqb number one.number (λ same. omega (arith, same, below.0, over)) in
      ap (λ t. cond (t && nat_eq pass one.pass) (Some one) (find (λ (y : Open T). nat_eq number y.number && nat_eq pass y.pass) all)) no ∙ none_named last number pass all below.1 over

  pub up_to_later : (last later : ℕ) (all : List (Open T)) → AreUpTo last all → last ≤ later → AreUpTo later all
  up_to_later last later [] below more = tt
  up_to_later last later (one ∷ all) below more = (omega (arith, below.0, more), up_to_later last later all below.1 more)

  pub up_to_push : (last later : ℕ) (all : List (Open T)) (one : Open T) → AreUpTo last all → last ≤ later → one.number ≤ later → AreUpTo later (all ++ one ∷ [])
  up_to_push last later [] one below more this = (this, tt)
  up_to_push last later (x ∷ all) one below more this = (omega (arith, below.0, more), up_to_push last later all one below.1 more this)

  pub up_to_filter : (test : Open T → Bool) (last : ℕ) (all : List (Open T)) → AreUpTo last all → AreUpTo last (filter test all)
  up_to_filter test last [] below = tt
  up_to_filter test last (one ∷ all) below = elim (test one) as (λ t. AreUpTo last (cond t (one ∷ filter test all) (filter test all))) [
    | true ↦ (below.0, up_to_filter test last all below.1)
    | false ↦ up_to_filter test last all below.1
  ]

  pub rising_lower : (lower low : ℕ) (all : List (Open T)) → AreRising low all → lower ≤ low → AreRising lower all
  rising_lower lower low [] rising less = tt
  rising_lower lower low (one ∷ all) rising less = (omega (arith, rising.0, less), rising.1)

  pub rising_filter : (test : Open T → Bool) (low : ℕ) (all : List (Open T)) → AreRising low all → AreRising low (filter test all)
  rising_filter test low [] rising = tt
  rising_filter test low (one ∷ all) rising = elim (test one) as (λ t. AreRising low (cond t (one ∷ filter test all) (filter test all))) [
    | true ↦ (rising.0, rising_filter test one.number all rising.1)
    | false ↦ rising_lower low one.number (filter test all) (rising_filter test one.number all rising.1) (omega (arith, rising.0))
  ]

  pub rising_push : (low last : ℕ) (all : List (Open T)) (one : Open T) → AreRising low all → AreUpTo last all → low ≤ last → last < one.number → AreRising low (all ++ one ∷ [])
  rising_push low last [] one rising below less over = (omega (arith, less, over), tt)
  rising_push low last (x ∷ all) one rising below less over = (rising.0, rising_push x.number last all one rising.1 below.1 below.0 over)
