use Rattle.std.proofs.Common.{◌≡◌, ℕ, ◌<◌, ◌≤◌, Bool, true, false, List, length, position, Option, Some, None, refl, sym, arith, ◌==◌, nat_lt}
use Rattle.std.proofs.lemmas.Bool.{cond-true, cond-false, lt-ltb, ltb-true}
use Rattle.std.proofs.lemmas.List.Sums.{position_or_len_is}
use Rattle.memchr.specs.Find.{IsFirstByte, is_byte}
use Rattle.listing.proofs.word.place_of.Goals as goal

-- a test that does not pass is false
is_false : (b : Bool) → (b ≡ true → ⊥) → b ≡ false
is_false true never = absurd (never refl)
is_false false _ = refl

-- the first byte that a search finds stands at the first position
found : (byte : ℕ) (text : List ℕ) (place : Option ℕ) → IsFirstByte (is_byte byte) text place → place ≡ position (λ x. x == byte) text
found byte text None none =
    let end = position_or_len_is (λ x. x == byte) text (length text) 0 (omega arith) (λ k below. is_false _ (none k (omega arith) below)) (λ more. absurd (omega (arith, more))) in
    rw end (sym (cond-false (nat_lt (length text) (length text)) (Some (length text)) None (is_false _ (λ is. omega (arith, ltb-true (length text) (length text) is)))))
found byte text (Some k) is =
    let at = position_or_len_is (λ x. x == byte) text k 0 (omega (arith, is.0.high)) (λ j below. is_false _ (is.0.before j (omega arith) below)) (λ more. is.1) in
    rw at (sym (cond-true (nat_lt k (length text)) (Some k) None (lt-ltb k (length text) is.0.high)))

pub returns-clause-place : goal.returns-clause-place
returns-clause-place c = found c.args.byte c.args.text.now c.memchr.result c.memchr.ensures
