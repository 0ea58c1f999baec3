-- Names of what is open: a number and a pass.
use Rattle.std.specs.Prelude.{◌≡◌, ℕ, Bool, true, nat_eq, ◌&&◌}
use Rattle.std.specs.Cmp.{IsEquivalence, and_equiv, nat_eq_equiv, on_equiv}
use Rattle.std.proofs.Common.{sym, ◌∙◌}

-- the numbers and the passes are the same
abbrev pub same_name : ℕ × ℕ → ℕ × ℕ → Bool
same_name one other = nat_eq one.0 other.0 && nat_eq one.1 other.1

same_name_equiv : IsEquivalence same_name
same_name_equiv = and_equiv (on_equiv (λ (name : ℕ × ℕ). name.0) nat_eq_equiv) (on_equiv (λ (name : ℕ × ℕ). name.1) nat_eq_equiv)

-- of what has this name, the rest is equal to it exactly where it has the name too
pub named_alike : (name one other : ℕ × ℕ) → same_name one name ≡ true → same_name other name ≡ same_name one other
named_alike name one other is = sym (same_name_equiv.congr one name other is ∙ same_name_equiv.symm name other)
