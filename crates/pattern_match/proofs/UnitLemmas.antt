-- The first unit of a text, and the units joined.
use Rattle.std.proofs.Common.{◌-◌, ltb, Bool, ◌&&◌, add-zero, ⊎_elim, get_or-drop, length-drop, ◌≡◌, ℕ, ◌+◌, ◌<◌, true, false, length, get_or, drop, List, [], ◌∷◌, refl, ap, sym, ◌∙◌, arith, add_assoc}
use Rattle.std.proofs.lemmas.Bool.{eqb-true, lt-ltb, le-ltb, cases_lt, cond-true, cond-false, and_parts, ltb-true, cond_both}
use Rattle.std.proofs.lemmas.List.{drop_more}
use Rattle.pattern_match.specs.declared.units.TextUnit.{TextUnit}
use Rattle.pattern_match.specs.declared.units.TextUnit.TheVariants.{Byte, Encoded}
use Rattle.pattern_match.specs.Units.{is_encoded, is_encoded_at, units, joined}

pub units-encoded : (b high low : ℕ) (rest : List ℕ) → is_encoded b high low ≡ true → units (b ∷ high ∷ low ∷ rest) ≡ Encoded high low ∷ units rest
unfolding units
units-encoded b high low rest e = cond-true _ _ _ e

pub units-three : (b high low : ℕ) (rest : List ℕ) → is_encoded b high low ≡ false → units (b ∷ high ∷ low ∷ rest) ≡ Byte b ∷ units (high ∷ low ∷ rest)
unfolding units
units-three b high low rest e = cond-false _ _ _ e

pub units-byte : (xs : List ℕ) (b : ℕ) → is_encoded_at (b ∷ xs) 0 ≡ false → units (b ∷ xs) ≡ Byte b ∷ units xs
unfolding units
units-byte [] b e = refl
units-byte (c ∷ []) b e = refl
units-byte (high ∷ low ∷ rest) b e =
    let longer = rw (lt-ltb 2 (length (b ∷ high ∷ low ∷ rest)) (omega arith)) at e in
    units-three b high low rest longer

-- the rest of a text, where it begins with three bytes
drop_three : (text : List ℕ) (at : ℕ) → at + 2 < length text → drop at text ≡ get_or text at 0 ∷ get_or text (at + 1) 0 ∷ get_or text (at + 2) 0 ∷ drop (at + 3) text
drop_three text at h =
    let first = drop_more text at 0 (omega arith) in
    let second = rw (add_assoc at 1 1) at (drop_more text (at + 1) 0 (omega arith)) in
    let third = rw (add_assoc at 2 1) at (drop_more text (at + 2) 0 h) in
    first ∙ ap (λ (xs : List ℕ). get_or text at 0 ∷ xs) (second ∙ ap (λ (xs : List ℕ). get_or text (at + 1) 0 ∷ xs) third)

pub units_at-encoded : (text : List ℕ) (at : ℕ) → is_encoded_at text at ≡ true → units (drop at text) ≡ Encoded (get_or text (at + 1) 0) (get_or text (at + 2) 0) ∷ units (drop (at + 3) text)
units_at-encoded text at e =
    let parts = and_parts (ltb (at + 2) (length text)) _ e in
    rw (drop_three text at (ltb-true _ _ parts.0)) (units-encoded _ _ _ (drop (at + 3) text) parts.1)

-- counting from a place or from the text's start
ltb-drop : (n at : ℕ) → ltb 2 (n - at) ≡ ltb (at + 2) n
ltb-drop n at =
    ⊎_elim (λ more. lt-ltb 2 (n - at) (omega arith) ∙ sym (lt-ltb (at + 2) n more)) (λ less. le-ltb 2 (n - at) (omega arith) ∙ sym (le-ltb (at + 2) n less)) (cases_lt (at + 2) n)

-- the test at a place is the test of the rest of the text
is_encoded_at-drop : (text : List ℕ) (at : ℕ) → is_encoded_at (drop at text) 0 ≡ is_encoded_at text at
is_encoded_at-drop text at = simp (get_or-drop, length-drop, add-zero) (ap (λ (b : Bool). b && is_encoded (get_or text at 0) (get_or text (at + 1) 0) (get_or text (at + 2) 0)) (ltb-drop (length text) at))

pub units_at-byte : (text : List ℕ) (at : ℕ) → at < length text → is_encoded_at text at ≡ false → units (drop at text) ≡ Byte (get_or text at 0) ∷ units (drop (at + 1) text)
units_at-byte text at h e =
    let whole = drop_more text at 0 h in
    let rest = rw whole at (is_encoded_at-drop text at ∙ e) in
    rw whole (units-byte (drop (at + 1) text) (get_or text at 0) rest)

-- the units joined are the text
pub joined-units : (text : List ℕ) → joined (units text) ≡ text
unfolding units
joined-units [] = refl
joined-units (b ∷ []) = refl
joined-units (b ∷ c ∷ []) = refl
joined-units (b ∷ high ∷ low ∷ rest) =
    cond_both (is_encoded b high low) (Encoded high low ∷ units rest) (Byte b ∷ units (high ∷ low ∷ rest)) (λ (us : List TextUnit). joined us ≡ b ∷ high ∷ low ∷ rest) (λ e. ap (λ (x : ℕ). x ∷ high ∷ low ∷ joined (units rest)) (sym (eqb-true b 37 (and_parts _ _ e).0)) ∙ ap (λ (xs : List ℕ). b ∷ high ∷ low ∷ xs) (joined-units rest)) (λ e. ap (λ (xs : List ℕ). b ∷ xs) (joined-units (high ∷ low ∷ rest)))
