-- The place of a fault, where a text is read from the left.
use Rattle.std.proofs.Common.{◌≡◌, ℕ, ◌+◌, ◌<◌, ◌≤◌, zero, suc, max, List, [], ◌∷◌, ◌++◌, length, get_or, take, Option, Some, None, IsSome, refl, ap, sym, subst, ◌∙◌, arith, ⊎_elim, append_assoc, ◌⊎◌}
use Rattle.std.proofs.lemmas.Bool.{cases_lt}
use Rattle.std.proofs.lemmas.List.{take_more}
use Rattle.listing.specs.Fronts.{IsLongestFront}

-- an accepted text begins so
abbrev pub Begins : (List ℕ → Type 0) → List ℕ → Type 0
Begins accepted front = (rest : List ℕ) × accepted (front ++ rest)

pub take_longer : (text : List ℕ) (at n : ℕ) → at < n → n ≤ length text → (xs : List ℕ) × (take n text ≡ take at text ++ get_or text at 0 ∷ xs)
take_longer [] at n longer within = absurd (omega arith)
take_longer (x ∷ text) at zero longer within = absurd (omega arith)
take_longer (x ∷ text) zero (suc n) longer within = (take n text, refl)
take_longer (x ∷ text) (suc at) (suc n) longer within =
    let deep = take_longer text at n (omega arith) (omega arith) in (deep.0, ap (λ (ys : List ℕ). x ∷ ys) deep.1)

none_is : {V : Type 0} (o : Option V) → o ≡ None → IsSome o → ⊥
none_is None is some = absurd (cc)
none_is (Some x) is some = absurd (cc)

-- a byte after which nothing is accepted
pub stops : {V : Type 0} (of go : List ℕ → Option V) (text : List ℕ) (at : ℕ) → at < length text → ((rest : List ℕ) → of (take at text ++ rest) ≡ go rest) → ((rest : List ℕ) → go (get_or text at 0 ∷ rest) ≡ None) → (rest : List ℕ) × IsSome (go rest) → IsLongestFront (λ t. IsSome (of t)) text at
stops of go text at within reached none done = record {
  within = omega arith;
  begins = (done.0, subst (λ o. IsSome o) (sym (reached done.0)) done.1);
  longest = λ n rest fits accepted. ⊎_elim (λ longer.
      let more = take_longer text at n longer fits in
      let same = ap of (ap (λ (xs : List ℕ). xs ++ rest) more.1 ∙ append_assoc (take at text) (get_or text at 0 ∷ more.0) rest) ∙ reached (get_or text at 0 ∷ (more.0 ++ rest)) ∙ none (more.0 ++ rest) in
      absurd (none_is _ same accepted))
      (λ less. less) (cases_lt at n);
}

-- an end that is no value yet
pub runs_out : {V : Type 0} (of go : List ℕ → Option V) (text : List ℕ) (at : ℕ) → at ≡ length text → ((rest : List ℕ) → of (take at text ++ rest) ≡ go rest) → (rest : List ℕ) × IsSome (go rest) → IsLongestFront (λ t. IsSome (of t)) text (length text)
runs_out of go text at ends reached done = record {
  within = omega arith;
  begins = (done.0, subst (λ o. IsSome o) (sym (ap (λ (k : ℕ). of (take k text ++ done.0)) (sym ends) ∙ reached done.0)) done.1);
  longest = λ n rest fits accepted. fits;
}

-- one byte more
pub reached_more : {V : Type 0} (of go next : List ℕ → Option V) (text : List ℕ) (at : ℕ) → at < length text → ((rest : List ℕ) → of (take at text ++ rest) ≡ go rest) → ((rest : List ℕ) → go (get_or text at 0 ∷ rest) ≡ next rest) → (rest : List ℕ) → of (take (at + 1) text ++ rest) ≡ next rest
reached_more of go next text at within reached step rest =
    ap (λ (xs : List ℕ). of (xs ++ rest)) (take_more text at 0 within) ∙ ap of (append_assoc (take at text) (get_or text at 0 ∷ []) rest) ∙ reached (get_or text at 0 ∷ rest) ∙ step rest

-- of two kinds of texts the longer front counts
pub place_of_either : (A B C : List ℕ → Type 0) (text : List ℕ) (a b : ℕ) → ((t : List ℕ) → A t → C t) → ((t : List ℕ) → B t → C t) → ((t : List ℕ) → C t → A t ⊎ B t) → IsLongestFront A text a → IsLongestFront B text b → IsLongestFront C text (max a b)
place_of_either A B C text a b one other either p q =
    ⊎_elim (λ less. let is : max a b ≡ b = omega arith in
    record { within = omega (arith, p.within, q.within); begins = subst (λ (k : ℕ). Begins C (take k text)) (sym is) (q.begins.0, other _ q.begins.1); longest = longest })
    (λ more. let is : max a b ≡ a = omega arith in
    record { within = omega (arith, p.within, q.within); begins = subst (λ (k : ℕ). Begins C (take k text)) (sym is) (p.begins.0, one _ p.begins.1); longest = longest }) (cases_lt a b)
  where
    longest : (n : ℕ) (rest : List ℕ) → n ≤ length text → C (take n text ++ rest) → n ≤ max a b
    longest n rest fits accepted =
        ⊎_elim (λ x. omega (arith, p.longest n rest fits x)) (λ y. omega (arith, q.longest n rest fits y)) (either _ accepted)

-- two names of one kind of texts
pub place_same : (A B : List ℕ → Type 0) (text : List ℕ) (at : ℕ) → ((t : List ℕ) → A t → B t) → ((t : List ℕ) → B t → A t) → IsLongestFront A text at → IsLongestFront B text at
place_same A B text at to from p =
    record { within = p.within; begins = (p.begins.0, to _ p.begins.1); longest = λ n rest fits accepted. p.longest n rest fits (from _ accepted) }
