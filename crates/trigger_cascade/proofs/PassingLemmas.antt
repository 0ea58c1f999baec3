-- Visits of CDNs, one after the other.
use Rattle.std.proofs.Common.{◌≡◌, ℕ, zero, suc, ◌+◌, ◌-◌, ◌<◌, ◌≤◌, min, List, [], ◌∷◌, ◌++◌, length, take, drop, set, get_or, None, Some, refl, sym, ◌∙◌, ap, subst, append_assoc, add-one, drop-cons, arith}
use Rattle.std.proofs.lemmas.List.{append-nil, drop_all, drop-set-lt, take_all, take_more_set}
use Rattle.std.proofs.lemmas.List.Sums.{sum_by-set}
use Rattle.std.specs.Option.{option_map}
use Rattle.std.specs.declared.option.Option.{Option}
use Rattle.edge_base.specs.Clock.{Grows}
use Rattle.edge_base.specs.declared.causes.TheConstants.{MOST_FAULTS}
use Rattle.trigger_cascade.specs.Cdn.{fault_count, fault_of}
use Rattle.trigger_cascade.specs.Passing.{Counts, Passes, Rises, Visit, Visits}
use Rattle.trigger_cascade.specs.declared.cdn.Cdn.{Cdn}
use Rattle.trigger_cascade.specs.declared.cdn.Standing.{Standing}
use Rattle.trigger_cascade.specs.declared.link.LinkCall.{LinkCall}

-- what is told grows twice
pub grows_on : {A : Type 0} (before between after : Option (List A)) (made more : List A) → Grows before between made → Grows between after more → Grows before after (made ++ more)
grows_on (Some told) (Some now) (Some later) made more first second = second ∙ ap (λ xs. xs ++ more) first ∙ append_assoc told made more
grows_on (Some told) (Some now) None made more first second = tt
grows_on (Some told) None (Some later) made more first second = absurd second
grows_on (Some told) None None made more first second = tt
grows_on None (Some now) after made more first second = absurd first
grows_on None None (Some later) made more first second = absurd second
grows_on None None None made more first second = tt

-- with these calls these CDNs were visited, and the visits of those that are left lead to the end of the whole round
abbrev pub LeadsOn : List ℕ → List Cdn → List LinkCall → List Cdn → List Cdn → Type 0
LeadsOn body whole made passed left = (rest : List LinkCall) (end : Option (List Cdn)) → Visits body left rest end
    → Visits body whole (made ++ rest) (option_map (λ cdns. passed ++ cdns) end)

module _ (body : List ℕ) (whole : List Cdn) (made : List LinkCall) where
  joined_end : (passed : List Cdn) (y : Cdn) (end : Option (List Cdn))
      → option_map (λ cdns. passed ++ cdns) (option_map (λ cdns. y ∷ cdns) end) ≡ option_map (λ cdns. (passed ++ y ∷ []) ++ cdns) end
  joined_end passed y None = refl
  joined_end passed y (Some cdns) = ap Some (sym (append_assoc passed (y ∷ []) cdns))

  -- one more was visited
  step_on : (passed left : List Cdn) (x y : Cdn) (first : List LinkCall) → Visit body x.to x.standing first (Some y.standing) → y ≡ record x { standing = y.standing }
      → LeadsOn body whole made passed (x ∷ left) → LeadsOn body whole (made ++ first) (passed ++ y ∷ []) left
  step_on passed left x y first visit is leads rest end visits =
      let next : Visits body (x ∷ left) (first ++ rest) (option_map (λ cdns. y ∷ cdns) end) =
      (first, rest, Some y.standing, refl, visit, (end, visits, ap (λ z. option_map (λ cdns. z ∷ cdns) end) is)) in
      subst (λ (xs : List LinkCall). Visits body whole xs (option_map (λ cdns. (passed ++ y ∷ []) ++ cdns) end)) (sym (append_assoc made first rest))
      (subst (λ (e : Option (List Cdn)). Visits body whole (made ++ (first ++ rest)) e) (joined_end passed y end) (leads (first ++ rest) _ next))

  -- one more was visited, for which no memory was found
  pub stop_at : (passed left : List Cdn) (x : Cdn) (first : List LinkCall) → Visit body x.to x.standing first None
      → LeadsOn body whole made passed (x ∷ left) → Visits body whole (made ++ first) None
  stop_at passed left x first visit leads = leads first None (first, [], None, sym (append-nil first), visit, (refl, refl))

  -- all were visited
  pub end_at : (cdns : List Cdn) (i : ℕ) → length cdns ≤ i → LeadsOn body whole made (take i cdns) (drop i cdns) → Visits body whole made (Some cdns)
  end_at cdns i over leads =
      let so : Visits body (drop i cdns) [] (Some []) = subst (λ xs. Visits body xs [] (Some [])) (sym (drop_all i cdns over)) (refl, refl) in
      subst (λ (e : List Cdn). Visits body whole made (Some e)) (append-nil (take i cdns) ∙ take_all i cdns over)
      (subst (λ (xs : List LinkCall). Visits body whole xs (Some (take i cdns ++ []))) (append-nil made) (leads [] (Some []) so))

  module _ (cdns : List Cdn) (i : ℕ) (d : Cdn) (below : i < length cdns) where
    split_here : drop i cdns ≡ get_or cdns i d ∷ drop (i + 1) cdns
    split_here = rw (drop-cons cdns i d below, add-one i) refl

    pub stop_here : (first : List LinkCall) → Visit body (get_or cdns i d).to (get_or cdns i d).standing first None
        → LeadsOn body whole made (take i cdns) (drop i cdns) → Visits body whole (made ++ first) None
    stop_here first visit leads =
        stop_at (take i cdns) (drop (i + 1) cdns) (get_or cdns i d) first visit (subst (LeadsOn body whole made (take i cdns)) split_here leads)

    pub step_here : (y : Cdn) (first : List LinkCall) → Visit body (get_or cdns i d).to (get_or cdns i d).standing first (Some y.standing)
        → y ≡ record (get_or cdns i d) { standing = y.standing } → LeadsOn body whole made (take i cdns) (drop i cdns)
        → LeadsOn body whole (made ++ first) (take (i + 1) (set cdns i y)) (drop (i + 1) (set cdns i y))
    step_here y first visit is leads =
        let later : i < i + 1 = omega arith in
        rw (take_more_set cdns i y below, drop-set-lt (i + 1) cdns i y later)
        (step_on (take i cdns) (drop (i + 1) cdns) (get_or cdns i d) y first visit is (subst (LeadsOn body whole made (take i cdns)) split_here leads))

-- the count of faults rises twice
rises_twice : (most before between now f0 f1 f2 fx fy : ℕ) → f2 + fx ≡ f1 + fy → before ≤ between → between ≤ now
    → min (before + f1) (most + f0) ≤ between + f0 → min (between + fy) (most + fx) ≤ now + fx → min (before + f2) (most + f0) ≤ now + f0
rises_twice most before between now f0 f1 f2 fx fy sum first second one two = omega arith

pub rises_on : (before between now : ℕ) (whole cdns : List Cdn) (i : ℕ) (d y : Cdn) → i < length cdns
    → Counts before between whole cdns → Rises between now (fault_of (get_or cdns i d).standing) (fault_of y.standing) → Counts before now whole (set cdns i y)
rises_on before between now whole cdns i d y below counts rises =
    let sums : fault_count (set cdns i y) + fault_of (get_or cdns i d).standing ≡ fault_count cdns + fault_of y.standing =
    sum_by-set (λ (cdn : Cdn). fault_of cdn.standing) cdns i y d below in (
      omega (arith, counts.0, rises.0),
      rises_twice MOST_FAULTS before between now (fault_count whole) (fault_count cdns) (fault_count (set cdns i y)) (fault_of (get_or cdns i d).standing) (fault_of y.standing) sums counts.0 rises.0 counts.1 rises.1,
    )

pub counts_on : (before between now : ℕ) (whole middle cdns : List Cdn) → Counts before between whole middle → Counts between now middle cdns → Counts before now whole cdns
counts_on before between now whole middle cdns first second = (
  omega (arith, first.0, second.0),
  rises_twice MOST_FAULTS before between now (fault_count whole) (fault_count middle) (fault_count cdns) (fault_count middle) (fault_count cdns) (omega arith) first.0 second.0 first.1 second.1,
)

-- with these calls some rounds were made, and the rounds that are left lead to the end of all
abbrev pub RoundsOn : List ℕ → ℕ → List Cdn → List LinkCall → ℕ → List Cdn → Type 0
RoundsOn body rounds whole made left cdns = (rest : List LinkCall) (end : Option (List Cdn)) → Passes body left cdns rest end
    → Passes body rounds whole (made ++ rest) end

module _ (body : List ℕ) (rounds : ℕ) (whole : List Cdn) where
  -- the first round was made
  pub first_round : (cdns : List Cdn) (made : List LinkCall) → Visits body whole made (Some cdns) → RoundsOn body (rounds + 1) whole made rounds cdns
  first_round cdns made visits rest end passes =
      subst (λ (n : ℕ). Passes body n whole (made ++ rest) end) (sym (add-one rounds)) (made, rest, Some cdns, refl, visits, passes)

  -- no memory was found in the first one
  pub stop_first : (made : List LinkCall) → Visits body whole made None → Passes body (rounds + 1) whole made None
  stop_first made visits = subst (λ (n : ℕ). Passes body n whole made None) (sym (add-one rounds)) (made, [], None, sym (append-nil made), visits, (refl, refl))

  module _ (made : List LinkCall) (cdns : List Cdn) where
    -- one more was made
    pub next_round : (most i : ℕ) → i < most → (next : List Cdn) (first : List LinkCall) → Visits body cdns first (Some next)
        → RoundsOn body rounds whole made (most - i) cdns → RoundsOn body rounds whole (made ++ first) (most - (i + 1)) next
    next_round most i below next first visits so rest end passes =
        let left : suc (most - (i + 1)) ≡ most - i = omega arith in
        subst (λ (xs : List LinkCall). Passes body rounds whole xs end) (sym (append_assoc made first rest))
        (so (first ++ rest) end (subst (λ (n : ℕ). Passes body n cdns (first ++ rest) end) left (first, rest, Some next, refl, visits, passes)))

    -- no memory was found in one more
    pub stop_round : (most i : ℕ) → i < most → (first : List LinkCall) → Visits body cdns first None
        → RoundsOn body rounds whole made (most - i) cdns → Passes body rounds whole (made ++ first) None
    stop_round most i below first visits so =
        let left : suc (most - (i + 1)) ≡ most - i = omega arith in
        so first None (subst (λ (n : ℕ). Passes body n cdns first None) left (first, [], None, sym (append-nil first), visits, (refl, refl)))

    -- all were made
    pub all_rounds : (most i : ℕ) → most ≤ i → RoundsOn body rounds whole made (most - i) cdns → Passes body rounds whole made (Some cdns)
    all_rounds most i over so =
        let none : zero ≡ most - i = omega arith in
        subst (λ (xs : List LinkCall). Passes body rounds whole xs (Some cdns)) (append-nil made)
        (so [] (Some cdns) (subst (λ (n : ℕ). Passes body n cdns [] (Some cdns)) none (refl, refl)))
