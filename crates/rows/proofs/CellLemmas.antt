-- What the map and the log of places are after each call.
use Rattle.std.proofs.Common.{◌≡◌, ℕ, zero, suc, ◌+◌, ◌-◌, ◌<◌, ◌≤◌, ◌⊎◌, inl, inr, Bool, true, false, cond, true≢false, List, [], ◌∷◌, ◌++◌, Option, None, Some, is_some, length, get_or, set, take, drop, slice_get, option_map, IfSome, swap_remove, position, refl, sym, ap, subst, ◌∙◌, arith, length-set, length-take}
use Rattle.std.proofs.lemmas.List.{map-set, get_or-set_same, get_or-set_other, get_or_past, get_or_default, get_or_append_left, get_or_push, get_or-take, length-map, map_push, length_push}
use Rattle.std.proofs.lemmas.Option.{none-some, same_Some, slice_get_within, slice_get-get_or, slice_get_past}
use Rattle.std.proofs.lemmas.Bool.{cases_eq, cases_lt, cases_order, cases_Bool, both_ways}
use Rattle.std.proofs.lemmas.List.Quantifiers.{position-Some}
use Rattle.std.specs.List.{IsDistinct, AllByRecursion}
use Rattle.std.specs.Map.{lookup, keys_of}
use Rattle.indexmap.specs.IndexMap.{set_value_at}
use Rattle.rows.specs.Cells.{cell_of, cells_of, AreTied, relinked, present, AreApart, slid}

gap_end : (log : List (Option ℕ)) (p : ℕ) → get_or (log ++ None ∷ []) p None ≡ get_or log p None
gap_end [] zero = refl
gap_end [] (suc p) = refl
gap_end (c ∷ log) zero = refl
gap_end (c ∷ log) (suc p) = gap_end log p

rest_none : (b : Bool) (v : ℕ) (r : Option ℕ) → is_some (cond b (Some v) r) ≡ false → is_some r ≡ false
rest_none true v r h = absurd (true≢false h)
rest_none false v r h = h

module _ {X : Type 0} where
  -- a place that has something lies within the list
  pub within : (xs : List (Option X)) (p : ℕ) (x : X) → get_or xs p None ≡ Some x → p < length xs
  within xs p x h =
      elim (cases_lt p (length xs)) [ inl l ↦ l | inr l ↦ absurd (none-some x (sym (get_or_past xs p None l) ∙ h)) ]

  get_set_same : (xs : List X) (i : ℕ) (a : X) → i < length xs → slice_get (set xs i a) i ≡ Some a
  get_set_same [] i a l = absurd (omega arith)
  get_set_same (x ∷ xs) zero a l = refl
  get_set_same (x ∷ xs) (suc i) a l = get_set_same xs i a (omega arith)

  get_set_other : (xs : List X) (i j : ℕ) (a : X) → (i ≡ j → ⊥) → slice_get (set xs i a) j ≡ slice_get xs j
  get_set_other [] i j a n = refl
  get_set_other (x ∷ xs) zero zero a n = absurd (n refl)
  get_set_other (x ∷ xs) zero (suc j) a n = refl
  get_set_other (x ∷ xs) (suc i) zero a n = refl
  get_set_other (x ∷ xs) (suc i) (suc j) a n = get_set_other xs i j a (λ e. n (ap suc e))

  get_take : (m : ℕ) (xs : List X) (j : ℕ) → j < m → slice_get (take m xs) j ≡ slice_get xs j
  get_take zero xs j l = absurd (omega arith)
  get_take (suc m) [] j l = refl
  get_take (suc m) (x ∷ xs) zero l = refl
  get_take (suc m) (x ∷ xs) (suc j) l = get_take m xs j (omega arith)

  get_take_past : (m : ℕ) (xs : List X) (j : ℕ) → m ≤ j → slice_get (take m xs) j ≡ None
  get_take_past zero xs j l = refl
  get_take_past (suc m) [] j l = refl
  get_take_past (suc m) (x ∷ xs) zero l = absurd (omega arith)
  get_take_past (suc m) (x ∷ xs) (suc j) l = get_take_past m xs j (omega arith)

  get_append : (xs ys : List X) (j : ℕ) → j < length xs → slice_get (xs ++ ys) j ≡ slice_get xs j
  get_append [] ys j l = absurd (omega arith)
  get_append (x ∷ xs) ys zero l = refl
  get_append (x ∷ xs) ys (suc j) l = get_append xs ys j (omega arith)

  get_end : (xs : List X) (y : X) → slice_get (xs ++ y ∷ []) (length xs) ≡ Some y
  get_end [] y = refl
  get_end (x ∷ xs) y = get_end xs y

  get_past_end : (xs : List X) (y : X) (j : ℕ) → length xs < j → slice_get (xs ++ y ∷ []) j ≡ None
  get_past_end xs y j l = slice_get_past (xs ++ y ∷ []) j (omega (arith, length_push xs y))

  -- after the removal of an entry: the last entry has its number, the others theirs
  swapped_other : (xs : List X) (i : ℕ) (d : X) (j : ℕ) → (i ≡ j → ⊥) → j + 1 < length xs → slice_get (swap_remove xs i d) j ≡ slice_get xs j
  swapped_other xs i d j n l =
      get_take (length xs - 1) (set xs i (get_or xs (length xs - 1) d)) j (omega arith)
      ∙ get_set_other xs i j (get_or xs (length xs - 1) d) n

  swapped_same : (xs : List X) (i : ℕ) (d : X) → i + 1 < length xs → slice_get (swap_remove xs i d) i ≡ slice_get xs (length xs - 1)
  swapped_same xs i d l =
      get_take (length xs - 1) (set xs i (get_or xs (length xs - 1) d)) i (omega arith)
      ∙ get_set_same xs i (get_or xs (length xs - 1) d) (omega arith)
      ∙ sym (slice_get-get_or xs (length xs - 1) d (omega arith))

  swapped_past : (xs : List X) (i : ℕ) (d : X) (j : ℕ) → length xs ≤ j + 1 → slice_get (swap_remove xs i d) j ≡ None
  swapped_past xs i d j l = get_take_past (length xs - 1) (set xs i (get_or xs (length xs - 1) d)) j (omega arith)

module _ {T : Type 0} where
  -- what stands at a place of the log
  pub cell_at : (es : List (T × ℕ)) (log : List (Option ℕ)) (p : ℕ) → get_or (cells_of es log) p None ≡ cell_of es (get_or log p None)
  cell_at es [] p = refl
  cell_at es (c ∷ log) zero = refl
  cell_at es (c ∷ log) (suc p) = cell_at es log p

  -- logs that name the same items in each place
  cells_same : (es fs : List (T × ℕ)) (log mog : List (Option ℕ)) → length log ≡ length mog
      → ((p : ℕ) → cell_of es (get_or log p None) ≡ cell_of fs (get_or mog p None)) → cells_of es log ≡ cells_of fs mog
  cells_same es fs [] [] l h = refl
  cells_same es fs [] (d ∷ mog) l h = absurd (omega arith)
  cells_same es fs (c ∷ log) [] l h = absurd (omega arith)
  cells_same es fs (c ∷ log) (d ∷ mog) l h =
      let rest : cells_of es log ≡ cells_of fs mog = cells_same es fs log mog (omega arith) (λ p. h (suc p)) in
      let one : cell_of es c ≡ cell_of fs d = h zero in λ i. one i ∷ rest i

  cell_there : (es : List (T × ℕ)) (i p : ℕ) (o : T) → slice_get es i ≡ Some (o, p) → cell_of es (Some i) ≡ Some o
  cell_there es i p o h = ap (λ e. option_map (λ (x : T × ℕ). x.0) e) h

  value_same : (es : List (T × ℕ)) (i w : ℕ) (o : T) (p : ℕ) → slice_get es i ≡ Some (o, p) → slice_get (set_value_at es i w) i ≡ Some (o, w)
  value_same [] i w o p h = absurd (none-some (o, p) h)
  value_same (e ∷ es) zero w o p h = ap (λ (x : T × ℕ). Some (x.0, w)) (same_Some e (o, p) h)
  value_same (e ∷ es) (suc i) w o p h = value_same es i w o p h

  value_other : (es : List (T × ℕ)) (i w j : ℕ) → (i ≡ j → ⊥) → slice_get (set_value_at es i w) j ≡ slice_get es j
  value_other [] i w j n = refl
  value_other (e ∷ es) zero w zero n = absurd (n refl)
  value_other (e ∷ es) zero w (suc j) n = refl
  value_other (e ∷ es) (suc i) w zero n = refl
  value_other (e ∷ es) (suc i) w (suc j) n = value_other es i w j (λ e. n (ap suc e))

  key_kept : (es : List (T × ℕ)) (i w k : ℕ) → option_map (λ e. e.0) (slice_get (set_value_at es i w) k) ≡ option_map (λ e. e.0) (slice_get es k)
  key_kept [] i w k = refl
  key_kept (e ∷ es) zero w zero = refl
  key_kept (e ∷ es) zero w (suc k) = refl
  key_kept (e ∷ es) (suc i) w zero = refl
  key_kept (e ∷ es) (suc i) w (suc k) = key_kept es i w k

  cell_kept : (es : List (T × ℕ)) (i w : ℕ) (c : Option ℕ) → cell_of (set_value_at es i w) c ≡ cell_of es c
  cell_kept es i w None = refl
  cell_kept es i w (Some k) = key_kept es i w k

  -- where no item is left from a place on, none stands there
  nil_cons : (x : T) (xs : List T) → x ∷ xs ≡ [] → ⊥
  nil_cons x xs h = cc

  none_present : (cells : List (Option T)) (p : ℕ) (o : T) → present cells ≡ [] → get_or cells p None ≡ Some o → ⊥
  none_present [] p o none h = none-some o h
  none_present (None ∷ cells) zero o none h = none-some o h
  none_present (None ∷ cells) (suc p) o none h = none_present cells p o none h
  none_present (Some x ∷ cells) p o none h = nil_cons x (present cells) none

  none_past : (cells : List (Option T)) (n p : ℕ) (o : T) → present (drop n cells) ≡ [] → n ≤ p → get_or cells p None ≡ Some o → ⊥
  none_past [] n p o none l h = none-some o h
  none_past (c ∷ cells) zero p o none l h = none_present (c ∷ cells) p o none h
  none_past (c ∷ cells) (suc n) zero o none l h = absurd (omega arith)
  none_past (c ∷ cells) (suc n) (suc p) o none l h = none_past cells n p o none (omega arith) h

  -- keys that differ
  key_differs : (eq : T → T → Bool) (a : T) (es : List (T × ℕ)) (j : ℕ) (b : T) (q : ℕ)
      → AllByRecursion (λ y. eq a y ≡ false) (keys_of es) → slice_get es j ≡ Some (b, q) → eq a b ≡ false
  key_differs eq a [] j b q all h = absurd (none-some (b, q) h)
  key_differs eq a (e ∷ es) zero b q all h = subst (λ (x : T). eq a x ≡ false) (ap (λ z. z.0) (same_Some e (b, q) h)) all.0
  key_differs eq a (e ∷ es) (suc j) b q all h = key_differs eq a es j b q all.1 h

  one_key : (eq : T → T → Bool) (es : List (T × ℕ)) (i j : ℕ) (a b : T) (p q : ℕ) → IsDistinct eq (keys_of es)
      → slice_get es i ≡ Some (a, p) → slice_get es j ≡ Some (b, q) → eq a b ≡ true → eq b a ≡ true → i ≡ j
  unfolding IsDistinct
  one_key eq [] i j a b p q d g h s t = absurd (none-some (a, p) g)
  one_key eq (e ∷ es) zero zero a b p q d g h s t = refl
  one_key eq (e ∷ es) zero (suc j) a b p q d g h s t =
      absurd (both_ways (eq a b) (subst (λ (x : T). eq x b ≡ false) (ap (λ z. z.0) (same_Some e (a, p) g)) (key_differs eq e.0 es j b q d.0 h)) s)
  one_key eq (e ∷ es) (suc i) zero a b p q d g h s t =
      absurd (both_ways (eq b a) (subst (λ (x : T). eq x a ≡ false) (ap (λ z. z.0) (same_Some e (b, q) h)) (key_differs eq e.0 es i a p d.0 g)) t)
  one_key eq (e ∷ es) (suc i) (suc j) a b p q d g h s t = ap suc (one_key eq es i j a b p q d.1 g h s t)

  no_key : (test : T → Bool) (es : List (T × ℕ)) → is_some (lookup test es) ≡ false → (i : ℕ) (o : T) (p : ℕ)
      → slice_get es i ≡ Some (o, p) → test o ≡ false
  no_key test [] none i o p h = absurd (none-some (o, p) h)
  no_key test (e ∷ es) none zero o p h =
      elim (cases_Bool (test e.0)) [
        | inl t ↦ absurd (true≢false (ap (λ (b : Bool). is_some (cond b (Some e.1) (lookup test es))) (sym t) ∙ none))
        | inr f ↦ subst (λ (x : T). test x ≡ false) (ap (λ z. z.0) (same_Some e (o, p) h)) f
      ]
  no_key test (e ∷ es) none (suc i) o p h = no_key test es (rest_none (test e.0) e.1 (lookup test es) none) i o p h

  no_value : (test : T → Bool) (es : List (T × ℕ)) → ((i : ℕ) (o : T) (p : ℕ) → slice_get es i ≡ Some (o, p) → test o ≡ false)
      → lookup test es ≡ None
  no_value test [] h = refl
  no_value test (e ∷ es) h =
      ap (λ (b : Bool). cond b (Some e.1) (lookup test es)) (h zero e.0 e.1 refl) ∙ no_value test es (λ i. h (suc i))

  -- the key at an entry passes a test whose first index it is
  key_at : (es : List (T × ℕ)) (i : ℕ) (o : T) (p : ℕ) → slice_get es i ≡ Some (o, p) → get_or (keys_of es) i o ≡ o
  key_at [] i o p h = refl
  key_at (e ∷ es) zero o p h = ap (λ z. z.0) (same_Some e (o, p) h)
  key_at (e ∷ es) (suc i) o p h = key_at es i o p h

  pub key_passes : (test : T → Bool) (es : List (T × ℕ)) (i : ℕ) (o : T) (p : ℕ) → position test (keys_of es) ≡ Some i
      → slice_get es i ≡ Some (o, p) → test o ≡ true
  key_passes test es i o p first h =
      subst (λ (x : T). test x ≡ true) (key_at es i o p h) (position-Some test (keys_of es) i o first).1

  -- a read of the log
  pub read_at : (es : List (T × ℕ)) (log : List (Option ℕ)) (p : ℕ) (c : Option ℕ) → p < length (cells_of es log)
      → c ≡ get_or log p c → get_or log p None ≡ c
  read_at es log p c l h = get_or_default log p None c (omega (arith, length-map log (cell_of es))) ∙ sym h

  module _ (es : List (T × ℕ)) (log : List (Option ℕ)) (tied : AreTied es log) where
    -- an item that stands at a place has its entry there
    pub entry_of : (p : ℕ) (o : T) → get_or (cells_of es log) p None ≡ Some o
        → (i : ℕ) × (get_or log p None ≡ Some i) × (slice_get es i ≡ Some (o, p))
    entry_of p o h = by (get_or log p None) refl
      where
        by : (c : Option ℕ) → get_or log p None ≡ c → (i : ℕ) × (get_or log p None ≡ Some i) × (slice_get es i ≡ Some (o, p))
        by None e = absurd (none-some o (sym (cell_at es log p ∙ ap (cell_of es) e) ∙ h))
        by (Some i) e =
            let t = tied.there p i e in
            let same : t.0 ≡ o = same_Some t.0 o (sym (cell_there es i p t.0 t.1) ∙ sym (ap (cell_of es) e) ∙ sym (cell_at es log p) ∙ h) in
            (i, e, t.1 ∙ ap (λ (x : T). Some (x, p)) same)

    -- and an entry has its item at its place
    pub item_of : (i p : ℕ) (o : T) → slice_get es i ≡ Some (o, p) → get_or (cells_of es log) p None ≡ Some o
    item_of i p o h = cell_at es log p ∙ ap (cell_of es) (tied.back i o p h) ∙ cell_there es i p o h

    -- two places that name one entry are one
    one_place : (p q i : ℕ) → get_or log p None ≡ Some i → get_or log q None ≡ Some i → p ≡ q
    one_place p q i g h =
        let s = tied.there p i g in
        let t = tied.there q i h in
        ap (λ e. e.1) (same_Some (s.0, p) (t.0, q) (sym s.1 ∙ t.1))

    -- and two entries of one place are one
    one_entry : (i j p : ℕ) → get_or log p None ≡ Some i → get_or log p None ≡ Some j → i ≡ j
    one_entry i j p g h = same_Some i j (sym g ∙ h)

    module _ (p i : ℕ) (named : get_or log p None ≡ Some i) where
      -- another place names another entry
      other_entry : (q k : ℕ) → get_or log q None ≡ Some k → (q ≡ p → ⊥) → i ≡ k → ⊥
      other_entry q k h n e = n (sym (one_place p q i named (h ∙ ap (λ (x : ℕ). Some x) (sym e))))

      -- and another entry stands at another place
      other_place : (q k : ℕ) → get_or log q None ≡ Some k → (i ≡ k → ⊥) → q ≡ p → ⊥
      other_place q k h n e = n (one_entry i k p named (ap (λ (r : ℕ). get_or log r None) (sym e) ∙ h))

      -- in the log without the place
      gone_at : get_or (set log p None) p None ≡ None
      gone_at = get_or-set_same log p None None (within log p i named)

      gone_other : (q k : ℕ) → get_or (set log p None) q None ≡ Some k → (q ≡ p → ⊥) × (get_or log q None ≡ Some k)
      gone_other q k h =
          let n : (q ≡ p → ⊥) = λ e. none-some k (sym gone_at ∙ ap (λ (r : ℕ). get_or (set log p None) r None) (sym e) ∙ h) in
          (n, sym (get_or-set_other log p q None None n) ∙ h)

      cells_slid : (to : ℕ) → cells_of (set_value_at es i to) (set (set log p None) to (Some i))
          ≡ set (set (cells_of es log) p None) to (cell_of es (Some i))
      cells_slid to =
          cells_same (set_value_at es i to) es (set (set log p None) to (Some i)) (set (set log p None) to (Some i)) refl
          (λ q. cell_kept es i to (get_or (set (set log p None) to (Some i)) q None))
          ∙ map-set (cell_of es) (set log p None) to (Some i)
          ∙ ap (λ (cells : List (Option T)). set cells to (cell_of es (Some i))) (map-set (cell_of es) log p None)

      module _ (to : ℕ) (l : to < length log) (gap : (to ≡ p) ⊎ (get_or log to None ≡ None)) where
        not_there : (q j : ℕ) → get_or log q None ≡ Some j → (q ≡ p → ⊥) → q ≡ to → ⊥
        not_there q j h n e =
            elim gap [
              | inl a ↦ n (e ∙ a)
              | inr b ↦ none-some j (sym b ∙ ap (λ (r : ℕ). get_or log r None) (sym e) ∙ h)
            ]

        at_to : get_or (set (set log p None) to (Some i)) to None ≡ Some i
        at_to = get_or-set_same (set log p None) to (Some i) None (omega (arith, length-set log p None))

        pub tied_slid : AreTied (set_value_at es i to) (set (set log p None) to (Some i))
        tied_slid = record { back = back; there = there }
          where
            s : (o : T) × (slice_get es i ≡ Some (o, p))
            s = tied.there p i named

            here : slice_get (set_value_at es i to) i ≡ Some (s.0, to)
            here = value_same es i to s.0 p s.1

            back : (j : ℕ) (o : T) (q : ℕ) → slice_get (set_value_at es i to) j ≡ Some (o, q)
                → get_or (set (set log p None) to (Some i)) q None ≡ Some j
            back j o q h =
                elim (cases_eq i j) [
                  | inl e ↦
                      let h2 : slice_get (set_value_at es i to) i ≡ Some (o, q) = ap (λ (k : ℕ). slice_get (set_value_at es i to) k) e ∙ h in
                      let at : to ≡ q = ap (λ x. x.1) (same_Some (s.0, to) (o, q) (sym here ∙ h2)) in
                      ap (λ (r : ℕ). get_or (set (set log p None) to (Some i)) r None) (sym at) ∙ at_to ∙ ap (λ (k : ℕ). Some k) e
                  | inr n ↦
                      let b : get_or log q None ≡ Some j = tied.back j o q (sym (value_other es i to j n) ∙ h) in
                      let m : (q ≡ p → ⊥) = other_place q j b n in
                      get_or-set_other (set log p None) to q (Some i) None (not_there q j b m)
                      ∙ get_or-set_other log p q None None m ∙ b
                ]

            there : (q k : ℕ) → get_or (set (set log p None) to (Some i)) q None ≡ Some k
                → (o : T) × (slice_get (set_value_at es i to) k ≡ Some (o, q))
            there q k h =
                elim (cases_eq q to) [
                  | inl e ↦
                      let same : i ≡ k = same_Some i k (sym at_to ∙ ap (λ (r : ℕ). get_or (set (set log p None) to (Some i)) r None) (sym e) ∙ h) in
                      (s.0, ap (λ (x : ℕ). slice_get (set_value_at es i to) x) (sym same) ∙ here ∙ ap (λ (r : ℕ). Some (s.0, r)) (sym e))
                  | inr n ↦
                      let g = gone_other q k (sym (get_or-set_other (set log p None) to q (Some i) None n) ∙ h) in
                      let t = tied.there q k g.1 in
                      (t.0, value_other es i to k (other_entry q k g.1 g.0) ∙ t.1)
                ]

      module _ (d : T × ℕ) where
        in_range : i < length es
        in_range = let t = tied.there p i named in slice_get_within es i (t.0, p) t.1

        -- an entry that is neither this one nor the last keeps its number
        kept : (q k : ℕ) → get_or (set log p None) q None ≡ Some k → (k + 1 ≡ length es → ⊥)
            → slice_get (swap_remove es i d) k ≡ slice_get es k
        kept q k h n =
            let g = gone_other q k h in
            let t = tied.there q k g.1 in
            let w : k < length es = slice_get_within es k (t.0, q) t.1 in
            swapped_other es i d k (other_entry q k g.1 g.0) (omega arith)

        back_other : (j q : ℕ) (o : T) → slice_get (swap_remove es i d) j ≡ Some (o, q) → (i ≡ j → ⊥)
            → (j + 1 < length es) × (get_or log q None ≡ Some j)
        back_other j q o h n =
            elim (cases_lt (j + 1) (length es)) [
              | inl l ↦ (l, tied.back j o q (sym (swapped_other es i d j n l) ∙ h))
              | inr l ↦ absurd (none-some (o, q) (sym (swapped_past es i d j l) ∙ h))
            ]

        module _ (last : length es ≤ i + 1) where
          not_last : (q k : ℕ) → get_or (set log p None) q None ≡ Some k → k + 1 ≡ length es → ⊥
          not_last q k h e = let g = gone_other q k h in let r = in_range in other_entry q k g.1 g.0 (omega arith)

          tied_last : AreTied (swap_remove es i d) (set log p None)
          tied_last = record { back = back; there = there }
            where
              back : (j : ℕ) (o : T) (q : ℕ) → slice_get (swap_remove es i d) j ≡ Some (o, q) → get_or (set log p None) q None ≡ Some j
              back j o q h =
                  elim (cases_eq i j) [
                    | inl e ↦ absurd (none-some (o, q) (sym (swapped_past es i d j (omega (arith, e))) ∙ h))
                    | inr n ↦
                        let b = back_other j q o h n in
                        get_or-set_other log p q None None (other_place q j b.1 n) ∙ b.1
                  ]

              there : (q k : ℕ) → get_or (set log p None) q None ≡ Some k → (o : T) × (slice_get (swap_remove es i d) k ≡ Some (o, q))
              there q k h =
                  let g = gone_other q k h in
                  let t = tied.there q k g.1 in
                  (t.0, kept q k h (not_last q k h) ∙ t.1)

          cells_last : cells_of (swap_remove es i d) (set log p None) ≡ cells_of es (set log p None)
          cells_last = cells_same (swap_remove es i d) es (set log p None) (set log p None) refl (λ q. by q (get_or (set log p None) q None) refl)
            where
              by : (q : ℕ) (c : Option ℕ) → get_or (set log p None) q None ≡ c → cell_of (swap_remove es i d) c ≡ cell_of es c
              by q None e = refl
              by q (Some k) e = ap (λ x. option_map (λ (y : T × ℕ). y.0) x) (kept q k e (not_last q k e))

        module _ (l : i + 1 < length es) (y : T) (r : ℕ) (last : slice_get es (length es - 1) ≡ Some (y, r)) where
          at_last : get_or log r None ≡ Some (length es - 1)
          at_last = tied.back (length es - 1) y r last

          apart : r ≡ p → ⊥
          apart = other_place r (length es - 1) at_last (λ e. let k : i ≡ length es - 1 = e in absurd (omega arith))

          at_gone : get_or (set log p None) r None ≡ Some (length es - 1)
          at_gone = get_or-set_other log p r None None apart ∙ at_last

          at_r : get_or (set (set log p None) r (Some i)) r None ≡ Some i
          at_r =
              get_or-set_same (set log p None) r (Some i) None
              (let w = within log r (length es - 1) at_last in omega (arith, length-set log p None))

          not_r : (q k : ℕ) → get_or (set log p None) q None ≡ Some k → (q ≡ r → ⊥) → k + 1 ≡ length es → ⊥
          not_r q k h n e =
              let g = gone_other q k h in
              let f : k ≡ length es - 1 = omega arith in
              n (one_place q r k g.1 (at_last ∙ ap (λ (x : ℕ). Some x) (sym f)))

          tied_swapped : AreTied (swap_remove es i d) (set (set log p None) r (Some i))
          tied_swapped = record { back = back; there = there }
            where
              back : (j : ℕ) (o : T) (q : ℕ) → slice_get (swap_remove es i d) j ≡ Some (o, q)
                  → get_or (set (set log p None) r (Some i)) q None ≡ Some j
              back j o q h =
                  elim (cases_eq i j) [
                    | inl e ↦
                        let h2 : slice_get (swap_remove es i d) i ≡ Some (o, q) = ap (λ (k : ℕ). slice_get (swap_remove es i d) k) e ∙ h in
                        let at : r ≡ q = ap (λ x. x.1) (same_Some (y, r) (o, q) (sym last ∙ sym (swapped_same es i d l) ∙ h2)) in
                        ap (λ (k : ℕ). get_or (set (set log p None) r (Some i)) k None) (sym at) ∙ at_r ∙ ap (λ (k : ℕ). Some k) e
                    | inr n ↦
                        let b = back_other j q o h n in
                        let m : (q ≡ r → ⊥) = λ e.
                        let f : j ≡ length es - 1 = one_entry j (length es - 1) r (ap (λ (x : ℕ). get_or log x None) (sym e) ∙ b.1) at_last in
                        absurd (omega (arith, b.0)) in
                        get_or-set_other (set log p None) r q (Some i) None m
                        ∙ get_or-set_other log p q None None (other_place q j b.1 n) ∙ b.1
                  ]

              there : (q k : ℕ) → get_or (set (set log p None) r (Some i)) q None ≡ Some k
                  → (o : T) × (slice_get (swap_remove es i d) k ≡ Some (o, q))
              there q k h =
                  elim (cases_eq q r) [
                    | inl e ↦
                        let same : i ≡ k = same_Some i k (sym at_r ∙ ap (λ (x : ℕ). get_or (set (set log p None) r (Some i)) x None) (sym e) ∙ h) in
                        (y, ap (λ (x : ℕ). slice_get (swap_remove es i d) x) (sym same) ∙ swapped_same es i d l ∙ last ∙ ap (λ (x : ℕ). Some (y, x)) (sym e))
                    | inr n ↦
                        let h2 : get_or (set log p None) q None ≡ Some k = sym (get_or-set_other (set log p None) r q (Some i) None n) ∙ h in
                        let g = gone_other q k h2 in
                        let t = tied.there q k g.1 in
                        (t.0, kept q k h2 (not_r q k h2 n) ∙ t.1)
                  ]

          cells_swapped : cells_of (swap_remove es i d) (set (set log p None) r (Some i)) ≡ cells_of es (set log p None)
          cells_swapped =
              cells_same (swap_remove es i d) es (set (set log p None) r (Some i)) (set log p None) (length-set (set log p None) r (Some i))
              (λ q. elim (cases_eq q r) [ inl e ↦ at_it q e | inr n ↦ ap (cell_of (swap_remove es i d)) (get_or-set_other (set log p None) r q (Some i) None n) ∙ by q n (get_or (set log p None) q None) refl ])
            where
              at_it : (q : ℕ) → q ≡ r → cell_of (swap_remove es i d) (get_or (set (set log p None) r (Some i)) q None) ≡ cell_of es (get_or (set log p None) q None)
              at_it q e =
                  ap (λ (x : ℕ). cell_of (swap_remove es i d) (get_or (set (set log p None) r (Some i)) x None)) e
                  ∙ ap (cell_of (swap_remove es i d)) at_r
                  ∙ ap (λ x. option_map (λ (z : T × ℕ). z.0) x) (swapped_same es i d l)
                  ∙ sym (ap (cell_of es) at_gone)
                  ∙ ap (λ (x : ℕ). cell_of es (get_or (set log p None) x None)) (sym e)

              by : (q : ℕ) → (q ≡ r → ⊥) → (c : Option ℕ) → get_or (set log p None) q None ≡ c → cell_of (swap_remove es i d) c ≡ cell_of es c
              by q n None e = refl
              by q n (Some k) e = ap (λ x. option_map (λ (z : T × ℕ). z.0) x) (kept q k e (not_r q k e n))

        last_entry : (e : T × ℕ) × (slice_get es (length es - 1) ≡ Some e)
        last_entry =
            let r = in_range in
            (get_or es (length es - 1) d, slice_get-get_or es (length es - 1) d (omega arith))

        pub taken : (mog : List (Option ℕ)) → mog ≡ relinked (slice_get (swap_remove es i d) i) i (set log p None)
            → AreTied (swap_remove es i d) mog × (cells_of (swap_remove es i d) mog ≡ set (cells_of es log) p None)
        taken mog is =
            elim (cases_lt (i + 1) (length es)) [
              | inl l ↦
                  let e = last_entry in
                  let m : mog ≡ set (set log p None) e.0.1 (Some i) =
                  is ∙ ap (λ x. relinked x i (set log p None)) (swapped_same es i d l ∙ e.1) in (
                    subst (λ (x : List (Option ℕ)). AreTied (swap_remove es i d) x) (sym m) (tied_swapped l e.0.0 e.0.1 e.1),
                    ap (cells_of (swap_remove es i d)) m ∙ cells_swapped l e.0.0 e.0.1 e.1 ∙ map-set (cell_of es) log p None,
                  )
              | inr l ↦
                  let m : mog ≡ set log p None = is ∙ ap (λ x. relinked x i (set log p None)) (swapped_past es i d i l) in (
                    subst (λ (x : List (Option ℕ)). AreTied (swap_remove es i d) x) (sym m) (tied_last l),
                    ap (cells_of (swap_remove es i d)) m ∙ cells_last l ∙ map-set (cell_of es) log p None,
                  )
            ]

        pub relinked_within : IfSome (slice_get (swap_remove es i d) i) (λ e. e.1 < length (set log p None))
        relinked_within =
            elim (cases_lt (i + 1) (length es)) [
              | inl l ↦
                  let e = last_entry in
                  let w : e.0.1 < length (set log p None) =
                  (let w = within log e.0.1 (length es - 1) (tied.back (length es - 1) e.0.0 e.0.1 e.1) in omega (arith, length-set log p None)) in
                  subst (λ x. IfSome x (λ (e : T × ℕ). e.1 < length (set log p None))) (sym (swapped_same es i d l ∙ e.1)) w
              | inr l ↦ subst (λ x. IfSome x (λ (e : T × ℕ). e.1 < length (set log p None))) (sym (swapped_past es i d i l)) tt
            ]

    -- a new entry at the end of both
    pub tied_pushed : (o : T) → AreTied (es ++ (o, length log) ∷ []) (log ++ Some (length es) ∷ [])
    tied_pushed o = record { back = back; there = there }
      where
        back : (j : ℕ) (x : T) (q : ℕ) → slice_get (es ++ (o, length log) ∷ []) j ≡ Some (x, q)
            → get_or (log ++ Some (length es) ∷ []) q None ≡ Some j
        back j x q h =
            elim (cases_order j (length es)) [
              | inl e ↦
                  let at : length log ≡ q = ap (λ z. z.1) (same_Some (o, length log) (x, q)
                  (sym (get_end es (o, length log)) ∙ ap (λ (k : ℕ). slice_get (es ++ (o, length log) ∷ []) k) (sym e) ∙ h)) in
                  get_or_push log (Some (length es)) None q at ∙ ap (λ (k : ℕ). Some k) (sym e)
              | inr (inl l) ↦
                  let b = tied.back j x q (sym (get_append es ((o, length log) ∷ []) j l) ∙ h) in
                  get_or_append_left log (Some (length es) ∷ []) None q (within log q j b) ∙ b
              | inr (inr l) ↦ absurd (none-some (x, q) (sym (get_past_end es (o, length log) j l) ∙ h))
            ]

        there : (q k : ℕ) → get_or (log ++ Some (length es) ∷ []) q None ≡ Some k
            → (x : T) × (slice_get (es ++ (o, length log) ∷ []) k ≡ Some (x, q))
        there q k h =
            elim (cases_order q (length log)) [
              | inl e ↦
                  let same : length es ≡ k = same_Some (length es) k (sym (get_or_push log (Some (length es)) None q (sym e)) ∙ h) in
                  (o, ap (λ (x : ℕ). slice_get (es ++ (o, length log) ∷ []) x) (sym same) ∙ get_end es (o, length log) ∙ ap (λ (x : ℕ). Some (o, x)) (sym e))
              | inr (inl l) ↦
                  let t = tied.there q k (sym (get_or_append_left log (Some (length es) ∷ []) None q l) ∙ h) in
                  (t.0, get_append es ((o, length log) ∷ []) k (slice_get_within es k (t.0, q) t.1) ∙ t.1)
              | inr (inr l) ↦
                  absurd (none-some k (sym (get_or_past (log ++ Some (length es) ∷ []) q None (omega (arith, length_push log (Some (length es))))) ∙ h))
            ]

    pub cells_pushed : (o : T) → cells_of (es ++ (o, length log) ∷ []) (log ++ Some (length es) ∷ []) ≡ cells_of es log ++ Some o ∷ []
    cells_pushed o =
        map_push (cell_of (es ++ (o, length log) ∷ [])) log (Some (length es)) ∙ (λ i. front i ++ (one i ∷ []))
      where
        by : (p : ℕ) (c : Option ℕ) → get_or log p None ≡ c → cell_of (es ++ (o, length log) ∷ []) c ≡ cell_of es c
        by p None e = refl
        by p (Some k) e =
            let t = tied.there p k e in
            ap (λ x. option_map (λ (z : T × ℕ). z.0) x) (get_append es ((o, length log) ∷ []) k (slice_get_within es k (t.0, p) t.1))

        front : cells_of (es ++ (o, length log) ∷ []) log ≡ cells_of es log
        front = cells_same (es ++ (o, length log) ∷ []) es log log refl (λ p. by p (get_or log p None) refl)

        one : cell_of (es ++ (o, length log) ∷ []) (Some (length es)) ≡ Some o
        one = ap (λ x. option_map (λ (z : T × ℕ). z.0) x) (get_end es (o, length log))

    -- a gap at the end
    pub tied_gap : AreTied es (log ++ None ∷ [])
    tied_gap = record {
      back = λ i o p h. gap_end log p ∙ tied.back i o p h;
      there = λ p i h. tied.there p i (sym (gap_end log p) ∙ h);
    }

    -- fewer places, where the others are gaps
    pub tied_cut : (n : ℕ) → present (drop n (cells_of es log)) ≡ [] → AreTied es (take n log)
    tied_cut n none = record { back = back; there = there }
      where
        back : (i : ℕ) (o : T) (p : ℕ) → slice_get es i ≡ Some (o, p) → get_or (take n log) p None ≡ Some i
        back i o p h =
            elim (cases_lt p n) [
              | inl l ↦ get_or-take n log p None l ∙ tied.back i o p h
              | inr l ↦ absurd (none_past (cells_of es log) n p o none l (item_of i p o h))
            ]

        there : (p i : ℕ) → get_or (take n log) p None ≡ Some i → (o : T) × (slice_get es i ≡ Some (o, p))
        there p i h =
            let w = within (take n log) p i h in
            let l : p < n = omega (arith, length-take n log) in
            tied.there p i (sym (get_or-take n log p None l) ∙ h)

    -- what stands at a place is an item where the place names an entry
    pub has_item : (p : ℕ) → is_some (get_or log p None) ≡ is_some (get_or (cells_of es log) p None)
    has_item p = by (get_or log p None) refl ∙ ap is_some (sym (cell_at es log p))
      where
        by : (c : Option ℕ) → get_or log p None ≡ c → is_some (get_or log p None) ≡ is_some (cell_of es (get_or log p None))
        by None e = ap (λ c. is_some c) e ∙ ap (λ c. is_some (cell_of es c)) (sym e)
        by (Some i) e =
            let t = tied.there p i e in
            ap (λ c. is_some c) e ∙ ap is_some (sym (cell_there es i p t.0 t.1)) ∙ ap (λ c. is_some (cell_of es c)) (sym e)

    -- the items of two places that pass a query's test have equal keys, and so are one
    pub apart_at : (eq : T → T → Bool) (test : T → Bool) → ((x y : T) → test x ≡ true → test y ≡ true → eq x y ≡ true)
        → IsDistinct eq (keys_of es) → AreApart test (cells_of es log)
    apart_at eq test same distinct p q a b g h s t =
        let x = entry_of p a g in
        let y = entry_of q b h in
        let e : x.0 ≡ y.0 = one_key eq es x.0 y.0 a b p q distinct x.2 y.2 (same a b s t) (same b a t s) in
        ap (λ z. z.1) (same_Some (a, p) (b, q) (sym x.2 ∙ ap (λ (k : ℕ). slice_get es k) e ∙ y.2))

    -- no item passes a test that no key passes
    pub none_pass : (test : T → Bool) → is_some (lookup test es) ≡ false
        → (p : ℕ) (o : T) → get_or (cells_of es log) p None ≡ Some o → test o ≡ false
    none_pass test none p o h = let x = entry_of p o h in no_key test es none x.0 o p x.2

    -- a gap names no entry
    pub gap_named : (p : ℕ) → get_or (cells_of es log) p None ≡ None → get_or log p None ≡ None
    gap_named p h = by (get_or log p None) refl
      where
        by : (c : Option ℕ) → get_or log p None ≡ c → get_or log p None ≡ None
        by None e = e
        by (Some i) e =
            let t = tied.there p i e in
            absurd (none-some t.0 (sym h ∙ cell_at es log p ∙ ap (cell_of es) e ∙ cell_there es i p t.0 t.1))

    -- an entry that is named is there
    pub named_within : (p i : ℕ) → get_or log p None ≡ Some i → i < length es
    named_within p i h = let t = tied.there p i h in slice_get_within es i (t.0, p) t.1

    -- the places after an item is moved
    pub slid_at : (p i to : ℕ) → get_or log p None ≡ Some i
        → cells_of (set_value_at es i to) (set (set log p None) to (Some i)) ≡ slid (cells_of es log) p to (get_or (cells_of es log) p None)
    slid_at p i to h =
        let t = tied.there p i h in
        let one : cell_of es (Some i) ≡ Some t.0 = cell_there es i p t.0 t.1 in
        cells_slid p i h to ∙ ap (λ (c : Option T). set (set (cells_of es log) p None) to c) one
        ∙ sym (ap (λ (c : Option T). slid (cells_of es log) p to c) (cell_at es log p ∙ ap (cell_of es) h ∙ one))

    -- both, after an item that is not there is pushed
    pub pushed : (o : T) (fs : List (T × ℕ)) (mog : List (Option ℕ)) → fs ≡ es ++ (o, length log) ∷ []
        → mog ≡ log ++ Some (length es) ∷ [] → AreTied fs mog × (cells_of fs mog ≡ cells_of es log ++ Some o ∷ [])
    pushed o fs mog f m = (
      subst (λ (x : List (T × ℕ)). AreTied x mog) (sym f)
          (subst (λ (x : List (Option ℕ)). AreTied (es ++ (o, length log) ∷ []) x) (sym m) (tied_pushed o)),
      ap (λ (x : List (T × ℕ)). cells_of x mog) f ∙ ap (cells_of (es ++ (o, length log) ∷ [])) m ∙ cells_pushed o,
    )

    pub absent : (test : T → Bool) → ((p : ℕ) (o : T) → get_or (cells_of es log) p None ≡ Some o → test o ≡ false) → lookup test es ≡ None
    absent test h = no_value test es (λ i o p e. h p o (item_of i p o e))
