-- What the items of a row are after each call on its places.
use Rattle.std.proofs.Common.{◌≡◌, All, Contains, ℕ, zero, suc, ◌+◌, ◌-◌, ◌<◌, ◌≤◌, ◌⊎◌, inl, inr, Bool, true, false, cond, not, true≢false, List, [], ◌∷◌, ◌++◌, Option, None, Some, is_some, map, length, get_or, set, take, drop, slice_get, remove, filter, find, option_to_list, replicate, refl, sym, ap, subst, ◌∙◌, arith, length-set, length-append, append_assoc}
use Rattle.std.proofs.lemmas.List.{append-nil, get_or_at, set_at, set-append_left, take_at, drop_at, take_all, drop_all, drop_more, take-append-le, take_more, get_or_append_left, map_push, length_push, length-map, length-replicate, replicate_more}
use Rattle.std.proofs.lemmas.List.Elements.{filter_map-append, All-cons, All-contains_itself, All-head, All-nil, All-tail}
use Rattle.std.proofs.lemmas.Option.{none-some, same_Some, slice_get_past}
use Rattle.std.proofs.lemmas.Bool.{cases_lt}
use Rattle.rows.specs.Cells.{present, AreApart, slid}
use Rattle.rows.specs.Cells.{CellsSeen}
use Rattle.rows.specs.Row.{RowSeen, ArePassed, moved, IsTakenOut, IsRow}

zero_suc : (n : ℕ) → zero ≡ suc n → ⊥
zero_suc n e = absurd (omega arith)

suc_same : (m n : ℕ) → suc m ≡ suc n → m ≡ n
suc_same m n e = omega arith

not_both : (b : Bool) → (b ≡ true → ⊥) → b ≡ false
not_both true h = absurd (h refl)
not_both false h = refl

module _ {T : Type 0} where
  no_item : (c : Option T) → is_some c ≡ false → c ≡ None
  no_item None h = refl
  no_item (Some x) h = absurd (true≢false h)

  cons_nil : (x : T) (xs : List T) → x ∷ xs ≡ [] → ⊥
  cons_nil x xs h = cc

  shifted : (n : ℕ) (R : List (Option T)) → replicate n None ++ None ∷ R ≡ None ∷ (replicate n None ++ R)
  shifted zero R = refl
  shifted (suc n) R = ap (λ (xs : List (Option T)). None ∷ xs) (shifted n R)

  pub present_append : (xs ys : List (Option T)) → present (xs ++ ys) ≡ present xs ++ present ys
  present_append xs ys = filter_map-append (λ c. c) xs ys

  present_gaps : (n : ℕ) → present {T = T} (replicate n None) ≡ []
  present_gaps zero = refl
  present_gaps (suc n) = present_gaps n

  present_all : (xs : List T) → present (map (λ o. Some o) xs) ≡ xs
  present_all [] = refl
  present_all (x ∷ xs) = ap (λ (ys : List T). x ∷ ys) (present_all xs)

  -- what the log is while it is closed up: the items so far, gaps, and the rest as it was
  pub record IsSqueezing (initial cells : List (Option T)) (to p : ℕ) : Type 0 where
    pub done : List T
    pub gaps : ℕ
    pub to_is : to ≡ length done
    pub p_is : p ≡ length done + gaps
    pub cells_is : cells ≡ (map (λ o. Some o) done ++ replicate gaps None) ++ drop p initial
    pub items : present initial ≡ done ++ present (drop p initial)

  pub begun : (cells : List (Option T)) → IsSqueezing cells cells 0 0
  begun cells = record { done = []; gaps = 0; to_is = refl; p_is = refl; cells_is = refl; items = refl }

  module _ (initial cells : List (Option T)) (to p : ℕ) (s : IsSqueezing initial cells to p) where
    front : List (Option T)
    front = map (λ o. Some o) s.done

    length_front : length front ≡ to
    unfolding front
    length_front = length-map s.done (λ o. Some o) ∙ sym s.to_is

    length_gone : length (front ++ replicate s.gaps None) ≡ p
    length_gone =
        let none : Option T = None in
        omega (arith, length-append front (replicate s.gaps none), length_front, length-replicate s.gaps none, s.p_is, s.to_is)

    module _ (l : p < length initial) where
      rest : drop p initial ≡ get_or initial p None ∷ drop (p + 1) initial
      rest = drop_more initial p None l

      split : cells ≡ (front ++ replicate s.gaps None) ++ (get_or initial p None ∷ drop (p + 1) initial)
      unfolding front
      split = s.cells_is ∙ ap (λ (xs : List (Option T)). (map (λ o. Some o) s.done ++ replicate s.gaps None) ++ xs) rest

      at_p : get_or cells p None ≡ get_or initial p None
      at_p =
          ap (λ (xs : List (Option T)). get_or xs p None) split
          ∙ get_or_at (front ++ replicate s.gaps None) (get_or initial p None) (drop (p + 1) initial) None p length_gone

      items_rest : present initial ≡ s.done ++ present (get_or initial p None ∷ drop (p + 1) initial)
      items_rest = s.items ∙ ap (λ (xs : List (Option T)). s.done ++ present xs) rest

      pub gap_of : (to ≡ p) ⊎ (get_or cells to None ≡ None)
      gap_of = by s.gaps refl
        where
          by : (n : ℕ) → s.gaps ≡ n → (to ≡ p) ⊎ (get_or cells to None ≡ None)
          by zero e = inl (omega (arith, s.to_is, s.p_is, e))
          by (suc n) e =
              inr (
              ap (λ (xs : List (Option T)). get_or xs to None) split
              ∙ ap (λ (k : ℕ). get_or ((front ++ replicate k None) ++ (get_or initial p None ∷ drop (p + 1) initial)) to None) e
              ∙ ap (λ (xs : List (Option T)). get_or xs to None) (append_assoc front (replicate (suc n) None) (get_or initial p None ∷ drop (p + 1) initial))
              ∙ get_or_at front None (replicate n None ++ (get_or initial p None ∷ drop (p + 1) initial)) None to length_front)

      pub step_gap : is_some (get_or cells p None) ≡ false → IsSqueezing initial cells to (p + 1)
      unfolding front
      step_gap h = record {
        done = s.done;
        gaps = s.gaps + 1;
        to_is = s.to_is;
        p_is = omega (arith, s.p_is);
        cells_is =
            split ∙ ap (λ (c : Option T). (front ++ replicate s.gaps None) ++ (c ∷ drop (p + 1) initial)) none
            ∙ sym (append_assoc (front ++ replicate s.gaps None) (None ∷ []) (drop (p + 1) initial))
            ∙ ap (λ (xs : List (Option T)). xs ++ drop (p + 1) initial)
            (append_assoc front (replicate s.gaps None) (None ∷ []) ∙ ap (λ (xs : List (Option T)). front ++ xs) (replicate_more s.gaps None));
        items = items_rest ∙ ap (λ (c : Option T). s.done ++ present (c ∷ drop (p + 1) initial)) none;
      }
        where
          none : get_or initial p None ≡ None
          none = no_item (get_or initial p None) (ap is_some (sym at_p) ∙ h)

      module _ (o : T) (is : get_or cells p None ≡ Some o) where
        here : get_or initial p None ≡ Some o
        here = sym at_p ∙ is

        R : List (Option T)
        R = drop (p + 1) initial

        slid_is : set (set cells p None) to (Some o) ≡ (map (λ o. Some o) (s.done ++ o ∷ []) ++ replicate s.gaps None) ++ drop (p + 1) initial
        unfolding front R
        slid_is =
            ap (λ (xs : List (Option T)). set (set xs p None) to (Some o)) split
            ∙ ap (λ (xs : List (Option T)). set xs to (Some o)) (set_at (front ++ replicate s.gaps None) (get_or initial p None) R None p length_gone)
            ∙ ap (λ (xs : List (Option T)). set xs to (Some o)) (append_assoc front (replicate s.gaps None) (None ∷ R) ∙ ap (λ (xs : List (Option T)). front ++ xs) (shifted s.gaps R))
            ∙ set_at front None (replicate s.gaps None ++ R) (Some o) to length_front
            ∙ sym (append_assoc front (Some o ∷ []) (replicate s.gaps None ++ R))
            ∙ ap (λ (xs : List (Option T)). xs ++ (replicate s.gaps None ++ R)) (sym (map_push (λ o. Some o) s.done o))
            ∙ sym (append_assoc (map (λ o. Some o) (s.done ++ o ∷ [])) (replicate s.gaps None) R)

        step_some : IsSqueezing initial (set (set cells p None) to (Some o)) (to + 1) (p + 1)
        step_some = record {
          done = s.done ++ o ∷ [];
          gaps = s.gaps;
          to_is = omega (arith, length_push s.done o, s.to_is);
          p_is = omega (arith, length_push s.done o, s.p_is);
          cells_is = slid_is;
          items =
              items_rest ∙ ap (λ (c : Option T). s.done ++ present (c ∷ drop (p + 1) initial)) here
              ∙ sym (append_assoc s.done (o ∷ []) (present (drop (p + 1) initial)));
        }

      pub step_item : (new : List (Option T)) → is_some (get_or cells p None) ≡ true → new ≡ slid cells p to (get_or cells p None)
          → IsSqueezing initial new (to + 1) (p + 1)
      step_item new h e = by (get_or cells p None) refl
        where
          by : (c : Option T) → get_or cells p None ≡ c → IsSqueezing initial new (to + 1) (p + 1)
          by None f = absurd (true≢false (sym h ∙ ap is_some f))
          by (Some o) f =
              subst (λ (xs : List (Option T)). IsSqueezing initial xs (to + 1) (p + 1)) (sym (e ∙ ap (slid cells p to) f)) (step_some o f)

    -- at its end
    module _ (l : length initial ≤ p) where
      nothing_left : drop p initial ≡ []
      nothing_left = drop_all p initial l

      closed : cells ≡ front ++ replicate s.gaps None
      unfolding front
      closed =
          s.cells_is ∙ ap (λ (xs : List (Option T)). (map (λ o. Some o) s.done ++ replicate s.gaps None) ++ xs) nothing_left
          ∙ append-nil (map (λ o. Some o) s.done ++ replicate s.gaps None)

      pub behind_gone : present (drop to cells) ≡ []
      behind_gone =
          ap (λ (xs : List (Option T)). present (drop to xs)) closed
          ∙ ap present (drop_at front (replicate s.gaps None) to length_front) ∙ present_gaps s.gaps

      all_done : present initial ≡ s.done
      all_done = s.items ∙ ap (λ (xs : List (Option T)). s.done ++ present xs) nothing_left ∙ append-nil s.done

      taken_front : take to cells ≡ front
      taken_front = ap (take to) closed ∙ take_at front (replicate s.gaps None) to length_front

      pub items_kept : present (take to cells) ≡ present initial
      unfolding front
      items_kept = ap present taken_front ∙ present_all s.done ∙ sym all_done

      pub full_front : length (take to cells) ≡ length (present initial)
      full_front = ap length taken_front ∙ length_front ∙ s.to_is ∙ sym (ap length all_done)

  -- the places from the front on
  pub same_more : (cells : List (Option T)) (p : ℕ) → p < length cells → is_some (get_or cells p None) ≡ false
      → present (take (p + 1) cells) ≡ present (take p cells)
  same_more cells p l h =
      ap present (take_more cells p None l) ∙ present_append (take p cells) (get_or cells p None ∷ [])
      ∙ ap (λ (c : Option T). present (take p cells) ++ present (c ∷ [])) (no_item (get_or cells p None) h) ∙ append-nil (present (take p cells))

  pub gone_set : (cells : List (Option T)) (f p : ℕ) → present (take f cells) ≡ [] → present (take f (set cells p None)) ≡ []
  gone_set [] f p h = h
  gone_set (c ∷ cells) zero p h = refl
  gone_set (None ∷ cells) (suc f) zero h = h
  gone_set (Some x ∷ cells) (suc f) zero h = absurd (cons_nil x (present (take f cells)) h)
  gone_set (None ∷ cells) (suc f) (suc p) h = gone_set cells f p h
  gone_set (Some x ∷ cells) (suc f) (suc p) h = absurd (cons_nil x (present (take f cells)) h)

  pub gone_push : (cells : List (Option T)) (f : ℕ) (c : Option T) → f ≤ length cells → present (take f cells) ≡ []
      → present (take f (cells ++ c ∷ [])) ≡ []
  gone_push cells f c l h = ap present (take-append-le f cells (c ∷ []) l) ∙ h

  -- an item taken out of its place is taken out of the items
  pub taken_out : (cells : List (Option T)) (p : ℕ) (o : T) → get_or cells p None ≡ Some o
      → IsTakenOut (Some o) (present cells) (present (set cells p None))
  taken_out [] p o h = absurd (none-some o h)
  taken_out (None ∷ cells) zero o h = absurd (none-some o h)
  taken_out (Some x ∷ cells) zero o h = ([], (present cells, (ap (λ (y : T). y ∷ present cells) (same_Some x o h), refl)))
  taken_out (None ∷ cells) (suc p) o h = taken_out cells p o h
  taken_out (Some x ∷ cells) (suc p) o h =
      let r = taken_out cells p o h in
      (x ∷ r.0, (r.1.0, (ap (λ (ys : List T). x ∷ ys) r.1.1.0, ap (λ (ys : List T). x ∷ ys) r.1.1.1)))

  -- the first item
  pub first_taken : (cells : List (Option T)) (f : ℕ) (o : T) → present (take f cells) ≡ [] → get_or cells f None ≡ Some o
      → present cells ≡ o ∷ present (set cells f None)
  first_taken [] f o g h = absurd (none-some o h)
  first_taken (None ∷ cells) zero o g h = absurd (none-some o h)
  first_taken (Some x ∷ cells) zero o g h = ap (λ (y : T). y ∷ present cells) (same_Some x o h)
  first_taken (None ∷ cells) (suc f) o g h = first_taken cells f o g h
  first_taken (Some x ∷ cells) (suc f) o g h = absurd (cons_nil x (present (take f cells)) g)

  pub none_left : (cells : List (Option T)) (f : ℕ) → present (take f cells) ≡ [] → length cells ≤ f → present cells ≡ []
  none_left cells f g l = ap present (sym (take_all f cells l)) ∙ g

  -- by a test
  module _ (test : T → Bool) where
    none_find : (cells : List (Option T)) → ((p : ℕ) (o : T) → get_or cells p None ≡ Some o → test o ≡ false)
        → (find test (present cells) ≡ None) × (filter (λ o. not (test o)) (present cells) ≡ present cells)
    none_find [] h = (refl, refl)
    none_find (None ∷ cells) h = none_find cells (λ p. h (suc p))
    none_find (Some x ∷ cells) h =
        let r = none_find cells (λ p. h (suc p)) in
        let f : test x ≡ false = h zero x refl in (
          ap (λ (b : Bool). cond b (Some x) (find test (present cells))) f ∙ r.0,
          ap (λ (b : Bool). cond (not b) (x ∷ filter (λ o. not (test o)) (present cells)) (filter (λ o. not (test o)) (present cells))) f
              ∙ ap (λ (ys : List T). x ∷ ys) r.1,
        )

    tail_apart : (c : Option T) (cells : List (Option T)) → AreApart test (c ∷ cells) → AreApart test cells
    tail_apart c cells h p q a b g k s t = suc_same p q (h (suc p) (suc q) a b g k s t)

    pub one_find : (cells : List (Option T)) (p : ℕ) (o : T) → AreApart test cells → get_or cells p None ≡ Some o → test o ≡ true
        → (find test (present cells) ≡ Some o) × (filter (λ o. not (test o)) (present cells) ≡ present (set cells p None))
    one_find [] p o apart h t = absurd (none-some o h)
    one_find (None ∷ cells) zero o apart h t = absurd (none-some o h)
    one_find (None ∷ cells) (suc p) o apart h t = one_find cells p o (tail_apart None cells apart) h t
    one_find (Some x ∷ cells) zero o apart h t =
        let e : x ≡ o = same_Some x o h in
        let f : test x ≡ true = ap test e ∙ t in
        let others = none_find cells (λ q b g. not_both (test b) (λ s. zero_suc q (apart zero (suc q) x b refl g f s))) in (
          ap (λ (b : Bool). cond b (Some x) (find test (present cells))) f ∙ ap (λ (y : T). Some y) e,
          ap (λ (b : Bool). cond (not b) (x ∷ filter (λ o. not (test o)) (present cells)) (filter (λ o. not (test o)) (present cells))) f ∙ others.1,
        )
    one_find (Some x ∷ cells) (suc p) o apart h t =
        let r = one_find cells p o (tail_apart (Some x) cells apart) h t in
        let f : test x ≡ false = not_both (test x) (λ s. zero_suc p (apart zero (suc p) x o refl h s t)) in (
          ap (λ (b : Bool). cond b (Some x) (find test (present cells))) f ∙ r.0,
          ap (λ (b : Bool). cond (not b) (x ∷ filter (λ o. not (test o)) (present cells)) (filter (λ o. not (test o)) (present cells))) f
              ∙ ap (λ (ys : List T). x ∷ ys) r.1,
        )

    pub none_found : (cells : List (Option T)) → ((p : ℕ) (o : T) → get_or cells p None ≡ Some o → test o ≡ false)
        → (find test (present cells) ≡ None) × (filter (λ o. not (test o)) (present cells) ≡ present cells)
    none_found cells h = none_find cells h

    -- and back: no place has an item that passes, where none of the items does
    pub none_there : (cells : List (Option T)) → find test (present cells) ≡ None → (p : ℕ) (o : T) → get_or cells p None ≡ Some o → test o ≡ false
    none_there [] n p o h = absurd (none-some o h)
    none_there (None ∷ cells) n zero o h = absurd (none-some o h)
    none_there (None ∷ cells) n (suc p) o h = none_there cells n p o h
    none_there (Some x ∷ cells) n zero o h =
        ap test (sym (same_Some x o h)) ∙ not_both (test x) (λ s. none-some x (sym n ∙ ap (λ (b : Bool). cond b (Some x) (find test (present cells))) s))
    none_there (Some x ∷ cells) n (suc p) o h =
        let f : test x ≡ false = not_both (test x) (λ s. none-some x (sym n ∙ ap (λ (b : Bool). cond b (Some x) (find test (present cells))) s)) in
        none_there cells (sym (ap (λ (b : Bool). cond b (Some x) (find test (present cells))) f) ∙ n) p o h

  -- an item that is moved to the end
  pub moved_last : (cells new : List (Option T)) (p n : ℕ) (o : T) → p < length cells → n ≡ length cells → get_or cells p None ≡ Some o
      → new ≡ slid (cells ++ None ∷ []) p n (get_or (cells ++ None ∷ []) p None) → new ≡ set cells p None ++ Some o ∷ []
  moved_last cells new p n o l e h is =
      is ∙ ap (slid (cells ++ None ∷ []) p n) (get_or_append_left cells (None ∷ []) None p l ∙ h)
      ∙ ap (λ (xs : List (Option T)). set xs n (Some o)) (set-append_left cells (None ∷ []) p None l)
      ∙ set_at (set cells p None) None [] (Some o) n (length-set cells p None ∙ sym e)

  pub item_at : (c : Option T) → is_some c ≡ true → (o : T) × (c ≡ Some o)
  item_at None h = absurd (true≢false (sym h))
  item_at (Some x) h = (x, refl)

  pub first_get : (cells : List (Option T)) (f : ℕ) → present (take f cells) ≡ [] → is_some (get_or cells f None) ≡ true
      → slice_get (present cells) 0 ≡ get_or cells f None
  first_get cells f g h =
      let o = item_at (get_or cells f None) h in
      ap (λ (xs : List T). slice_get xs 0) (first_taken cells f o.0 g o.1) ∙ sym o.1

  -- one item less
  pub one_less : (cells : List (Option T)) (p : ℕ) (o : T) → get_or cells p None ≡ Some o
      → length (present cells) ≡ length (present (set cells p None)) + 1
  one_less cells p o h =
      let t = taken_out cells p o h in
      omega (arith, ap length t.1.1.0, ap length t.1.1.1, length-append t.0 (o ∷ t.1.0), length-append t.0 t.1.0)

  pub row_taken : (old new : CellsSeen T) (count front spare walk f p less : ℕ) (o : T) → IsRow old count front spare walk
      → get_or old.cells p None ≡ Some o → new.cells ≡ set old.cells p None → old.spare ≤ new.spare → new.room ≡ old.room
      → present (take f new.cells) ≡ [] → f ≤ length new.cells → less ≤ length new.cells → IsRow new (count - 1) f spare less
  row_taken old new count front spare walk f p less o row h is s r gone within first = record {
    count_is = omega (arith, one_less old.cells p o h, ap (λ (xs : List (Option T)). length (present xs)) is, row.count_is);
    gone = gone;
    within = within;
    at_hand = omega (arith, row.at_hand);
    places = omega (arith, row.places, ap length is, length-set old.cells p None);
    walked = first;
  }

  pub some_counted : (seen : CellsSeen T) (count front spare walk p : ℕ) (o : T) → IsRow seen count front spare walk
      → get_or seen.cells p None ≡ Some o → 1 ≤ count
  some_counted seen count front spare walk p o row h = omega (arith, one_less seen.cells p o h, row.count_is)

  pub length_slid : (cells : List (Option T)) (p to : ℕ) (c : Option T) → length (slid cells p to c) ≡ length cells
  length_slid cells p to None = refl
  length_slid cells p to (Some o) = length-set (set cells p None) to (Some o) ∙ length-set cells p None

  -- a row with these items and so many reserved places, of which a walk has passed so many
  abbrev pub seen : List T → ℕ → ℕ → RowSeen T
  seen items spare passed = record { items = items; spare = spare; passed = passed }

  pub row_roomed : (old new : CellsSeen T) (count front spare walk f less : ℕ) → IsRow old count front spare walk
      → present new.cells ≡ present old.cells → present (take f new.cells) ≡ [] → f ≤ length new.cells → new.spare ≡ old.spare
      → new.room + length new.cells ≡ old.room + length old.cells → less ≤ length new.cells → IsRow new count f spare less
  row_roomed old new count front spare walk f less row items gone within s total first = record {
    count_is = row.count_is ∙ ap length (sym items);
    gone = gone;
    within = within;
    at_hand = omega (arith, row.at_hand);
    places = omega (arith, row.places);
    walked = first;
  }

  pub gone_moved : (cells : List (Option T)) (f p : ℕ) (o : T) → f ≤ length cells → present (take f cells) ≡ []
      → present (take f (set cells p None ++ Some o ∷ [])) ≡ []
  gone_moved cells f p o l h = gone_push (set cells p None) f (Some o) (omega (arith, length-set cells p None)) (gone_set cells f p h)

  pub row_moved : (mid new : CellsSeen T) (count front spare walk f p : ℕ) (o : T) → IsRow mid count front spare walk
      → get_or mid.cells p None ≡ Some o → new.cells ≡ set mid.cells p None ++ Some o ∷ [] → new.spare ≡ mid.spare → new.room + 1 ≡ mid.room
      → present (take f new.cells) ≡ [] → f ≤ length new.cells → IsRow new count f spare walk
  row_moved mid new count front spare walk f p o row h is s r gone within = record {
    count_is =
        row.count_is ∙ one_less mid.cells p o h ∙ sym (length_push (present (set mid.cells p None)) o)
        ∙ ap length (sym (present_append (set mid.cells p None) (Some o ∷ []))) ∙ ap (λ (xs : List (Option T)). length (present xs)) (sym is);
    gone = gone;
    within = within;
    at_hand = omega (arith, row.at_hand);
    places = omega (arith, row.places, ap length is, length_push (set mid.cells p None) (Some o), length-set mid.cells p None);
    walked = omega (arith, row.walked, ap length is, length_push (set mid.cells p None) (Some o), length-set mid.cells p None);
  }

  pub row_pushed : (mid new : CellsSeen T) (count front spare walk : ℕ) (o : T) → IsRow mid count front spare walk → 0 < spare
      → new.cells ≡ mid.cells ++ Some o ∷ [] → mid.spare ≤ new.spare + 1 → new.room + 1 ≡ mid.room → IsRow new (count + 1) front (spare - 1) walk
  row_pushed mid new count front spare walk o row some is s r = record {
    count_is =
        ap (λ (n : ℕ). n + 1) row.count_is ∙ sym (length_push (present mid.cells) o)
        ∙ ap length (sym (present_append mid.cells (Some o ∷ []))) ∙ ap (λ (xs : List (Option T)). length (present xs)) (sym is);
    gone = ap (λ (xs : List (Option T)). present (take front xs)) is ∙ gone_push mid.cells front (Some o) row.within row.gone;
    within = omega (arith, row.within, ap length is, length_push mid.cells (Some o));
    at_hand = omega (arith, row.at_hand);
    places = omega (arith, row.places, ap length is, length_push mid.cells (Some o));
    walked = omega (arith, row.walked, ap length is, length_push mid.cells (Some o));
  }

  pub present_pushed : (cells : List (Option T)) (o : T) → present (cells ++ Some o ∷ []) ≡ present cells ++ o ∷ []
  present_pushed cells o = present_append cells (Some o ∷ [])

  module _ (test : T → Bool) (cells : List (Option T)) where
    pub moved_none : ((p : ℕ) (o : T) → get_or cells p None ≡ Some o → test o ≡ false) → present cells ≡ moved test (present cells)
    moved_none h =
        let r = none_found test cells h in
        sym (append-nil (present cells)) ∙ ap (λ (xs : List T). xs ++ []) (sym r.1)
        ∙ ap (λ (o : Option T). filter (λ o. not (test o)) (present cells) ++ option_to_list o) (sym r.0)

    pub out_none : ((p : ℕ) (o : T) → get_or cells p None ≡ Some o → test o ≡ false)
        → IsTakenOut (find test (present cells)) (present cells) (filter (λ o. not (test o)) (present cells))
    out_none h =
        let r = none_found test cells h in
        subst (λ (o : Option T). IsTakenOut o (present cells) (filter (λ o. not (test o)) (present cells))) (sym r.0) r.1

    module _ (p : ℕ) (o : T) (apart : AreApart test cells) (h : get_or cells p None ≡ Some o) (t : test o ≡ true) where
      pub moved_one : present (set cells p None ++ Some o ∷ []) ≡ moved test (present cells)
      moved_one =
          let r = one_find test cells p o apart h t in
          present_append (set cells p None) (Some o ∷ []) ∙ ap (λ (xs : List T). xs ++ o ∷ []) (sym r.1)
          ∙ ap (λ (o : Option T). filter (λ o. not (test o)) (present cells) ++ option_to_list o) (sym r.0)

      pub out_one : IsTakenOut (find test (present cells)) (present cells) (filter (λ o. not (test o)) (present cells))
      out_one =
          let r = one_find test cells p o apart h t in
          subst (λ (o : Option T). IsTakenOut o (present cells) (filter (λ o. not (test o)) (present cells))) (sym r.0)
          (subst (λ (xs : List T). IsTakenOut (Some o) (present cells) xs) (sym r.1) (taken_out cells p o h))

  -- ---- by index

  -- the item at a place is the one at the index that so many items before it give
  pub index_placed : (cells : List (Option T)) (p i : ℕ) (o : T) → length (present (take p cells)) ≡ i → get_or cells p None ≡ Some o
      → (slice_get (present cells) i ≡ Some o) × (present (set cells p None) ≡ remove (present cells) i)
  index_placed [] p i o l h = absurd (none-some o h)
  index_placed (None ∷ cells) zero i o l h = absurd (none-some o h)
  index_placed (Some x ∷ cells) zero zero o l h = (h, refl)
  index_placed (Some x ∷ cells) zero (suc i) o l h = absurd (omega (arith, l))
  index_placed (None ∷ cells) (suc p) i o l h = index_placed cells p i o l h
  index_placed (Some x ∷ cells) (suc p) zero o l h = absurd (omega (arith, l))
  index_placed (Some x ∷ cells) (suc p) (suc i) o l h =
      let r = index_placed cells p i o (omega (arith, l)) h in
      (r.0, ap (λ (ys : List T). x ∷ ys) r.1)

  -- so many items more before the next place
  pub count_item : (cells : List (Option T)) (p : ℕ) → p < length cells → is_some (get_or cells p None) ≡ true
      → length (present (take (p + 1) cells)) ≡ length (present (take p cells)) + 1
  count_item cells p l h =
      let o = item_at (get_or cells p None) h in
      ap (λ (xs : List (Option T)). length (present xs)) (take_more cells p None l ∙ ap (λ (c : Option T). take p cells ++ c ∷ []) o.1)
      ∙ ap length (present_append (take p cells) (Some o.0 ∷ [])) ∙ length_push (present (take p cells)) o.0

  pub count_gap : (cells : List (Option T)) (p : ℕ) → p < length cells → is_some (get_or cells p None) ≡ false
      → length (present (take (p + 1) cells)) ≡ length (present (take p cells))
  count_gap cells p l h =
      ap (λ (xs : List (Option T)). length (present xs)) (take_more cells p None l ∙ ap (λ (c : Option T). take p cells ++ c ∷ []) (no_item (get_or cells p None) h))
      ∙ ap length (present_append (take p cells) (None ∷ []) ∙ append-nil (present (take p cells)))

  pub count_all : (cells : List (Option T)) (p : ℕ) → length cells ≤ p → length (present (take p cells)) ≡ length (present cells)
  count_all cells p l = ap (λ (xs : List (Option T)). length (present xs)) (take_all p cells l)

  -- ---- what a walk has passed

  -- the items before its place are the first of all
  pub take_present : (cells : List (Option T)) (w : ℕ) → take (length (present (take w cells))) (present cells) ≡ present (take w cells)
  take_present [] zero = refl
  take_present [] (suc w) = refl
  take_present (c ∷ cells) zero = refl
  take_present (None ∷ cells) (suc w) = take_present cells w
  take_present (Some x ∷ cells) (suc w) = ap (λ (xs : List T). x ∷ xs) (take_present cells w)

  all_set : (P : T → Type 0) (cells : List (Option T)) (w p : ℕ) → All P (present (take w cells)) → All P (present (take w (set cells p None)))
  all_set P [] w p all = all
  all_set P (c ∷ cells) zero zero all = all
  all_set P (c ∷ cells) zero (suc p) all = all
  all_set P (None ∷ cells) (suc w) zero all = all
  all_set P (Some x ∷ cells) (suc w) zero all = All-tail P x (present (take w cells)) all
  all_set P (None ∷ cells) (suc w) (suc p) all = all_set P cells w p all
  all_set P (Some x ∷ cells) (suc w) (suc p) all =
      All-cons P x (present (take w (set cells p None))) (All-head P x (present (take w cells)) all)
      (all_set P cells w p (All-tail P x (present (take w cells)) all))

  -- what stands before the place of a walk stood before it
  abbrev pub AreBefore : List (Option T) → ℕ → List (Option T) → ℕ → Type 0
  AreBefore old w new v = All (Contains (present (take w old))) (present (take v new))

  pub before_same : (cells : List (Option T)) (w : ℕ) → AreBefore cells w cells w
  before_same cells w = All-contains_itself (present (take w cells))

  pub before_none : (old new : List (Option T)) (w : ℕ) → AreBefore old w new 0
  before_none old new w = All-nil (Contains (present (take w old)))

  pub before_set : (old mid : List (Option T)) (w v p : ℕ) → AreBefore old w mid v → AreBefore old w (set mid p None) v
  before_set old mid w v p h = all_set (Contains (present (take w old))) mid v p h

  pub before_push : (old mid : List (Option T)) (w v : ℕ) (c : Option T) → v ≤ length mid → AreBefore old w mid v → AreBefore old w (mid ++ c ∷ []) v
  before_push old mid w v c l h =
      subst (All (Contains (present (take w old)))) (ap present (sym (take-append-le v mid (c ∷ []) l))) h

  -- as rows are seen
  pub seen_before : (old new : List (Option T)) (w v s t : ℕ) → AreBefore old w new v
      → ArePassed (seen (present old) s (length (present (take w old)))) (seen (present new) t (length (present (take v new))))
  seen_before old new w v s t h =
      subst (λ (xs : List T). All (Contains xs) (take (length (present (take v new))) (present new))) (sym (take_present old w))
      (subst (All (Contains (present (take w old)))) (sym (take_present new v)) h)

  pub passed_taken : (old new : List (Option T)) (w p s : ℕ) → new ≡ set old p None
      → ArePassed (seen (present old) s (length (present (take w old)))) (seen (present new) s (length (present (take w new))))
  passed_taken old new w p s is =
      seen_before old new w w s s (subst (λ (xs : List (Option T)). AreBefore old w xs w) (sym is) (before_set old old w w p (before_same old w)))

  pub passed_moved : (old mid new : List (Option T)) (w v p s : ℕ) (o : T) → AreBefore old w mid v → v ≤ length mid → new ≡ set mid p None ++ Some o ∷ []
      → ArePassed (seen (present old) s (length (present (take w old)))) (seen (present new) s (length (present (take v new))))
  passed_moved old mid new w v p s o before l is =
      seen_before old new w v s s (subst (λ (xs : List (Option T)). AreBefore old w xs v) (sym is)
      (before_push old (set mid p None) w v (Some o) (omega (arith, l, length-set mid p None)) (before_set old mid w v p before)))

  pub passed_pushed : (old mid new : List (Option T)) (w v s t : ℕ) (o : T) → AreBefore old w mid v → v ≤ length mid → new ≡ mid ++ Some o ∷ []
      → ArePassed (seen (present old) s (length (present (take w old)))) (seen (present new) t (length (present (take v new))))
  passed_pushed old mid new w v s t o before l is =
      seen_before old new w v s t (subst (λ (xs : List (Option T)). AreBefore old w xs v) (sym is) (before_push old mid w v (Some o) l before))

  pub seen_same : (v : RowSeen T) → ArePassed v v
  seen_same v = All-contains_itself (take v.passed v.items)

  pub walk_taken : (old new : List (Option T)) (w p : ℕ) → w ≤ length old → new ≡ set old p None → w ≤ length new
  walk_taken old new w p l is = omega (arith, l, ap length is, length-set old p None)

  -- the item at this index stands at this place
  pub record IsPlace (cells : List (Option T)) (i p : ℕ) : Type 0 where
    pub before : length (present (take p cells)) ≡ i
    pub within : p < length cells
    pub there : is_some (get_or cells p None) ≡ true

  -- the item at the place that a walk comes to
  pub next_placed : (cells : List (Option T)) (w p : ℕ) → present (take p cells) ≡ present (take w cells) → p ≤ length cells
      → (p < length cells → is_some (get_or cells p None) ≡ true) → length (present (take w cells)) < length (present cells)
      → IsPlace cells (length (present (take w cells))) p
  next_placed cells w p same within there l =
      let inside : p < length cells = elim (cases_lt p (length cells)) [
        | inl m ↦ m
        | inr m ↦ absurd (omega (arith, l, count_all cells p m, ap length same))
      ] in
      record { before = ap length same; within = inside; there = there inside }

  pub none_next : (cells : List (Option T)) (w p : ℕ) → present (take p cells) ≡ present (take w cells) → length cells ≤ p
      → slice_get (present cells) (length (present (take w cells))) ≡ None
  none_next cells w p same l =
      slice_get_past (present cells) (length (present (take w cells))) (omega (arith, ap length same, count_all cells p l))

  -- what stands before a place stays when its item is taken out
  pub taken_before : (cells : List (Option T)) (p : ℕ) → present (take p (set cells p None)) ≡ present (take p cells)
  taken_before [] p = refl
  taken_before (c ∷ cells) zero = refl
  taken_before (None ∷ cells) (suc p) = taken_before cells p
  taken_before (Some x ∷ cells) (suc p) = ap (λ (xs : List T). x ∷ xs) (taken_before cells p)
