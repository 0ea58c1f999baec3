-- A pass is cut off the maker, two passes are joined, and the cell is closed.
use Rattle.std.proofs.Common.{◌≡◌, ◌≢◌, ℕ, zero, suc, ◌+◌, ◌-◌, ◌^◌, ◌<◌, List, [], ◌∷◌, ◌++◌, length, get_or, set, Contains, Option, Some, sym, refl, ap, ◌∙◌, subst, inl, inr, ⊎_elim, append-nil, length-set, length-append, arith}
use Rattle.std.proofs.lemmas.List.Elements.{All-nil, Contains-get_or, Contains-append_left, Contains-append_right, Contains-append_cases}
use mathlib.Core.Logic.{dite}
use mathlib.Core.Option as maybe
use native.Mathlib.Decide.{ℕ_discrete}
use lib.ListN.{get_elem?}
use Rattle.atomic_table.specs.Table.{State, Splits, Joins, Seen, Final, opening}
use Rattle.atomic_table.proofs.Lists.{at_set, set_here, set_else, at_longer, at_last}
use Rattle.turn_cell.specs.declared.view.View.{View}
use Rattle.turn_cell.specs.declared.view.Stage.TheVariants.{Making, Resting, Serving}
use Rattle.turn_cell.specs.History.{numbers_from, NoneOf, AllBelow}
use Rattle.turn_cell.specs.View.{maker, maker_with, without_first, with_first, joined, spent}
use Rattle.turn_cell.specs.Rule.{tickets, IsServed, IsFree, Fits, Kept}
use Rattle.turn_cell.proofs.Histories.{inside, same_at, snoc_cases, head_in, tail_in, cons_cases, none_in, update, replaced, numbers_from-at_least, numbers_from-below, numbers_from-has, length-numbers_from, others_none, all_right, longer_of}
use Rattle.turn_cell.proofs.Views.{tickets-push, tickets-set_at, at_seats}
use Rattle.turn_cell.proofs.Steps.{stage_at, same_slot}

module _ {V E : Type 0} (stands : V → List (ℕ × E) → Type 0) (passes : ℕ) where
  abbrev S : Type 0
  S = State (Option V) (View E)

  abbrev H : Type 0
  H = List (ℕ × E)

  abbrev K : S → Type 0
  K = Kept stands passes

  -- A new pass is cut off the maker, with the maker's first number.
  cuts_at : (id p x m : ℕ) → Splits K id (maker_with p (numbers_from x (suc m))) (maker_with p (numbers_from (x + 1) m)) (with_first (maker_with p (numbers_from x (suc m))))
  cuts_at id p x m s r at =
      let xs = numbers_from (x + 1) m in
      let v : View E = maker_with p (x ∷ xs) in
      let w : View E = maker_with p xs in
      let u : View E = with_first v in
      let new = length s.views in
      let f = r.each_seat id v at in
      let st = f.stage in
      let views = set s.views id w in
      let in_place = inside s.views id v at in
      let long : length views ≡ new = length-set s.views id w in
      let longer_by : length (views ++ u ∷ []) ≡ new + 1 = omega (arith, length-append views (u ∷ [])) in
      let first_seat = st.0 in
      let room = st.1 in
      let here : get_elem? (views ++ u ∷ []) id ≡ maybe.some w = at_longer views (u ∷ []) id w (set_here s.views id w in_place) in
      let there : get_elem? (views ++ u ∷ []) new ≡ maybe.some u = at_last views u new long in
      let kept_at : (j : ℕ) (y : View E) → j ≢ id → get_elem? s.views j ≡ maybe.some y → get_elem? (views ++ u ∷ []) j ≡ maybe.some y = λ j y ne e. at_longer views (u ∷ []) j y (set_else s.views id j w ne ∙ e) in
      let to = update r.owner x new in
      let mine = f.numbers x (head_in x xs) in
      let same_count : tickets views + 0 ≡ tickets s.views + 0 = tickets-set_at s.views id v w Making at refl in
      let pushed = tickets-push views u in
      let count = r.counted in
      let new_fits : Fits passes r.served r.drawn (new + 1) r.log to.0 r.holder new u = record {
        knows_passes = λ _. f.knows_passes (omega arith);
        numbers = λ y c. ⊎_elim (λ (e : x ≡ y). subst (λ (z : ℕ). (z < passes) × (to.0 z ≡ new)) e (mine.0, to.1)) (λ c'. absurd (none_in y c')) (cons_cases x [] y c);
        ticket = λ k e. absurd e;
        begins = (f.begins.0, f.begins.1, (λ i d lt c. f.begins.2 i d lt (⊎_elim (λ (e : x ≡ (get_or f.begins.0 i d).0). subst (λ (z : ℕ). Contains (x ∷ xs) z) e (head_in x xs)) (λ c'. absurd (none_in _ c')) (cons_cases x [] _ c))));
        stage = tt;
      } in
      let maker_fits : Fits passes r.served r.drawn (new + 1) r.log to.0 r.holder id w = record {
        knows_passes = λ lt. f.knows_passes (omega arith);
        numbers = λ y c. let more = numbers_from-at_least (x + 1) m y c in let n = f.numbers y (tail_in x xs y c) in (n.0, to.2 y (omega arith) ∙ n.1);
        ticket = λ k e. absurd e;
        begins = (f.begins.0, f.begins.1, (λ i d lt c. f.begins.2 i d lt (tail_in x xs _ c)));
        stage = (first_seat, omega arith, refl, (x + 1, ap (λ k. numbers_from (x + 1) k) (sym (length-numbers_from (x + 1) m))));
      } in
      let others : (j : ℕ) (y : View E) → j ≢ id → get_elem? s.views j ≡ maybe.some y → Fits passes r.served r.drawn (new + 1) r.log to.0 r.holder j y = λ j y ne e. let g = r.each_seat j y e in record {
        knows_passes = g.knows_passes;
        numbers = λ z c. let n = g.numbers z c in (n.0, to.2 z (λ same. ne (sym n.1 ∙ (ap r.owner same ∙ mine.1))) ∙ n.1);
        ticket = g.ticket;
        begins = g.begins;
        stage = at_seats passes r.served r.drawn new r.log j y y.stage (new + 1) g.stage (λ z. ne (z ∙ sym first_seat));
      } in
      let reader = r.seen_by in
      let seen : (i : ℕ) × (y : View E) × (get_elem? (views ++ u ∷ []) i ≡ maybe.some y) × (y.seen ≡ r.log) = dite (ℕ_discrete r.longest id)
      (λ e. (id, w, here, ap (λ (z : View E). z.seen) (same_at s.views id r.longest v reader.0 at reader.1 (sym e)) ∙ reader.2))
      (λ ne. (r.longest, reader.0, kept_at r.longest reader.0 ne reader.1, reader.2)) in
      record {
        served = r.served;
        drawn = r.drawn;
        log = r.log;
        owner = to.0;
        holder = r.holder;
        longest = seen.0;
        words = r.words;
        counted = omega arith;
        few_seats = omega arith;
        few_passes = r.few_passes;
        made = r.made;
        each_seat = λ j y e. subst (λ (n : ℕ). Fits passes r.served r.drawn n r.log to.0 r.holder j y) (sym longer_by) (⊎_elim
            (λ (t : get_elem? views j ≡ maybe.some y). ⊎_elim
            (λ (h : (j ≡ id) × (w ≡ y)). subst (λ (z : ℕ × View E). Fits passes r.served r.drawn (new + 1) r.log to.0 r.holder z.0 z.1) (λ i. (sym h.0 i, h.1 i)) maker_fits)
            (λ (h : (j ≢ id) × (get_elem? s.views j ≡ maybe.some y)). others j y h.0 h.1)
            (at_set s.views id j w y t))
            (λ (t : (j ≡ length views) × (u ≡ y)). subst (λ (z : ℕ × View E). Fits passes r.served r.drawn (new + 1) r.log to.0 r.holder z.0 z.1) (λ i. (sym (t.0 ∙ long) i, t.1 i)) new_fits)
            (snoc_cases views u y j e));
        each_number = λ y lt. let o = r.each_number y lt in dite (ℕ_discrete x y)
            (λ (e : x ≡ y). (u, ap (λ (j : ℕ). get_elem? (views ++ u ∷ []) j) (ap to.0 (sym e) ∙ to.1) ∙ there, subst (λ (z : ℕ). Contains (x ∷ []) z) e (head_in x [])))
            (λ (ne : x ≢ y). let stays = to.2 y (λ z. ne (sym z)) in dite (ℕ_discrete (r.owner y) id)
            (λ e. let is_v : o.0 ≡ v = same_at s.views (r.owner y) id o.0 v o.1 at e in
            (w, ap (λ (j : ℕ). get_elem? (views ++ u ∷ []) j) (stays ∙ e) ∙ here, ⊎_elim (λ z. absurd (ne z)) (λ c. c) (cons_cases x xs y (subst (λ (l : List ℕ). Contains l y) (ap (λ (z : View E). z.numbers) is_v) o.2))))
            (λ other. (o.0, ap (λ (j : ℕ). get_elem? (views ++ u ∷ []) j) stays ∙ kept_at (r.owner y) o.0 other o.1, o.2)));
        seen_by = (seen.1, seen.2, seen.3);
        slot = ⊎_elim
            (λ (t : IsServed s.views × (s.homes ≡ maybe.none ∷ [])). let z = t.0 in
            inl ((z.0, z.1, z.2, kept_at z.0 z.1 (λ e. let no : Making ≡ Serving z.2 = ap (λ (q : View E). q.stage) (same_at s.views id z.0 v z.1 at z.3 (sym e)) ∙ z.4 in cc) z.3, z.4), t.1))
            (λ (t : IsFree s.views × ((y : V) × (s.homes ≡ maybe.some (Some y) ∷ []) × stands y r.log)).
            inr (
              (λ j y k e is. ⊎_elim
                  (λ (h : get_elem? views j ≡ maybe.some y). ⊎_elim
                  (λ (q : (j ≡ id) × (w ≡ y)). let no : Making ≡ Serving k = ap (λ (z : View E). z.stage) q.1 ∙ is in cc)
                  (λ (q : (j ≢ id) × (get_elem? s.views j ≡ maybe.some y)). t.0 j y k q.1 is)
                  (at_set s.views id j w y h))
                  (λ (h : (j ≡ length views) × (u ≡ y)). let no : Resting ≡ Serving k = ap (λ (z : View E). z.stage) h.1 ∙ is in cc)
                  (snoc_cases views u y j e)),
              t.1,
            ))
            r.slot;
      }

  pub cuts : (id : ℕ) (v : View E) (p x m : ℕ) → v ≡ maker_with p (numbers_from x (suc m)) → Splits K id v (without_first v) (with_first v)
  cuts id v p x m is = subst (λ (z : View E). Splits K id z (without_first z) (with_first z)) (sym is) (cuts_at id p x m)

  -- the longer of two beginnings is the whole, where one of them is
  whole : (a both log o p : H) → a ≡ log → both ≡ a ++ o → log ≡ both ++ p → both ≡ log
  whole a both log o [] is e f = sym (f ∙ append-nil both)
  whole a both log o (x ∷ p) is e f =
      let l : length a ≡ length log = ap length is in
      let m : length both ≡ length (a ++ o) = ap length e in
      let n : length log ≡ length (both ++ x ∷ p) = ap length f in
      absurd (omega (arith, length-append a o, length-append both (x ∷ p)))

  -- A seat takes in another.
  pub joins : (id : ℕ) (v : View E) (other : ℕ) (w : View E) → v.stage ≡ Resting → w.stage ≡ Resting → 0 < length v.numbers → Joins K id v other w (joined v w) spent
  joins id v other w v_rests w_rests own s r at apart at_both =
      let both : View E = joined v w in
      let gone : View E = spent in
      let at' : get_elem? s.views other ≡ maybe.some w = sym (set_else s.views id other both apart) ∙ at_both in
      let f = r.each_seat id v at in
      let g = r.each_seat other w at' in
      let first = set s.views id both in
      let views = set first other gone in
      let apart' : id ≢ other = λ e. apart (sym e) in
      let long_first : length first ≡ length s.views = length-set s.views id both in
      let long : length views ≡ length s.views = length-set first other gone ∙ long_first in
      let here : get_elem? views id ≡ maybe.some both = set_else first other id gone apart' ∙ set_here s.views id both (inside s.views id v at) in
      let kept_at : (j : ℕ) (y : View E) → j ≢ id → j ≢ other → get_elem? s.views j ≡ maybe.some y → get_elem? views j ≡ maybe.some y = λ j y n m e. set_else first other j gone m ∙ (set_else s.views id j both n ∙ e) in
      let to = replaced r.owner other id in
      let both_seen = longer_of v.numbers w.numbers v.seen w.seen r.log f.begins g.begins in
      let c1 : tickets first + 0 ≡ tickets s.views + 0 = tickets-set_at s.views id v both Resting at v_rests in
      let c2 : tickets views + 0 ≡ tickets first + 0 = tickets-set_at first other w gone Resting at_both w_rests in
      let count = r.counted in
      let both_fits : Fits passes r.served r.drawn (length s.views) r.log to.0 r.holder id both = record {
        knows_passes = λ _. f.knows_passes own;
        numbers = λ x c. ⊎_elim
            (λ (h : Contains v.numbers x). let n = f.numbers x h in (n.0, to.2 x (λ e. apart' (sym n.1 ∙ e)) ∙ n.1))
            (λ (h : Contains w.numbers x). let n = g.numbers x h in (n.0, to.1 x n.1))
            (Contains-append_cases v.numbers w.numbers x c);
        ticket = λ k e. absurd e;
        begins = both_seen.2;
        stage = (both_seen.0, both_seen.1);
      } in
      let gone_fits : Fits passes r.served r.drawn (length s.views) r.log to.0 r.holder other gone = record {
        knows_passes = λ lt. absurd (omega arith);
        numbers = λ x c. absurd (none_in x c);
        ticket = λ k e. absurd e;
        begins = (r.log, refl, (λ i d lt c. none_in _ c));
        stage = tt;
      } in
      let others : (j : ℕ) (y : View E) → j ≢ id → j ≢ other → get_elem? s.views j ≡ maybe.some y → Fits passes r.served r.drawn (length s.views) r.log to.0 r.holder j y = λ j y n m e. let h = r.each_seat j y e in record {
        knows_passes = h.knows_passes;
        numbers = λ x c. let z = h.numbers x c in (z.0, to.2 x (λ q. m (sym z.1 ∙ q)) ∙ z.1);
        ticket = h.ticket;
        begins = h.begins;
        stage = h.stage;
      } in
      let reader = r.seen_by in
      let seen : (i : ℕ) × (y : View E) × (get_elem? views i ≡ maybe.some y) × (y.seen ≡ r.log) = dite (ℕ_discrete r.longest other)
      (λ e. (id, both, here, whole w.seen both.seen r.log both_seen.1.0 both_seen.2.0 (ap (λ (z : View E). z.seen) (same_at s.views other r.longest w reader.0 at' reader.1 (sym e)) ∙ reader.2) both_seen.1.1 both_seen.2.1))
      (λ ne. dite (ℕ_discrete r.longest id)
      (λ e. (id, both, here, whole v.seen both.seen r.log both_seen.0.0 both_seen.2.0 (ap (λ (z : View E). z.seen) (same_at s.views id r.longest v reader.0 at reader.1 (sym e)) ∙ reader.2) both_seen.0.1 both_seen.2.1))
      (λ n. (r.longest, reader.0, kept_at r.longest reader.0 n ne reader.1, reader.2))) in
      record {
        served = r.served;
        drawn = r.drawn;
        log = r.log;
        owner = to.0;
        holder = r.holder;
        longest = seen.0;
        words = r.words;
        counted = omega arith;
        few_seats = let few = r.few_seats in omega arith;
        few_passes = r.few_passes;
        made = r.made;
        each_seat = λ j y e. subst (λ (n : ℕ). Fits passes r.served r.drawn n r.log to.0 r.holder j y) (sym long) (⊎_elim
            (λ (t : (j ≡ other) × (gone ≡ y)). subst (λ (z : ℕ × View E). Fits passes r.served r.drawn (length s.views) r.log to.0 r.holder z.0 z.1) (λ i. (sym t.0 i, t.1 i)) gone_fits)
            (λ (t : (j ≢ other) × (get_elem? first j ≡ maybe.some y)). ⊎_elim
            (λ (h : (j ≡ id) × (both ≡ y)). subst (λ (z : ℕ × View E). Fits passes r.served r.drawn (length s.views) r.log to.0 r.holder z.0 z.1) (λ i. (sym h.0 i, h.1 i)) both_fits)
            (λ (h : (j ≢ id) × (get_elem? s.views j ≡ maybe.some y)). others j y h.0 t.0 h.1)
            (at_set s.views id j both y t.1))
            (at_set first other j gone y e));
        each_number = λ x lt. let o = r.each_number x lt in dite (ℕ_discrete (r.owner x) other)
            (λ (e : r.owner x ≡ other). let is_w : o.0 ≡ w = same_at s.views (r.owner x) other o.0 w o.1 at' e in
            (both, ap (λ (j : ℕ). get_elem? views j) (to.1 x e) ∙ here, Contains-append_right v.numbers w.numbers x (subst (λ (l : List ℕ). Contains l x) (ap (λ (z : View E). z.numbers) is_w) o.2)))
            (λ (ne : r.owner x ≢ other). let stays = to.2 x ne in dite (ℕ_discrete (r.owner x) id)
            (λ e. let is_v : o.0 ≡ v = same_at s.views (r.owner x) id o.0 v o.1 at e in
            (both, ap (λ (j : ℕ). get_elem? views j) (stays ∙ e) ∙ here, Contains-append_left v.numbers w.numbers x (subst (λ (l : List ℕ). Contains l x) (ap (λ (z : View E). z.numbers) is_v) o.2)))
            (λ n. (o.0, ap (λ (j : ℕ). get_elem? views j) stays ∙ kept_at (r.owner x) o.0 n ne o.1, o.2)));
        seen_by = (seen.1, seen.2, seen.3);
        slot = same_slot stands passes r.log s.homes first other w gone at_both (λ k e. let no : Resting ≡ Serving k = sym w_rests ∙ e in cc) (λ k e. cc)
            (same_slot stands passes r.log s.homes s.views id v both at (λ k e. let no : Resting ≡ Serving k = sym v_rests ∙ e in cc) (λ k e. cc) r.slot);
      }

  -- entries that are all below and of no number below are none
  nothing_else : (numbers : List ℕ) (es : H) → ((x : ℕ) → x < passes → Contains numbers x) → AllBelow passes es → NoneOf numbers es → es ≡ []
  nothing_else numbers [] all below none = refl
  nothing_else numbers (e ∷ es) all below none = absurd (none 0 e (omega arith) (all e.0 (below 0 e (omega arith))))

  -- Where a resting pass has all numbers, nobody has the turn, and the value stands for what the pass has seen.
  pub closes : (id : ℕ) (v : View E) (s : S) → Seen K id v s → v.stage ≡ Resting → ((x : ℕ) → x < passes → Contains v.numbers x) → (x : V) × (s.homes ≡ maybe.some (Some x) ∷ []) × stands x v.seen
  closes id v s seen rest all =
      let r = seen.0 in
      let at = seen.1 in
      let f = r.each_seat id v at in
      ⊎_elim
      (λ (t : IsServed s.views × (s.homes ≡ maybe.none ∷ [])). let z = t.0 in
      let st = stage_at stands passes s r z.0 z.1 (Serving z.2) z.3 z.4 in
      let x = get_or z.1.numbers 0 0 in
      let theirs = (r.each_seat z.0 z.1 z.3).numbers x (Contains-get_or z.1.numbers 0 0 st.2) in
      let mine = f.numbers x (all x theirs.0) in
      let no : Resting ≡ Serving z.2 = sym rest ∙ (ap (λ (q : View E). q.stage) (same_at s.views id z.0 v z.1 at z.3 (sym mine.1 ∙ theirs.1)) ∙ z.4) in
      cc)
      (λ (t : IsFree s.views × ((y : V) × (s.homes ≡ maybe.some (Some y) ∷ []) × stands y r.log)).
      let others = f.begins.0 in
      let made : AllBelow passes (v.seen ++ others) = subst (AllBelow passes) f.begins.1 r.made in
      let none : others ≡ [] = nothing_else v.numbers others all (all_right (λ (e : ℕ × E). e.0 < passes) v.seen others made) f.begins.2 in
      let log : r.log ≡ v.seen = f.begins.1 ∙ (ap (λ (z : H). v.seen ++ z) none ∙ append-nil v.seen) in
      (t.1.0, t.1.1, subst (stands t.1.0) log t.1.2))
      r.slot

  -- the value that such a cell is closed with
  pub closed_value : (id : ℕ) (v : View E) (words : List ℕ) (slots : List (Option V)) (y : Option V) → Final (Seen K id v) words slots → get_elem? slots 0 ≡ maybe.some y → v.stage ≡ Resting → ((x : ℕ) → x < passes → Contains v.numbers x)
      → (x : V) × (y ≡ Some x) × stands x v.seen
  closed_value id v words slots y final at rest all =
      let t = closes id v final.0 final.1 rest all in
      (t.0, maybe.some-injective y (Some t.0) (sym at ∙ final.4 0 (Some t.0) (ap (λ (hs : List (maybe.Option (Option V))). get_elem? hs 0) t.1)), t.2)

  -- what the rule says of the first seat
  opens_with : (id : ℕ) (v : View E) → get_elem? (maker passes ∷ []) id ≡ maybe.some v → Fits passes 0 0 1 [] (λ _. 0) (λ _. 0) id v
  opens_with zero v e = subst (λ (z : View E). Fits passes 0 0 1 [] (λ _. 0) (λ _. 0) 0 z) (maybe.some-injective (maker passes) v e) record {
    knows_passes = λ _. refl;
    numbers = λ x c. (let lt = numbers_from-below 0 passes x c in omega arith, refl);
    ticket = λ k h. absurd h;
    begins = others_none (numbers_from 0 passes) [];
    stage = (refl, (let n = length-numbers_from 0 passes in omega arith), refl, (0, ap (λ (k : ℕ). numbers_from 0 k) (sym (length-numbers_from 0 passes))));
  }
  opens_with (suc id) v e = absurd (maybe.some-ne-none v (sym e))

  no_turn : (id : ℕ) (v : View E) (k : ℕ) → get_elem? (maker passes ∷ []) id ≡ maybe.some v → v.stage ≡ Serving k → ⊥
  no_turn zero v k e is = let no : Making ≡ Serving k = ap (λ (z : View E). z.stage) (maybe.some-injective (maker passes) v e) ∙ is in cc
  no_turn (suc id) v k e is = absurd (maybe.some-ne-none v (sym e))

  -- The rule holds at the start.
  pub opens : (x : V) → passes < 2 ^ 32 → stands x [] → K (opening (0 ∷ 0 ∷ []) (Some x ∷ []) (maker passes))
  opens x small st = record {
    served = 0;
    drawn = 0;
    log = [];
    owner = λ _. 0;
    holder = λ _. 0;
    longest = 0;
    words = refl;
    counted = refl;
    few_seats = omega arith;
    few_passes = small;
    made = All-nil (λ (e : ℕ × E). e.0 < passes);
    each_seat = opens_with;
    each_number = λ y lt. (maker passes, refl, numbers_from-has 0 passes y (omega arith) (omega arith));
    seen_by = (maker passes, refl, refl);
    slot = inr ((λ id v k e is. no_turn id v k e is), (x, refl, st));
  }

module _ {E : Type 0} where
  abbrev With : ℕ → List ℕ → View E
  With = maker_with

  -- what the maker has, as long as a number is left
  pub maker_left : (v : View E) (p x : ℕ) → x < p → v ≡ maker_with p (numbers_from x (p - x)) → v ≡ maker_with p (numbers_from x (suc (p - (x + 1))))
  maker_left v p x lt is = is ∙ ap (λ (m : ℕ). With p (numbers_from x m)) (let e : p - x ≡ suc (p - (x + 1)) = omega arith in e)
