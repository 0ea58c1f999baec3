-- Each step of a seat keeps the rule.
use Rattle.std.proofs.Common.{◌≡◌, ◌≢◌, ℕ, ◌+◌, ◌%◌, ◌^◌, ◌<◌, List, [], ◌∷◌, ◌++◌, length, get_or, set, Contains, Option, Some, sym, refl, ap, ◌∙◌, subst, inl, inr, ⊎_elim, length-set, arith}
use Rattle.std.proofs.lemmas.List.Elements.{All-append, All-weaker}
use Rattle.std.proofs.Math.Nat.{mod-add-mod}
use mathlib.Core.Logic.{dite}
use mathlib.Core.Option as maybe
use native.Mathlib.Decide.{ℕ_discrete}
use lib.ListN.{get_elem?}
use lib.Seq.{set-get_or}
use Rattle.atomic_table.specs.Table.{State, Me, Step, step, Act, keeps, takes, gives, Valid, carried_after, stepped, Allows}
use Rattle.atomic_table.proofs.Lists.{at_set, set_here, set_else, set_again, one_turn}
use Rattle.turn_cell.specs.declared.view.View.{View}
use Rattle.turn_cell.specs.declared.view.Stage.{Stage}
use Rattle.turn_cell.specs.declared.view.Stage.TheVariants.{Resting, Waiting, Serving, Joined}
use Rattle.turn_cell.specs.History.{NoneOf, AllOf, AllBelow, FollowedByOthers, FollowedByOwn}
use Rattle.turn_cell.specs.View.{at_stage, having_seen}
use Rattle.turn_cell.specs.Rule.{HasTicket, tickets, IsServed, IsFree, IsAt, Fits, Slot, Kept}
use Rattle.turn_cell.specs.Plays.{drew, Gets, looked, passed_on, learned}
use Rattle.turn_cell.proofs.Histories.{all_left, inside, same_at, update, others_none, others_more}
use Rattle.turn_cell.proofs.Views.{tickets-le, tickets-set_at, NotServing, ticket_below, at_drawn, at_next}

-- what a step tells does not name the step
abbrev pub any_step : {S : Type 0} → Step S
any_step = step 0 0 0 0 maybe.none

module _ {V E : Type 0} (stands : V → List (ℕ × E) → Type 0) (passes : ℕ) where
  abbrev S : Type 0
  S = State (Option V) (View E)

  abbrev H : Type 0
  H = List (ℕ × E)

  abbrev K : S → Type 0
  K = Kept stands passes

  -- what a seat's stage says, at a stage that it is known to be in
  pub stage_at : (s : S) (r : K s) (id : ℕ) (v : View E) (st : Stage E) → get_elem? s.views id ≡ maybe.some v → v.stage ≡ st → IsAt passes r.served r.drawn (length s.views) r.log id v st
  stage_at s r id v st at is = subst (λ (z : Stage E). IsAt passes r.served r.drawn (length s.views) r.log id v z) is (r.each_seat id v at).stage

  pub holder_at : (s : S) (r : K s) (id : ℕ) (v : View E) (st : Stage E) (k : ℕ) → get_elem? s.views id ≡ maybe.some v → v.stage ≡ st → HasTicket st k → r.holder k ≡ id
  holder_at s r id v st k at is h = (r.each_seat id v at).ticket k (subst (λ (z : Stage E). HasTicket z k) (sym is) h)

  -- a seat that has the turn is the only one
  pub served_is : (s : S) (r : K s) (id : ℕ) (v : View E) (st : Stage E) → get_elem? s.views id ≡ maybe.some v → v.stage ≡ st → HasTicket st r.served
      → (j : ℕ) (u : View E) (k : ℕ) → get_elem? s.views j ≡ maybe.some u → u.stage ≡ Serving k → j ≡ id
  served_is s r id v st at is h j u k at' is' =
      let now = stage_at s r j u (Serving k) at' is' in
      let mine = holder_at s r id v st r.served at is h in
      let theirs = holder_at s r j u (Serving k) r.served at' is' now.0 in
      sym theirs ∙ mine

  abbrev Reader : List (View E) → H → Type 0
  Reader views log = (i : ℕ) × (v : View E) × (get_elem? views i ≡ maybe.some v) × (v.seen ≡ log)

  -- The seat `id` steps: its numbers stay, and what the rule says of the seats holds of it and of the others.
  one_step : (s : S) (r : K s) (id : ℕ) (v w : View E) (words : List ℕ) (homes : List (maybe.Option (Option V))) (served drawn : ℕ) (log : H) (holder : ℕ → ℕ)
      → get_elem? s.views id ≡ maybe.some v → w.numbers ≡ v.numbers
      → words ≡ (drawn % 2 ^ 64) ∷ (served % 2 ^ 64) ∷ []
      → drawn ≡ served + tickets (set s.views id w)
      → AllBelow passes log
      → Fits passes served drawn (length s.views) log r.owner holder id w
      → ((j : ℕ) (u : View E) → j ≢ id → get_elem? s.views j ≡ maybe.some u → Fits passes served drawn (length s.views) log r.owner holder j u)
      → Reader (set s.views id w) log
      → Slot stands log homes (set s.views id w)
      → K record { words = words; homes = homes; views = set s.views id w }
  one_step s r id v w words homes served drawn log holder at same is count made mine others reader slot =
      let here : get_elem? (set s.views id w) id ≡ maybe.some w = set_here s.views id w (inside s.views id v at) in
      let long : length (set s.views id w) ≡ length s.views = length-set s.views id w in
      let few = r.few_seats in
      record {
        served = served;
        drawn = drawn;
        log = log;
        owner = r.owner;
        holder = holder;
        longest = reader.0;
        words = is;
        counted = count;
        few_seats = omega arith;
        few_passes = r.few_passes;
        made = made;
        each_seat = λ j u at'. subst (λ (n : ℕ). Fits passes served drawn n log r.owner holder j u) (sym long)
            (⊎_elim
            (λ (t : (j ≡ id) × (w ≡ u)). subst (λ (x : ℕ × View E). Fits passes served drawn (length s.views) log r.owner holder x.0 x.1) (λ i. (sym t.0 i, t.1 i)) mine)
            (λ (t : (j ≢ id) × (get_elem? s.views j ≡ maybe.some u)). others j u t.0 t.1)
            (at_set s.views id j w u at'));
        each_number = λ x lt. let o = r.each_number x lt in
            dite (ℕ_discrete (r.owner x) id)
            (λ e. (w, ap (λ (j : ℕ). get_elem? (set s.views id w) j) e ∙ here, subst (λ (l : List ℕ). Contains l x) (ap (λ (z : View E). z.numbers) (same_at s.views (r.owner x) id o.0 v o.1 at e) ∙ sym same) o.2))
            (λ ne. (o.0, set_else s.views id (r.owner x) w ne ∙ o.1, o.2));
        seen_by = (reader.1, reader.2, reader.3);
        slot = slot;
      }

  -- the longest that was seen stays, where the step leaves what its seat has seen
  same_reader : (s : S) (r : K s) (id : ℕ) (v w : View E) → get_elem? s.views id ≡ maybe.some v → w.seen ≡ v.seen → Reader (set s.views id w) r.log
  same_reader s r id v w at same =
      let o = r.seen_by in
      dite (ℕ_discrete r.longest id)
      (λ e. (id, w, set_here s.views id w (inside s.views id v at), same ∙ (ap (λ (z : View E). z.seen) (same_at s.views id r.longest v o.0 at o.1 (sym e)) ∙ o.2)))
      (λ ne. (r.longest, o.0, set_else s.views id r.longest w ne ∙ o.1, o.2))

  -- the slot stays, where the step's seat neither had the turn nor gets it
  pub same_slot : (log : H) (homes : List (maybe.Option (Option V))) (views : List (View E)) (id : ℕ) (v w : View E) → get_elem? views id ≡ maybe.some v → NotServing v.stage → NotServing w.stage
      → Slot stands log homes views → Slot stands log homes (set views id w)
  same_slot log homes views id v w at before after = ⊎_elim
      (λ (t : IsServed views × (homes ≡ maybe.none ∷ [])). let z = t.0 in
      inl ((z.0, z.1, z.2, set_else views id z.0 w (λ e. before z.2 (ap (λ (x : View E). x.stage) (same_at views id z.0 v z.1 at z.3 (sym e)) ∙ z.4)) ∙ z.3, z.4), t.1))
      (λ (t : IsFree views × ((x : V) × (homes ≡ maybe.some (Some x) ∷ []) × stands x log)).
      inr ((λ j u k at' is. ⊎_elim (λ (h : (j ≡ id) × (w ≡ u)). after k (ap (λ (x : View E). x.stage) h.1 ∙ is)) (λ (h : (j ≢ id) × (get_elem? views j ≡ maybe.some u)). t.0 j u k h.1 is) (at_set views id j w u at')), t.1))

  -- nothing changes
  unmoved : (s : S) → K s → (id : ℕ) (v : View E) (cs : List (ℕ × Option V)) (i : ℕ) → get_elem? s.views id ≡ maybe.some v → K (stepped s i (get_or s.words i 0) id cs v keeps)
  unmoved s r id v cs i at = subst K (λ j. record { words = sym (set-get_or s.words i 0) j; homes = s.homes; views = sym (set_again s.views id v at) j }) r

  drawn_word : (s : S) (r : K s) → get_or s.words 0 0 ≡ r.drawn % 2 ^ 64
  drawn_word s r = ap (λ (ws : List ℕ). get_or ws 0 0) r.words

  served_word : (s : S) (r : K s) → get_or s.words 1 0 ≡ r.served % 2 ^ 64
  served_word s r = ap (λ (ws : List ℕ). get_or ws 1 0) r.words

  -- A seat draws a ticket.
  pub draws : (slots id : ℕ) (v : View E) (cs : List (ℕ × Option V)) → v.stage ≡ Resting → 0 < length v.numbers
      → Allows K slots id (v, cs) 0 (λ n. (n + 1) % 2 ^ 64) (drew any_step (v, cs))
  draws slots id v cs rest own s r len at below =
      let k = r.drawn in
      let w : View E = at_stage (Waiting k) v in
      let f = r.each_seat id v at in
      let to = update r.holder k id in
      let more : tickets (set s.views id w) + 0 ≡ tickets s.views + 1 = tickets-set_at s.views id v w Resting at rest in
      let count = r.counted in
      let count' : k + 1 ≡ r.served + tickets (set s.views id w) = omega arith in
      let words : set s.words 0 ((get_or s.words 0 0 + 1) % 2 ^ 64) ≡ ((k + 1) % 2 ^ 64) ∷ (r.served % 2 ^ 64) ∷ [] =
      ap (λ (ws : List ℕ). set ws 0 ((get_or ws 0 0 + 1) % 2 ^ 64)) r.words ∙ ap (λ (n : ℕ). n ∷ (r.served % 2 ^ 64) ∷ []) (mod-add-mod k (2 ^ 64) 1) in
      let mine : Fits passes r.served (k + 1) (length s.views) r.log r.owner to.0 id w = record {
        knows_passes = f.knows_passes;
        numbers = f.numbers;
        ticket = λ t e. subst (λ (x : ℕ). to.0 x ≡ id) e to.1;
        begins = f.begins;
        stage = (omega arith, omega arith, own);
      } in
      let others : (j : ℕ) (u : View E) → j ≢ id → get_elem? s.views j ≡ maybe.some u → Fits passes r.served (k + 1) (length s.views) r.log r.owner to.0 j u = λ j u ne at'. let g = r.each_seat j u at' in record {
        knows_passes = g.knows_passes;
        numbers = g.numbers;
        ticket = λ t h. let lt : t < k = ticket_below passes r.served k (length s.views) r.log j u u.stage g.stage t h in to.2 t (omega arith) ∙ g.ticket t h;
        begins = g.begins;
        stage = at_drawn passes r.served k (length s.views) r.log j u u.stage g.stage;
      } in (
        w,
        keeps,
        tt,
        one_step s r id v w (set s.words 0 ((get_or s.words 0 0 + 1) % 2 ^ 64)) s.homes r.served (k + 1) r.log to.0 at refl words count' r.made mine others (same_reader s r id v w at refl)
            (same_slot r.log s.homes s.views id v w at (λ t e. let no : Resting ≡ Serving t = sym rest ∙ e in cc) (λ t e. cc) r.slot),
        (k, drawn_word s r, refl),
      )

  -- a waiting seat whose ticket has the remainder of the ticket served is served
  its_turn : (s : S) (r : K s) (id : ℕ) (v : View E) (k : ℕ) → get_elem? s.views id ≡ maybe.some v → v.stage ≡ Waiting k → get_or s.words 1 0 ≡ k % 2 ^ 64 → r.served ≡ k
  its_turn s r id v k at is found =
      let st = stage_at s r id v (Waiting k) at is in
      let le = st.0 in
      let lt = st.1 in
      let count = r.counted in
      let few = r.few_seats in
      let small : passes < 4294967296 = r.few_passes in
      let most = tickets-le s.views in
      one_turn r.served k 18446744073709551616 le (omega arith) (sym (served_word s r) ∙ found)

  -- where a waiting seat is served, nobody has the turn
  free_at : (s : S) (r : K s) (id : ℕ) (v : View E) → get_elem? s.views id ≡ maybe.some v → v.stage ≡ Waiting r.served → IsFree s.views
  free_at s r id v at is j u k at' is' =
      let e = served_is s r id v (Waiting r.served) at is refl j u k at' is' in
      let no : Waiting r.served ≡ Serving k = sym is ∙ (ap (λ (x : View E). x.stage) (same_at s.views id j v u at at' (sym e)) ∙ is') in
      cc

  -- the slot of a waiting seat that is served
  full_at : (s : S) (r : K s) → IsFree s.views → (x : V) × (s.homes ≡ maybe.some (Some x) ∷ []) × stands x r.log
  full_at s r free = ⊎_elim (λ (t : IsServed s.views × (s.homes ≡ maybe.none ∷ [])). let z = t.0 in absurd (free z.0 z.1 z.2 z.3 z.4)) (λ (t : IsFree s.views × ((x : V) × (s.homes ≡ maybe.some (Some x) ∷ []) × stands x r.log)). t.1) r.slot

  -- the numbers of a seat that has some are those of the cell
  knows : (s : S) (r : K s) (id : ℕ) (v : View E) → get_elem? s.views id ≡ maybe.some v → 0 < length v.numbers → (es : H) → AllBelow passes es → AllBelow v.passes es
  knows s r id v at own es below = subst (λ (n : ℕ). AllBelow n es) (sym ((r.each_seat id v at).knows_passes own)) below

  abbrev IsSame : Me (Option V) (View E) → Me (Option V) (View E) → Type 0
  IsSame m m' = m' ≡ m

  Looks : (id slots : ℕ) (v : View E) (k : ℕ) (s : S) → Type 0
  Looks id slots v k s = (w : View E) × (a : Act (Option V)) × Valid s.homes [] a × K (stepped s 1 (get_or s.words 1 0) id [] w a)
      × (get_or s.words 1 0 ≡ k % 2 ^ 64 → Gets stands k (v, []) (w, carried_after [] a)) × (get_or s.words 1 0 ≢ k % 2 ^ 64 → IsSame (v, []) (w, carried_after [] a))

  -- A seat looks, and its ticket is served.
  gets : (id slots : ℕ) (v : View E) (k : ℕ) (s : S) (r : K s) → get_elem? s.views id ≡ maybe.some v → v.stage ≡ Waiting k → get_or s.words 1 0 ≡ k % 2 ^ 64 → Looks id slots v k s
  unfolding Looks
  gets id slots v k s r at is found =
      let now = its_turn s r id v k at is found in
      let st = stage_at s r id v (Waiting k) at is in
      let f = r.each_seat id v at in
      let free = free_at s r id v at (is ∙ ap (λ (t : ℕ). Waiting t) (sym now)) in
      let full = full_at s r free in
      let x = full.0 in
      let w : View E = having_seen r.log (Serving k) v in
      let a : Act (Option V) = takes 0 (Some x) in
      let here : get_elem? (set s.views id w) id ≡ maybe.some w = set_here s.views id w (inside s.views id v at) in
      let count = r.counted in
      let more : tickets (set s.views id w) + 1 ≡ tickets s.views + 1 = tickets-set_at s.views id v w (Waiting k) at is in
      let mine : Fits passes r.served r.drawn (length s.views) r.log r.owner r.holder id w = record {
        knows_passes = f.knows_passes;
        numbers = f.numbers;
        ticket = λ t e. f.ticket t (subst (λ (z : Stage E). HasTicket z t) (sym is) e);
        begins = others_none v.numbers r.log;
        stage = (sym now, st.1, st.2, refl);
      } in (
        w,
        a,
        ap (λ (hs : List (maybe.Option (Option V))). get_elem? hs 0) full.1,
        one_step s r id v w (set s.words 1 (get_or s.words 1 0)) (set s.homes 0 maybe.none) r.served r.drawn r.log r.holder at refl (set-get_or s.words 1 0 ∙ r.words) (omega arith) r.made mine (λ j u _. r.each_seat j u) (id, w, here, refl)
            (inl ((id, w, k, here, refl), ap (λ (hs : List (maybe.Option (Option V))). set hs 0 maybe.none) full.1)),
        (λ _. (x, r.log, refl, f.begins, knows s r id v at st.2 r.log r.made, full.2)),
        (λ no. absurd (no found)),
      )

  -- A seat looks, and another is served.
  waits : (id slots : ℕ) (v : View E) (k : ℕ) (s : S) (r : K s) → get_elem? s.views id ≡ maybe.some v → get_or s.words 1 0 ≢ k % 2 ^ 64 → Looks id slots v k s
  unfolding Looks
  waits id slots v k s r at other = (v, keeps, tt, unmoved s r id v [] 1 at, (λ e. absurd (other e)), (λ _. refl))

  looks_for : (slots id : ℕ) (v : View E) (k : ℕ) → v.stage ≡ Waiting k → (s : S) → K s → get_elem? s.views id ≡ maybe.some v → Looks id slots v k s
  looks_for slots id v k is s r at = dite (ℕ_discrete (get_or s.words 1 0) (k % 2 ^ 64)) (λ e. gets id slots v k s r at is e) (λ ne. waits id slots v k s r at ne)

  -- A seat with a ticket looks.
  pub looks : (slots id : ℕ) (v : View E) (cs : List (ℕ × Option V)) → ((k : ℕ) × (v.stage ≡ Waiting k)) → cs ≡ [] → Allows K slots id (v, cs) 1 (λ n. n) (looked stands any_step (v, cs))
  unfolding Looks
  looks slots id v cs is none s r len at below =
      let t = looks_for slots id v is.0 is.1 s r at in
      let Q : List (ℕ × Option V) → Type 0 = λ c. (w : View E) × (a : Act (Option V)) × Valid s.homes c a × K (stepped s 1 (get_or s.words 1 0) id c w a) × looked stands any_step (v, c) (get_or s.words 1 0) (w, carried_after c a) in
      subst Q (sym none) (
        t.0,
        t.1,
        t.2,
        t.3,
        (λ k' is'. let same : is.0 ≡ k' = (let e : Waiting is.0 ≡ Waiting k' = sym is.1 ∙ is' in cc) in
            subst (λ (k : ℕ). (get_or s.words 1 0 ≡ k % 2 ^ 64 → Gets stands k (v, []) (t.0, carried_after [] t.1)) × (get_or s.words 1 0 ≢ k % 2 ^ 64 → IsSame (v, []) (t.0, carried_after [] t.1))) same (t.4, t.5)),
      )

  -- the numbers of a seat's own entries belong to no other seat
  own_are_others : (s : S) (r : K s) (id : ℕ) (v : View E) (number : ℕ) (own : H) → get_elem? s.views id ≡ maybe.some v → Contains v.numbers number → AllOf number own
      → (j : ℕ) (u : View E) → j ≢ id → get_elem? s.views j ≡ maybe.some u → NoneOf u.numbers own
  own_are_others s r id v number own at has all j u ne at' i d lt c =
      let mine = ((r.each_seat id v at).numbers number has).1 in
      let theirs = ((r.each_seat j u at').numbers (get_or own i d).0 c).1 in
      ne (sym theirs ∙ (ap r.owner (all i d lt) ∙ mine))

  -- The seat that has the turn passes it on.
  pub passes_on : (slots id : ℕ) (v : View E) (cs : List (ℕ × Option V)) (h : H) → ((k : ℕ) × (v.stage ≡ Serving k)) → ((number : ℕ) × Contains v.numbers number × FollowedByOwn number v.seen h)
      → ((x : V) × (cs ≡ (0, Some x) ∷ []) × stands x h) → Allows K slots id (v, cs) 1 (λ n. (n + 1) % 2 ^ 64) (passed_on h any_step (v, cs))
  passes_on slots id v cs h is own value s r len at below =
      let k = is.0 in
      let x = value.0 in
      let number = own.0 in
      let es = own.2.0 in
      let w : View E = having_seen h Resting v in
      let f = r.each_seat id v at in
      let now = stage_at s r id v (Serving k) at is.1 in
      let log : h ≡ r.log ++ es = own.2.1 ∙ ap (λ (z : H). z ++ es) now.3 in
      let here : get_elem? (set s.views id w) id ≡ maybe.some w = set_here s.views id w (inside s.views id v at) in
      let count = r.counted in
      let turn : r.served ≡ k = sym now.0 in
      let fewer : tickets (set s.views id w) + 1 ≡ tickets s.views + 0 = tickets-set_at s.views id v w (Serving k) at is.1 in
      let words : set s.words 1 ((get_or s.words 1 0 + 1) % 2 ^ 64) ≡ (r.drawn % 2 ^ 64) ∷ ((r.served + 1) % 2 ^ 64) ∷ [] =
      ap (λ (ws : List ℕ). set ws 1 ((get_or ws 1 0 + 1) % 2 ^ 64)) r.words ∙ ap (λ (n : ℕ). (r.drawn % 2 ^ 64) ∷ n ∷ []) (mod-add-mod r.served (2 ^ 64) 1) in
      let made : AllBelow passes h = subst (AllBelow passes) (sym log) (All-append (λ (e : ℕ × E). e.0 < passes) r.log es r.made
      (All-weaker (λ (e : ℕ × E). e.0 ≡ number) (λ (e : ℕ × E). e.0 < passes) (λ e same. subst (λ (n : ℕ). n < passes) (sym same) ((f.numbers number own.1).0)) es own.2.2)) in
      let mine : Fits passes (r.served + 1) r.drawn (length s.views) h r.owner r.holder id w = record {
        knows_passes = f.knows_passes;
        numbers = f.numbers;
        ticket = λ t e. absurd e;
        begins = others_none v.numbers h;
        stage = tt;
      } in
      let others : (j : ℕ) (u : View E) → j ≢ id → get_elem? s.views j ≡ maybe.some u → Fits passes (r.served + 1) r.drawn (length s.views) h r.owner r.holder j u = λ j u ne at'. let g = r.each_seat j u at' in record {
        knows_passes = g.knows_passes;
        numbers = g.numbers;
        ticket = g.ticket;
        begins = subst (FollowedByOthers u.numbers u.seen) (sym log) (others_more u.numbers u.seen r.log es g.begins (own_are_others s r id v number es at own.1 own.2.2 j u ne at'));
        stage = at_next passes r.served r.drawn (length s.views) r.log j u u.stage h g.stage (λ t. ne (sym (g.ticket r.served t) ∙ holder_at s r id v (Serving k) r.served at is.1 now.0));
      } in
      let free : IsFree (set s.views id w) = λ j u k' at' is'. ⊎_elim
      (λ (t : (j ≡ id) × (w ≡ u)). let no : Resting ≡ Serving k' = ap (λ (z : View E). z.stage) t.1 ∙ is' in cc)
      (λ (t : (j ≢ id) × (get_elem? s.views j ≡ maybe.some u)). t.0 (served_is s r id v (Serving k) at is.1 now.0 j u k' t.1 is'))
      (at_set s.views id j w u at') in
      let homes : s.homes ≡ maybe.none ∷ [] = ⊎_elim (λ (t : IsServed s.views × (s.homes ≡ maybe.none ∷ [])). t.1)
      (λ (t : IsFree s.views × ((y : V) × (s.homes ≡ maybe.some (Some y) ∷ []) × stands y r.log)). absurd (t.0 id v k at is.1)) r.slot in
      let Q : List (ℕ × Option V) → Type 0 = λ c. (w' : View E) × (a : Act (Option V)) × Valid s.homes c a × K (stepped s 1 ((get_or s.words 1 0 + 1) % 2 ^ 64) id c w' a) × passed_on h any_step (v, c) (get_or s.words 1 0) (w', carried_after c a) in
      subst Q (sym value.1) (
        w,
        gives,
        tt,
        one_step s r id v w (set s.words 1 ((get_or s.words 1 0 + 1) % 2 ^ 64)) (set s.homes 0 (maybe.some (Some x))) (r.served + 1) r.drawn h r.holder at refl words (omega arith) made mine others (id, w, here, refl)
            (inr (free, (x, ap (λ (hs : List (maybe.Option (Option V))). set hs 0 (maybe.some (Some x))) homes, value.2))),
        refl,
      )

  -- A seat that was made of two learns what follows what each had seen.
  pub learns : (slots id : ℕ) (v : View E) (cs : List (ℕ × Option V)) (ms ns : List ℕ) (a b : H) → v.stage ≡ Joined ms a ns b → 0 < length v.numbers
      → Allows K slots id (v, cs) 0 (λ n. n) (learned any_step (v, cs))
  learns slots id v cs ms ns a b is own s r len at below =
      let w : View E = at_stage Resting v in
      let f = r.each_seat id v at in
      let same : tickets (set s.views id w) + 0 ≡ tickets s.views + 0 = tickets-set_at s.views id v w (Joined ms a ns b) at is in
      let count = r.counted in
      let mine : Fits passes r.served r.drawn (length s.views) r.log r.owner r.holder id w = record {
        knows_passes = f.knows_passes;
        numbers = f.numbers;
        ticket = λ t e. absurd e;
        begins = f.begins;
        stage = tt;
      } in
      let made : AllBelow passes (v.seen ++ f.begins.0) = subst (AllBelow passes) f.begins.1 r.made in
      let seen : AllBelow passes v.seen = all_left (λ (e : ℕ × E). e.0 < passes) v.seen f.begins.0 made in (
        w,
        keeps,
        tt,
        one_step s r id v w (set s.words 0 (get_or s.words 0 0)) s.homes r.served r.drawn r.log r.holder at refl (set-get_or s.words 0 0 ∙ r.words) (omega arith) r.made mine (λ j u _. r.each_seat j u) (same_reader s r id v w at refl)
            (same_slot r.log s.homes s.views id v w at (λ t e. let no : Joined ms a ns b ≡ Serving t = sym is ∙ e in cc) (λ t e. cc) r.slot),
        (refl, (λ ms' ns' a' b' is'. let t = stage_at s r id v (Joined ms' a' ns' b') at is' in (t.0, t.1, knows s r id v at own v.seen seen))),
      )
