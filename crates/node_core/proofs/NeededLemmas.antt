-- Which entries are needed, what becomes of that with one entry more, and what is left where the oldest is given up.
use Rattle.std.proofs.Common.{◌≡◌, ℕ, ◌+◌, ◌-◌, ◌<◌, ◌≤◌, ◌%◌, ◌^◌, ◌||◌, Bool, true, false, not, nat_lt, arith, IsTrue, List, [], ◌∷◌, ◌++◌, drop, length, map, refl, sym, ap, ap₂, ◌∙◌, subst, append_assoc, length-append, inl, inr, ◌⊎◌, None, Some, Option, unwrap_or, is_some, Result, Ok, Err, IfOk}
use Rattle.std.specs.declared.alloc.AllocError.{AllocError}
use Rattle.std.specs.List.{find, list_all, list_any}
use Rattle.std.proofs.lemmas.Bool.{both_ways, cases_Bool, and_parts, or_from, or_parts, not-true, le-ltb}
use Rattle.std.proofs.lemmas.Bool.Decides.{nat_tests}
use Rattle.std.proofs.lemmas.List.{append-nil, length-map, length_push, map-append}
use Rattle.std.proofs.lemmas.List.Folds.{list_all-append}
use Rattle.delivery_core.specs.Edge.{EdgeView}
use Rattle.delivery_core.specs.Traces.{edge_of, flight, refreshing, row_in, unplaced}
use Rattle.delivery_law.proofs.Deliveries.{Books, Change, books_after, books_are, change}
use Rattle.delivery_law.proofs.Places.{split_last}
use Rattle.history.proofs.Cases.{cut_cases}
use Rattle.history.proofs.Words.{world_push}
use Rattle.history.specs.After.{after, after_reply, begun_delivery, begun_fetch, begun_refresh, logged_row, new_rows, unfiled_after}
use Rattle.history.specs.Event.{Entry, History, Admit, FetchEnd, Finish, RefreshBegin, RefreshEnd, Command, Advance, Cancel, Delete, ReadStatus, Lists, Cut, LogFile, ListLogs, DropLog}
use Rattle.history.specs.History.{reply_to, world_of}
use Rattle.history.specs.Laws.{IsOpen, ends_delivery, ends_fetch, ends_refresh}
use Rattle.history.specs.Reply.{reply_in}
use Rattle.history.specs.World.{Begun, Delivering, Made, World, is_open}
use Rattle.history.specs.declared.reply.Reply.{Reply}
use Rattle.history.specs.declared.reply.Reply.TheVariants as reply
use Rattle.journal.specs.Seen.{Seen}
use Rattle.node_core.proofs.EndLemmas.{any_found}
use Rattle.node_core.proofs.NodeLemmas.{OpenLaw, any_open}
use Rattle.node_core.specs.Call.{entry_of, stripped}
use Rattle.node_core.specs.Needed.{filed, has_open, is_needed, is_needed_for, is_unfiled, need_of}
use Rattle.node_core.specs.Node.{Adds, BeginsNeeded, Enters, Holds, NodeView, Stands, is_first_unneeded, is_needed_after, needs_since, node_view}
use Rattle.control_core.specs.Control.{ControlView}
use Rattle.node_core.proofs.PurgedLemmas.{purged_push}
use Rattle.node_core.specs.State.{Follows, StateHolding}
use Rattle.node_core.specs.Triggering.{completes_purge}
use Rattle.shelf.specs.KeptShelf.{IsPartOfOrKept}
use Rattle.node_core.specs.declared.entered.Entered.{Entered}
use Rattle.shelf.specs.Open.{is_named}

-- ---- what has ended does not begin again

abbrev pub LaterLaw : (Reply → Option ℕ) → Type 0
LaterLaw given = (made : Made) (before between : History) (first second : Entry) (number later : ℕ)
    → given (reply_to made before first) ≡ Some number
    → given (reply_to made (before ++ first ∷ between) second) ≡ Some later → number < later

all_before : (test : Entry → Bool) (more : History) (e : Entry) (since : History) → since ≡ more ++ e ∷ [] → IsTrue (list_all test since) → IsTrue (list_all test more)
all_before test more e since is all = (and_parts (list_all test more) (list_all test (e ∷ [])) (sym (ap (list_all test) is ∙ list_all-append test more (e ∷ [])) ∙ all)).0

module _ {A : Type 0} (begun : Delivering → List (Begun A)) (given : Reply → Option ℕ) (ends : ℕ → ℕ → Entry → Bool) (law : OpenLaw begun given ends) (later : LaterLaw given)
    (made : Made) (h : History) (e : Entry) (before since : History) (entry : Entry) (whole : h ≡ before ++ entry ∷ since) where
  was_open : (number : ℕ) → given (reply_to made before entry) ≡ Some number
      → IsOpen number entry.0 (begun (world_of made (h ++ e ∷ [])).delivering) → IsOpen number entry.0 (begun (world_of made h).delivering)
  was_open number is there =
      let b = (law made (h ++ e ∷ []) number entry.0).0 there in
      elim (split_last h b.before b.since e (entry.0, b.event) b.whole) [
        | inl old ↦ (law made h number entry.0).1 (record {
          before = b.before;
          event = b.event;
          since = old.0;
          whole = old.1;
          begun = b.begun;
          kept = all_before (λ x. not (ends number entry.0 x)) old.0 e b.since old.2 b.kept;
        })
        | inr last ↦
            let same : given (reply_to made (before ++ entry ∷ since) (entry.0, b.event)) ≡ Some number = subst (λ x. given (reply_to made x (entry.0, b.event)) ≡ Some number) (sym last.0 ∙ whole) b.begun in
            absurd (omega (arith, later made before since entry (entry.0, b.event) number number is same))
      ]

  still_ended : (o : Option ℕ) → given (reply_to made before entry) ≡ o → has_open o entry.0 (begun (world_of made h).delivering) ≡ false → has_open o entry.0 (begun (world_of made (h ++ e ∷ [])).delivering) ≡ false
  still_ended None is ended = refl
  still_ended (Some number) is ended = elim (cases_Bool (list_any (is_open number entry.0) (begun (world_of made (h ++ e ∷ [])).delivering))) [
    | inl there ↦ absurd (both_ways _ ended (was_open number is there))
    | inr not_there ↦ not_there
  ]

-- ---- what is filed stays filed

not_below : (a b : ℕ) → nat_lt a b ≡ false → b ≤ a
not_below a b e = grind (arith, nat_tests)

not_more : (a b : ℕ) → b ≤ a → nat_lt a b ≡ false
not_more = le-ltb

module _ (w : World) (e : Entry) where
  abbrev Leaves : Reply → Type 0
  Leaves r = (unfiled_after w e r ≡ []) ⊎ (unfiled_after w e r ≡ w.delivering.unfiled ++ new_rows w e)

-- a Cut may leave none of the unfiled rows, and another entry leaves all
unfiled_left : (w : World) (e : Entry) → Leaves w e (reply_in w e)
unfiled_left w (pass, Cut moment) = cut_cases w pass (Leaves w (pass, Cut moment)) moment (inr refl) (λ n. inr refl) (inl refl)
unfiled_left w (pass, Admit request moment) = inr refl
unfiled_left w (pass, FetchEnd fetch outcome moment) = inr refl
unfiled_left w (pass, Finish delivery status total entity moment) = inr refl
unfiled_left w (pass, RefreshBegin moment) = inr refl
unfiled_left w (pass, RefreshEnd refresh tree moment) = inr refl
unfiled_left w (pass, Command spec moment) = inr refl
unfiled_left w (pass, Advance id moment) = inr refl
unfiled_left w (pass, Cancel ids moment) = inr refl
unfiled_left w (pass, Delete id) = inr refl
unfiled_left w (pass, ReadStatus id) = inr refl
unfiled_left w (pass, Lists filter) = inr refl
unfiled_left w (pass, LogFile number) = inr refl
unfiled_left w (pass, ListLogs) = inr refl
unfiled_left w (pass, DropLog number) = inr refl

unfiled_are : (w : World) (e : Entry) → (after w e).delivering.unfiled ≡ unfiled_after w e (reply_in w e)
unfolding after after_reply
unfiled_are w e = refl

logged_by : (w : World) (e : Entry) (r : Reply) → Change w e r (books_after w e r) → unwrap_or (logged_row r) w.counts.logged ≡ w.counts.logged + length (new_rows w e)
logged_by w e r (inl quiet) =
    let rows = ap (λ (b : Books). length b.rows) quiet.fewer in
    let logged = ap (λ (b : Books). b.logged) quiet.fewer in omega (arith, rows, logged, length-append w.delivering.rows (new_rows w e))
logged_by w e r (inr (inl begins)) =
    let rows = ap (λ (b : Books). length b.rows) begins.more in
    let logged = ap (λ (b : Books). b.logged) begins.more in omega (arith, rows, logged, length-append w.delivering.rows (new_rows w e))
logged_by w e r (inr (inr finishes)) =
    let rows = ap (λ (b : Books). length b.rows) finishes.more ∙ length_push w.delivering.rows _ in
    let logged = ap (λ (b : Books). b.logged) finishes.more in omega (arith, rows, logged, length-append w.delivering.rows (new_rows w e))

-- the rows of an entry are counted
rows_counted : (w : World) (e : Entry) → (after w e).counts.logged ≡ w.counts.logged + length (new_rows w e)
rows_counted w e = ap (λ (b : Books). b.logged) (books_are w e) ∙ logged_by w e (reply_in w e) (change w e)

filed_grows : (w : World) (e : Entry) → filed w ≤ filed (after w e)
filed_grows w e =
    let counted = rows_counted w e in
    elim (unfiled_left w e) [
      | inl none ↦ let left = ap length (unfiled_are w e ∙ none) in omega (arith, counted, left)
      | inr all ↦
          let left = ap length (unfiled_are w e ∙ all) ∙ length-append w.delivering.unfiled (new_rows w e) in omega (arith, counted, left)
    ]

still_filed : (made : Made) (h : History) (e : Entry) (o : Option ℕ) → is_unfiled o (world_of made h) ≡ false → is_unfiled o (world_of made (h ++ e ∷ [])) ≡ false
still_filed made h e None filed_before = refl
still_filed made h e (Some row) filed_before =
    let more = filed_grows (world_of made h) e in
    let same = ap filed (world_push made h e) in
    let old = not_below (filed (world_of made h)) row filed_before in not_more (filed (world_of made (h ++ e ∷ []))) row (omega (arith, more, same, old))

-- ---- one entry more

none_of_four : (a b c d : Bool) → a ≡ false → b ≡ false → c ≡ false → d ≡ false → (a || (b || (c || d))) ≡ false
none_of_four a b c d p q r s = or_from _ _ p (or_from _ _ q (or_from _ _ r s))

needs_push : (made : Made) (before since : History) (entry : Entry) → needs_since made before (since ++ entry ∷ []) ≡ needs_since made before since ++ need_of (reply_to made (before ++ since) entry) ∷ []
needs_push made before [] entry = ap (λ x. need_of (reply_to made x entry) ∷ []) (sym (append-nil before))
needs_push made before (first ∷ since) entry =
    ap (λ x. need_of (reply_to made before first) ∷ x) (needs_push made (before ++ first ∷ []) since entry ∙ ap (λ x. needs_since made (before ++ first ∷ []) since ++ need_of (reply_to made x entry) ∷ []) (append_assoc before (first ∷ []) since))

module _ (deliveries : OpenLaw (λ d. d.deliveries) begun_delivery ends_delivery) (fetches : OpenLaw (λ d. d.fetches) begun_fetch ends_fetch) (refreshes : OpenLaw (λ d. d.refreshes) begun_refresh ends_refresh)
    (later_deliveries : LaterLaw begun_delivery) (later_fetches : LaterLaw begun_fetch) (later_refreshes : LaterLaw begun_refresh) where
  -- what is not needed is not needed later
  still_unneeded : (made : Made) (h : History) (e : Entry) (before since : History) (entry : Entry) → h ≡ before ++ entry ∷ since → is_needed_after made h before entry ≡ false → is_needed_after made (h ++ e ∷ []) before entry ≡ false
  still_unneeded made h e before since entry whole unneeded =
      let r = reply_to made before entry in
      let p = or_parts _ _ unneeded in
      let q = or_parts _ _ p.1 in
      let s = or_parts _ _ q.1 in
      none_of_four _ _ _ _
      (still_ended (λ d. d.deliveries) begun_delivery ends_delivery deliveries later_deliveries made h e before since entry whole (begun_delivery r) refl p.0)
      (still_ended (λ d. d.fetches) begun_fetch ends_fetch fetches later_fetches made h e before since entry whole (begun_fetch r) refl q.0)
      (still_ended (λ d. d.refreshes) begun_refresh ends_refresh refreshes later_refreshes made h e before since entry whole (begun_refresh r) refl s.0)
      (still_filed made h e (logged_row r) s.1)

  pub enters : (old new : NodeView) (made : Made) (h : History) (entry : Entry) (r : Reply) → Holds old made h → Adds old entry r new → Enters made h entry r new
  enters old new made h entry r holds adds = let says = adds.says made h holds.state in (
    says.0,
    record {
      gone = holds.gone;
      kept = holds.kept ++ entry ∷ [];
      whole = ap (λ x. x ++ entry ∷ []) holds.whole ∙ append_assoc holds.gone holds.kept (entry ∷ []);
      state = says.1;
      retired = adds.retired ∙ holds.retired;
      stored = adds.stored ∙ ap (λ x. x ++ stripped entry ∷ []) holds.stored ∙ sym (map-append stripped holds.kept (entry ∷ []));
      needs = adds.needs ∙ ap (λ x. x ++ need_of r ∷ []) holds.needs ∙ ap (λ x. needs_since made holds.gone holds.kept ++ need_of x ∷ []) (says.0 ∙ ap (λ x. reply_to made x entry) holds.whole) ∙ sym (needs_push made holds.gone holds.kept entry);
      unneeded = λ before since one is. still_unneeded made h entry before (since ++ holds.kept) one (holds.whole ∙ ap (λ x. x ++ holds.kept) is ∙ append_assoc before (one ∷ since) holds.kept) (holds.unneeded before since one is);
      purged = purged_push made h entry old.held new.held holds.purged (subst (λ (v : EdgeView). IsPartOfOrKept new.held old.held v.kept) says.1.edge adds.held)
          (λ so. adds.swept (ap₂ (λ (v : ControlView) a. completes_purge v.triggers.triggers entry.1 a) holds.state.control says.0 ∙ so) ∙ ap (λ (v : EdgeView). v.kept) says.1.edge);
    },
  )

  pub enters_ok : (old new : NodeView) (made : Made) (h : History) (entry : Entry) (result : Result Reply AllocError) → Holds old made h → IfOk result (λ r. Adds old entry r new) → IfOk result (λ r. Enters made h entry r new)
  enters_ok old new made h entry (Ok r) holds adds = enters old new made h entry r holds adds
  enters_ok old new made h entry (Err e) holds adds = tt

-- ---- the oldest entry is given up

module _ (w : World) (pass : ℕ) where
  delivery_is : (delivery : ℕ) → is_some (find (is_named delivery pass) (edge_of w).deliveries) ≡ list_any (is_open delivery pass) w.delivering.deliveries
  delivery_is delivery = sym (any_found (is_named delivery pass) (edge_of w).deliveries) ∙ any_open unplaced (λ one. (refl, refl)) delivery pass w.delivering.deliveries

  fetch_is : (fetch : ℕ) → is_some (find (is_named fetch pass) (edge_of w).fetches) ≡ list_any (is_open fetch pass) w.delivering.fetches
  fetch_is fetch = sym (any_found (is_named fetch pass) (edge_of w).fetches) ∙ any_open (flight w.delivering.starts) (λ one. (refl, refl)) fetch pass w.delivering.fetches

  refresh_is : (refresh : ℕ) → is_some (find (is_named refresh pass) (edge_of w).refreshes) ≡ list_any (is_open refresh pass) w.delivering.refreshes
  refresh_is refresh = sym (any_found (is_named refresh pass) (edge_of w).refreshes) ∙ any_open (refreshing w.delivering.starts) (λ one. (refl, refl)) refresh pass w.delivering.refreshes

  or_false : (t : Bool) → t ≡ (t || false)
  or_false true = refl
  or_false false = refl

  -- what the edge says of a need is what the history says of the entry
  need_is : (r : Reply) → is_needed_for (edge_of w) pass (need_of r) ≡ is_needed w pass r
  need_is (reply.Denied delivery rule) = delivery_is delivery ∙ or_false _
  need_is (reply.Hit delivery fetch kind body) = delivery_is delivery ∙ or_false _
  need_is (reply.Miss delivery fetch plan) = (λ i. delivery_is delivery i || fetch_is fetch i) ∙ ap (λ t. list_any (is_open delivery pass) w.delivering.deliveries || t) (or_false _)
  need_is (reply.Full count) = refl
  need_is (reply.Ended kept) = refl
  need_is (reply.NotOpen number) = refl
  need_is (reply.Logged row) = ap (λ n. nat_lt (w.counts.logged - n) row) (length-map w.delivering.unfiled row_in)
  need_is (reply.Due refresh) = refresh_is refresh ∙ or_false _
  need_is (reply.NotDue next) = refl
  need_is (reply.Installed generation) = refl
  need_is (reply.Stale trigger) = refl
  need_is (reply.Older refresh) = refl
  need_is reply.Failed = refl
  need_is (reply.Created id) = refl
  need_is reply.Started = refl
  need_is (reply.Fetch fetch plan target) = fetch_is fetch ∙ or_false _
  need_is (reply.Refresh refresh) = refresh_is refresh ∙ or_false _
  need_is (reply.Skipped index) = refl
  need_is (reply.Final status) = refl
  need_is (reply.Claimed by) = refl
  need_is (reply.StepOpen number) = refl
  need_is (reply.Unknown id) = refl
  need_is (reply.Statuses list) = refl
  need_is reply.Deleted = refl
  need_is (reply.Resource job) = refl
  need_is (reply.Collection filter ids) = refl
  need_is (reply.File number) = refl
  need_is reply.NothingToCut = refl
  need_is (reply.LogText text) = refl
  need_is (reply.Numbers list) = refl
  need_is reply.Dropped = refl

needed_then : (t : Bool) → not t ≡ false → t ≡ true
needed_then true so = refl
needed_then false so = absurd (both_ways _ refl (sym so))

abbrev head_or : {A : Type 0} → A → List A → A
head_or x [] = x
head_or x (y ∷ ys) = y

abbrev tail_of : {A : Type 0} → List A → List A
tail_of [] = []
tail_of (y ∷ ys) = ys

-- with nothing stored the node stands for the empty history
pub nothing_stored : (m made : Made) (state : StateHolding) (journal : Seen Entered) → journal ≡ record { retired = 0; stored = []; spare = 0 } → Follows state.seen made [] → Stands (node_view m state journal) made []
unfolding Stands
nothing_stored m made state journal is follows = (
  record {
    gone = [];
    kept = [];
    whole = refl;
    state = follows;
    retired = ap (λ (j : Seen Entered). j.retired) is;
    stored = ap (λ (j : Seen Entered). map entry_of j.stored) is;
    needs = ap (λ (j : Seen Entered). map (λ (e : Entered). e.need) j.stored) is;
    unneeded = λ before since entry none. absurd (omega (arith, ap length none, length-append before (entry ∷ since)));
    purged = λ before since entry none. absurd (omega (arith, ap length none, length-append before (entry ∷ since)));
  },
  tt,
)

module _ (m : Made) (state : StateHolding) (made : Made) (h : History) where
  abbrev seen : Seen Entered → NodeView
  seen journal = node_view m state journal

  -- the first call that is stored is the first entry that was not given up
  record IsFirst (holds_kept gone : History) (first : Entered) : Type 0 where
    entry : Entry
    kept : History
    is : holds_kept ≡ entry ∷ kept
    needed : is_needed_for state.seen.edge first.pass first.need ≡ is_needed_after made h gone entry

  first_by : (journal : Seen Entered) (first : Entered) (later : List Entered) → journal.stored ≡ first ∷ later → (holds : Holds (seen journal) made h)
      → (kept : History) → holds.kept ≡ kept → IsFirst kept holds.gone first
  first_by journal first later is holds [] none =
      absurd (omega (arith, ap length is, length-map journal.stored entry_of, ap length holds.stored, length-map holds.kept stripped, ap length none))
  first_by journal first later is holds (entry ∷ kept) some =
      let stored : map entry_of (first ∷ later) ≡ map stripped (entry ∷ kept) = sym (ap (map entry_of) is) ∙ holds.stored ∙ ap (map stripped) some in
      let needs : map (λ (e : Entered). e.need) (first ∷ later) ≡ needs_since made holds.gone (entry ∷ kept) = sym (ap (map (λ (e : Entered). e.need)) is) ∙ holds.needs ∙ ap (needs_since made holds.gone) some in
      let pass : first.pass ≡ entry.0 = ap (λ (e : Entry). e.0) (ap (head_or (entry_of first)) stored) in
      let need : first.need ≡ need_of (reply_to made holds.gone entry) = ap (head_or first.need) needs in record {
        entry = entry;
        kept = kept;
        is = refl;
        needed = (λ i. is_needed_for (holds.state.edge i) (pass i) (need i)) ∙ need_is (world_of made h) entry.0 (reply_to made holds.gone entry);
      }

  -- it is not needed and is given up
  popped_by : (journal journal' : Seen Entered) (first : Entered) (later : List Entered) → journal.stored ≡ first ∷ later → journal'.stored ≡ later → journal'.retired ≡ (journal.retired + 1) % 2 ^ 64
      → not (is_needed_for state.seen.edge first.pass first.need) ≡ true → (holds : Holds (seen journal) made h) → (kept : History) → holds.kept ≡ kept → IsFirst kept holds.gone first → Holds (seen journal') made h
  popped_by journal journal' first later is left count old holds kept same one =
      let kept_is : holds.kept ≡ one.entry ∷ one.kept = same ∙ one.is in
      let unneeded : is_needed_after made h holds.gone one.entry ≡ false = sym one.needed ∙ not-true _ old in
      let retired = holds.retired in record {
        gone = holds.gone ++ one.entry ∷ [];
        kept = one.kept;
        whole = holds.whole ∙ ap (λ x. holds.gone ++ x) kept_is ∙ sym (append_assoc holds.gone (one.entry ∷ []) one.kept);
        state = holds.state;
        retired = omega (arith, count, retired, length-append holds.gone (one.entry ∷ []));
        stored = ap (map entry_of) left ∙ ap tail_of (sym (ap (map entry_of) is) ∙ holds.stored ∙ ap (map stripped) kept_is);
        needs = ap (map (λ (e : Entered). e.need)) left ∙ ap tail_of (sym (ap (map (λ (e : Entered). e.need)) is) ∙ holds.needs ∙ ap (needs_since made holds.gone) kept_is);
        purged = holds.purged;
        unneeded = λ before since entry at. elim (split_last holds.gone before since one.entry entry at) [
          | inl old_one ↦ holds.unneeded before old_one.0 entry old_one.1
          | inr last ↦ (λ i. is_needed_after made h (sym last.0 i) (sym last.1 i)) ∙ unneeded
        ];
      }

  popped_from : (journal journal' : Seen Entered) → is_first_unneeded state.seen journal.stored ≡ true → journal'.stored ≡ drop 1 journal.stored → journal'.retired ≡ (journal.retired + 1) % 2 ^ 64 → Holds (seen journal) made h
      → (all : List Entered) → journal.stored ≡ all → Holds (seen journal') made h
  popped_from journal journal' old left count holds [] is = absurd (both_ways _ refl (sym (ap (is_first_unneeded state.seen) is) ∙ old))
  popped_from journal journal' old left count holds (first ∷ later) is =
      popped_by journal journal' first later is (left ∙ ap (drop 1) is) count (sym (ap (is_first_unneeded state.seen) is) ∙ old) holds holds.kept refl (first_by journal first later is holds holds.kept refl)

  pub popped : (journal journal' : Seen Entered) → is_first_unneeded state.seen journal.stored ≡ true → journal'.stored ≡ drop 1 journal.stored → journal'.retired ≡ (journal.retired + 1) % 2 ^ 64 → Holds (seen journal) made h → Holds (seen journal') made h
  popped journal journal' old left count holds = popped_from journal journal' old left count holds journal.stored refl

  -- where the oldest call is needed, or none is stored, the node stands for the history
  oldest_by : (journal : Seen Entered) (holds : Holds (seen journal) made h) → is_first_unneeded state.seen journal.stored ≡ false → (all : List Entered) → journal.stored ≡ all
      → (kept : History) → holds.kept ≡ kept → BeginsNeeded made h holds.gone kept
  oldest_by journal holds so all is [] none = tt
  oldest_by journal holds so [] is (entry ∷ kept) some =
      absurd (omega (arith, ap length is, length-map journal.stored entry_of, ap length holds.stored, length-map holds.kept stripped, ap length some))
  oldest_by journal holds so (first ∷ later) is (entry ∷ kept) some =
      let one = first_by journal first later is holds (entry ∷ kept) some in
      let same : entry ≡ one.entry = ap (head_or entry) one.is in
      ap (is_needed_after made h holds.gone) same ∙ sym one.needed ∙ needed_then _ (sym (ap (is_first_unneeded state.seen) is) ∙ so)

  pub settled : (journal : Seen Entered) → is_first_unneeded state.seen journal.stored ≡ false → Holds (seen journal) made h → Stands (seen journal) made h
  unfolding Stands
  settled journal so holds = (holds, oldest_by journal holds so journal.stored refl holds.kept refl)

pub holds_of : {v : NodeView} {made : Made} {h : History} → Stands v made h → Holds v made h
unfolding Stands
holds_of stands = stands.0
