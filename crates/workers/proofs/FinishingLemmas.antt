-- The joining of the passes, and the giving back.
use Rattle.std.proofs.Common.{◌≡◌, ◌⊎◌, ℕ, zero, suc, ◌+◌, ◌-◌, ◌^◌, ◌<◌, ◌≤◌, min, List, [], ◌∷◌, ◌++◌, All, Contains, length, map, None, Some, refl, sym, ◌∙◌, ap, subst, inl, inr, arith, append-nil, append_assoc, length-append}
use Rattle.std.proofs.lemmas.List.{length-map}
use Rattle.std.proofs.lemmas.List.{map-append}
use Rattle.std.proofs.lemmas.List.Elements.{All-nil, All-cons, All-head, All-tail}
use Rattle.std.proofs.lemmas.List.Sums.{fold-append}
use Rattle.std.specs.Prelude.{IfSome}
use Rattle.std.specs.declared.option.Option.{Option}
use Rattle.atomic_table.specs.Seated.{TableId}
use Rattle.doors.specs.Outside.{Diary, DiaryGrows, Tellings}
use Rattle.doors.specs.declared.serve.DoorEnd.{DoorEnd}
use Rattle.doors.specs.declared.serve.DoorEnd.TheVariants as door_end
use Rattle.edge_base.specs.Causes.{Rose}
use Rattle.edge_base.specs.declared.status.Status.{Status}
use Rattle.edge_base.specs.declared.status.Status.TheVariants as status
use Rattle.history.specs.Event.{Entry, History}
use Rattle.history.specs.World.{Made}
use Rattle.history.specs.declared.call.Call.{Call}
use Rattle.node_cell.specs.Entries.{entry_of, history_of}
use Rattle.node_cell.specs.Standing.{Standing}
use Rattle.node_core.specs.Home.{AreOthers, Who}
use Rattle.session_base.specs.Doing.{Called, Told}
use Rattle.turn_cell.proofs.Histories.{head_in, numbers_from-has, numbers_from-push}
use Rattle.turn_cell.specs.Cell.{IsResting, SitsAt, numbers_in, numbers_of, seen_in, seen_of}
use Rattle.turn_cell.specs.History.{AllBelow, FollowedByOthers, NoneOf, numbers_from}
use Rattle.turn_cell.specs.declared.pass.Pass.{Pass}
use Rattle.turn_cell.specs.declared.view.View.{View}
use Rattle.workers.proofs.HiringLemmas.{diary_same, diary_then, gave_more, none_left}
use Rattle.workers.specs.Crew.{AllTold, AreShifts, GaveBack, IsShift, Shift, after_end, shift_calls, status_of}
use Rattle.workers.specs.Finishing.{Finished, TakesIn}
use Rattle.workers.specs.Job.{DoneFrom, IsDone, IsInCell, Post}
use Rattle.workers.specs.declared.crew.Crew.{Crew}

-- ---- what a pass has seen is told behind others' entries too

others_apart : (numbers : List ℕ) (number : ℕ) → Contains numbers number → (others : List (ℕ × Call)) → NoneOf numbers others → AreOthers number (history_of others)
others_apart numbers number own [] none = tt
others_apart numbers number own (called ∷ others) none = (
  (λ same. All-head (λ (e : ℕ × Call). ¬ (Contains numbers e.0)) called others none (subst (Contains numbers) (sym same) own)),
  others_apart numbers number own others (All-tail (λ (e : ℕ × Call). ¬ (Contains numbers e.0)) called others none),
)

others_then : (number : ℕ) (a b : History) → AreOthers number a → AreOthers number b → AreOthers number (a ++ b)
others_then number [] b p q = q
others_then number (entry ∷ a) b p q = (p.0, others_then number a b p.1 q)

told_then : (who : Who) (calls : List Called) (h last others : History) → AreOthers who.number others → Told who h calls last → Told who h calls (last ++ others)
told_then who [] h last others are told = (told.0 ++ others, others_then who.number told.0 others told.1 are, ap (λ l. l ++ others) told.2 ∙ append_assoc h told.0 others)
told_then who (call ∷ calls) h last others are told = (told.0, told.1, told.2, told_then who calls _ last others are told.3)

told_later : (by : Made) (number : ℕ) (calls : List Called) (numbers : List ℕ) (seen seen' : List (ℕ × Call)) → Contains numbers number → FollowedByOthers numbers seen seen' → Told (record { made = by; number = number }) [] calls (history_of seen)
    → Told (record { made = by; number = number }) [] calls (history_of seen')
told_later by number calls numbers seen seen' own goes told =
    subst (λ h. Told (record { made = by; number = number }) [] calls h) (sym (ap history_of goes.1 ∙ map-append entry_of seen goes.0))
    (told_then (record { made = by; number = number }) calls [] (history_of seen) (history_of goes.0) (others_apart numbers number own goes.0 goes.2) told)

all_later : (by : Made) (number : ℕ) (lists : List (List Called)) (numbers : List ℕ) (seen seen' : List (ℕ × Call)) → ((x : ℕ) → number ≤ x → x < number + length lists → Contains numbers x) → FollowedByOthers numbers seen seen' → AllTold by number lists (history_of seen)
    → AllTold by number lists (history_of seen')
unfolding AllTold
all_later by number [] numbers seen seen' own goes told = tt
all_later by number (calls ∷ lists) numbers seen seen' own goes told = (
  told_later by number calls numbers seen seen' (own number (omega arith) (omega arith)) goes told.0,
  all_later by (number + 1) lists numbers seen seen' (λ x above below. own x (omega (arith, above)) (omega (arith, below))) goes told.1,
)

all_more : (by : Made) (number : ℕ) (lists : List (List Called)) (calls : List Called) (h : History) → AllTold by number lists h → Told (record { made = by; number = number + length lists }) [] calls h → AllTold by number (lists ++ calls ∷ []) h
unfolding AllTold
all_more by number [] calls h told one = (subst (λ n. Told (record { made = by; number = n }) [] calls h) (let e : number + 0 ≡ number = omega arith in e) one, tt)
all_more by number (first ∷ lists) calls h told one =
    (told.0, all_more by (number + 1) lists calls h told.1 (subst (λ n. Told (record { made = by; number = n }) [] calls h) (let e : number + length (first ∷ lists) ≡ (number + 1) + length lists = omega arith in e) one))

none_told : (by : Made) (h : History) → AllTold by 0 [] h
unfolding AllTold
none_told by h = tt

-- ---- the pass that is kept

-- it has the numbers of these shifts, and has seen their calls
pub record IsKeptOne (by : Made) (table : TableId) (passes : ℕ) (before : List Shift) (pass : Pass Call) : Type 0 where
  pub sits : SitsAt table passes pass
  pub numbers : numbers_of pass ≡ numbers_from 0 (length before)
  pub told : AllTold by 0 (map shift_calls before) (history_of (seen_of pass))

abbrev pub IsKept : Made → TableId → ℕ → List Shift → Option (Pass Call) → Type 0
IsKept by table passes before None = before ≡ []
IsKept by table passes before (Some pass) = IsKeptOne by table passes before pass

first_kept : (by : Made) (crew : Crew) (table : TableId) (passes : ℕ) (post : Post) (shift : Shift) (new : Pass Call) → IsDone by crew table passes 0 post shift → TakesIn post.home None (Some new) → IsKeptOne by table passes (shift ∷ []) new
first_kept by crew table passes post shift new done takes = record {
  sits = subst (λ t. SitsAt t passes new) done.cell.0 (subst (λ n. SitsAt post.home.table n new) done.cell.1 takes.0);
  numbers = takes.1 ∙ done.numbers;
  told = all_more by 0 [] (shift_calls shift) (history_of (seen_of new)) (none_told by (history_of (seen_of new)))
      (subst (λ (seen : List (ℕ × Call)). Told (record { made = by; number = 0 }) [] (shift_calls shift) (history_of seen)) (sym takes.2) done.told);
}

next_kept : (by : Made) (crew : Crew) (table : TableId) (passes : ℕ) (before : List Shift) (post : Post) (shift : Shift) (old new : Pass Call) → IsKeptOne by table passes before old → IsDone by crew table passes (length before) post shift → TakesIn post.home (Some old) (Some new)
    → IsKeptOne by table passes (before ++ shift ∷ []) new
next_kept by crew table passes before post shift old new kept done takes = record {
  sits = subst (λ t. SitsAt t passes new) done.cell.0 (subst (λ n. SitsAt post.home.table n new) done.cell.1 takes.0);
  numbers = takes.1 ∙ (ap (λ l. l ++ post.home.numbers) kept.numbers ∙ (ap (λ l. numbers_from 0 (length before) ++ l) done.numbers ∙ (ap (λ n. numbers_from 0 (length before) ++ n ∷ []) (let e : length before ≡ 0 + length before = omega arith in e) ∙ (sym (numbers_from-push 0 (length before)) ∙ ap (numbers_from 0) (sym (length-append before (shift ∷ [])))))));
  told = subst (λ l. AllTold by 0 l (history_of (seen_of new))) (sym (map-append shift_calls before (shift ∷ [])))
      (all_more by 0 (map shift_calls before) (shift_calls shift) (history_of (seen_of new)) later own);
}
  where
    counted : length (map shift_calls before) ≡ length before
    counted = length-map before shift_calls

    later : AllTold by 0 (map shift_calls before) (history_of (seen_of new))
    later = all_later by 0 (map shift_calls before) (numbers_of old) (seen_of old) (seen_of new)
        (λ x above below. subst (λ ns. Contains ns x) (sym kept.numbers) (numbers_from-has 0 (length before) x (omega arith) (omega (arith, below, counted)))) takes.2 kept.told

    own : Told (record { made = by; number = 0 + length (map shift_calls before) }) [] (shift_calls shift) (history_of (seen_of new))
    own = subst (λ n. Told (record { made = by; number = n }) [] (shift_calls shift) (history_of (seen_of new))) (let e : length before ≡ 0 + length (map shift_calls before) = omega (arith, counted) in e)
        (told_later by (length before) (shift_calls shift) post.home.numbers post.home.seen (seen_of new) (subst (λ ns. Contains ns (length before)) (sym done.numbers) (head_in (length before) [])) takes.3 done.told)

takes_kept : (by : Made) (crew : Crew) (table : TableId) (passes : ℕ) (before : List Shift) (post : Post) (shift : Shift) (old new : Option (Pass Call)) → IsKept by table passes before old → IsDone by crew table passes (length before) post shift → TakesIn post.home old new
    → IsKept by table passes (before ++ shift ∷ []) new
takes_kept by crew table passes before post shift None None kept done takes = elim takes [ ]
takes_kept by crew table passes before post shift (Some old) None kept done takes = elim takes [ ]
takes_kept by crew table passes before post shift None (Some new) kept done takes =
    subst (λ (l : List Shift). IsKeptOne by table passes (l ++ shift ∷ []) new) (sym kept)
    (first_kept by crew table passes post shift new (subst (λ (l : List Shift). IsDone by crew table passes (length l) post shift) kept done) takes)
takes_kept by crew table passes before post shift (Some old) (Some new) kept done takes = next_kept by crew table passes before post shift old new kept done takes

-- the pass that is kept takes in another one
pub takes_both : (table : TableId) (passes : ℕ) (home : Standing) (old : Option (Pass Call)) (keep gone new : Pass Call) → old ≡ Some keep → home.table ≡ table → home.passes ≡ passes → SitsAt table passes new → numbers_of gone ≡ home.numbers → seen_of gone ≡ home.seen
    → numbers_of new ≡ numbers_of keep ++ numbers_of gone → FollowedByOthers (numbers_of keep) (seen_of keep) (seen_of new) → FollowedByOthers (numbers_of gone) (seen_of gone) (seen_of new) → TakesIn home old (Some new)
takes_both table passes home old keep gone new is same_table same_passes sits numbers seen both after_keep after_gone =
    subst (λ (o : Option (Pass Call)). TakesIn home o (Some new)) (sym is) (
      subst (λ t. SitsAt t home.passes new) (sym same_table) (subst (λ n. SitsAt table n new) (sym same_passes) sits),
      both ∙ ap (λ l. numbers_of keep ++ l) numbers,
      after_keep,
      subst (λ l. FollowedByOthers l home.seen (seen_of new)) numbers (subst (λ (l : List (ℕ × Call)). FollowedByOthers (numbers_of gone) l (seen_of new)) seen after_gone),
    )

-- ---- the shifts so far

tells_more : (crew : Crew) (before : List Shift) (back : List Tellings) (shift : Shift) (tells : Tellings) → AreShifts crew.settings crew.places crew.connections before back → IsShift crew.settings crew.places crew.connections shift tells
    → AreShifts crew.settings crew.places crew.connections (before ++ shift ∷ []) (back ++ tells ∷ [])
tells_more crew [] [] shift tells are one = (one, tt)
tells_more crew [] (other ∷ back) shift tells are one = elim are [ ]
tells_more crew (first ∷ before) [] shift tells are one = elim are [ ]
tells_more crew (first ∷ before) (other ∷ back) shift tells are one = (are.0, tells_more crew before back shift tells are.1 one)

status_more : (before : List Shift) (shift : Shift) (earlier now : Status) (end : DoorEnd) → earlier ≡ status_of before → shift.end ≡ end → now ≡ after_end earlier end → now ≡ status_of (before ++ shift ∷ [])
status_more before shift earlier now end so ends is =
    is ∙ (ap (λ (s : Status). after_end s end) so ∙ (ap (after_end (status_of before)) (sym ends) ∙ sym (fold-append (λ (s : Status) (x : Shift). after_end s x.end) status.Done before (shift ∷ []))))

outside_cause : (earlier now : Status) (end : DoorEnd) → now ≡ after_end earlier end → now ≡ status.Outside → (earlier ≡ status.Outside) ⊎ (end ≡ door_end.Failed)
outside_cause earlier now door_end.Closed is outside = inl (sym is ∙ outside)
outside_cause earlier now door_end.Served is outside = inl (sym is ∙ outside)
outside_cause earlier now door_end.Failed is outside = inr refl
outside_cause status.Outside now door_end.Memory is outside = inl refl
outside_cause status.Done now door_end.Memory is outside = absurd (cc)
outside_cause status.Script now door_end.Memory is outside = absurd (cc)
outside_cause status.Usage now door_end.Memory is outside = absurd (cc)
outside_cause status.ReadFault now door_end.Memory is outside = absurd (cc)
outside_cause status.WriteFault now door_end.Memory is outside = absurd (cc)
outside_cause status.Memory now door_end.Memory is outside = absurd (cc)

fault_more : (a b c : ℕ) (earlier now : Status) (end : DoorEnd) (hurt : ℕ) → now ≡ after_end earlier end → (earlier ≡ status.Outside → Rose a b) → a ≤ b → b ≤ c → (end ≡ door_end.Failed → 0 < hurt) → (0 < hurt → Rose b c) → now ≡ status.Outside → Rose a c
fault_more a b c earlier now end hurt is rose less more failed cause outside = by_cause (outside_cause earlier now end is outside)
  where
    by_cause : (earlier ≡ status.Outside) ⊎ (end ≡ door_end.Failed) → Rose a c
    by_cause (inl was) = omega (arith, rose was, more)
    by_cause (inr met) = omega (arith, cause (failed met), less)

-- Of these shifts so many have been joined and given back, and the rest are at these posts.
pub record SoFar (by : Made) (crew : Crew) (table : TableId) (passes : ℕ) (shifts : List Shift) (rest : List Post) (kept : Option (Pass Call)) (old new : Option Diary) (returned returned' faults faults' : ℕ) (now : Status) : Type 0 where
  pub before : List Shift
  pub after : List Shift
  pub parts : shifts ≡ before ++ after
  pub left : DoneFrom by crew table passes (length before) rest after
  pub is_kept : IsKept by table passes before kept
  pub back : List Tellings
  pub tell : AreShifts crew.settings crew.places crew.connections before back
  pub diary : DiaryGrows old new [] back
  pub gave_back : GaveBack returned returned' (length before)
  pub ends_so : now ≡ status_of before
  pub failed : now ≡ status.Outside → Rose faults faults'

module _ (by : Made) (crew : Crew) (table : TableId) (passes : ℕ) (shifts : List Shift) where
  pub begins : (posts : List Post) (diary : Option Diary) (returned faults : ℕ) → DiaryGrows diary diary [] [] → DoneFrom by crew table passes 0 posts shifts
      → SoFar by crew table passes shifts posts None diary diary returned returned faults faults status.Done
  begins posts diary returned faults same done = record {
    before = [];
    after = shifts;
    parts = refl;
    left = done;
    is_kept = refl;
    back = [];
    tell = tt;
    diary = same;
    gave_back = ap (λ (n : ℕ). min n (2 ^ 64 - 1)) (let e : returned ≡ returned + 0 = omega arith in e);
    ends_so = refl;
    failed = λ is. absurd (cc);
  }

  pub goes_on : (post : Post) (rest : List Post) (kept kept' : Option (Pass Call)) (d0 d1 d2 : Option Diary) (r0 r1 r2 f0 f1 f2 : ℕ) (earlier now : Status)
      → SoFar by crew table passes shifts (post ∷ rest) kept d0 d1 r0 r1 f0 f1 earlier → TakesIn post.home kept kept' → DiaryGrows d1 d2 [] (post.tells ∷ []) → r2 ≡ min (r1 + 1) (2 ^ 64 - 1) → f0 ≤ f1 → f1 ≤ f2
      → (0 < post.tells.faults → Rose f1 f2) → now ≡ after_end earlier post.end → SoFar by crew table passes shifts rest kept' d0 d2 r0 r2 f0 f2 now
  goes_on post rest kept kept' d0 d1 d2 r0 r1 r2 f0 f1 f2 earlier now so takes diary returned less more cause is = one_more so.after so.parts so.left
    where
      one_more : (after : List Shift) → shifts ≡ so.before ++ after → DoneFrom by crew table passes (length so.before) (post ∷ rest) after → SoFar by crew table passes shifts rest kept' d0 d2 r0 r2 f0 f2 now
      one_more [] parts left = elim left [ ]
      one_more (shift ∷ after) parts left =
          let count : length (so.before ++ shift ∷ []) ≡ length so.before + 1 = length-append so.before (shift ∷ []) in
          record {
            before = so.before ++ shift ∷ [];
            after = after;
            parts = parts ∙ sym (append_assoc so.before (shift ∷ []) after);
            left = subst (λ (n : ℕ). DoneFrom by crew table passes n rest after) (sym count) left.1;
            is_kept = takes_kept by crew table passes so.before post shift kept kept' so.is_kept left.0 takes;
            back = so.back ++ post.tells ∷ [];
            tell = tells_more crew so.before so.back shift post.tells so.tell left.0.tell;
            diary = diary_then d0 d1 d2 [] [] so.back (post.tells ∷ []) so.diary diary;
            gave_back = gave_more r0 r1 r2 (length so.before) (length (so.before ++ shift ∷ [])) count so.gave_back returned;
            ends_so = status_more so.before shift earlier now post.end so.ends_so left.0.ends_so is;
            failed = fault_more f0 f1 f2 earlier now post.end post.tells.faults is so.failed less more left.0.failed cause;
          }

-- ---- the end

seen_below : (table : TableId) (passes : ℕ) (pass : Pass Call) → SitsAt table passes pass → AllBelow passes (seen_of pass)
seen_below table passes pass sits = subst (λ views. AllBelow passes (seen_in views)) (sym sits.2.1) sits.2.2.3

below_in : (passes : ℕ) (calls : List (ℕ × Call)) → AllBelow passes calls → All (λ (e : Entry). e.0 < passes) (history_of calls)
below_in passes [] below = All-nil (λ (e : Entry). e.0 < passes)
below_in passes (call ∷ calls) below = All-cons (λ (e : Entry). e.0 < passes) (entry_of call) (history_of calls) (All-head (λ (e : ℕ × Call). e.0 < passes) call calls below) (below_in passes calls (All-tail (λ (e : ℕ × Call). e.0 < passes) call calls below))

none_after : (by : Made) (crew : Crew) (table : TableId) (passes number : ℕ) (after : List Shift) → DoneFrom by crew table passes number [] after → after ≡ []
none_after by crew table passes number [] done = refl
none_after by crew table passes number (shift ∷ after) done = elim done [ ]

module _ (by : Made) (crew : Crew) (table : TableId) (passes : ℕ) (shifts : List Shift) (old new : Option Diary) (returned returned' faults faults' : ℕ) (now : Status) where
  one_history : (kept : Option (Pass Call)) → IsKept by table passes shifts kept → (history : History) × All (λ (e : Entry). e.0 < passes) history × AllTold by 0 (map shift_calls shifts) history
  one_history None kept = ([], All-nil (λ (e : Entry). e.0 < passes), subst (λ (l : List Shift). AllTold by 0 (map shift_calls l) []) (sym kept) (none_told by []))
  one_history (Some pass) kept = (history_of (seen_of pass), below_in passes (seen_of pass) (seen_below table passes pass kept.sits), kept.told)

  pub finishes : (rest : List Post) (kept : Option (Pass Call)) → rest ≡ [] → SoFar by crew table passes shifts rest kept old new returned returned' faults faults' now → Finished by crew passes shifts old new returned returned' faults faults' now
  finishes rest kept none so =
      let ended = none_after by crew table passes (length so.before) so.after (subst (λ (l : List Post). DoneFrom by crew table passes (length so.before) l so.after) none so.left) in
      let whole : shifts ≡ so.before = so.parts ∙ (ap (λ (l : List Shift). so.before ++ l) ended ∙ append-nil so.before) in
      let h = one_history kept (subst (λ (l : List Shift). IsKept by table passes l kept) (sym whole) so.is_kept) in
      record {
        history = h.0;
        back = so.back;
        below = h.1;
        told = h.2;
        tell = subst (λ (l : List Shift). AreShifts crew.settings crew.places crew.connections l so.back) (sym whole) so.tell;
        diary = so.diary;
        gave_back = subst (λ (l : List Shift). GaveBack returned returned' (length l)) (sym whole) so.gave_back;
        ends_so = so.ends_so ∙ ap status_of (sym whole);
        failed = so.failed;
      }

-- ---- the loop over the workers

pub kept_next : (table : TableId) (passes : ℕ) (home : Standing) (old new : Option (Pass Call)) → TakesIn home old new → home.table ≡ table → home.passes ≡ passes → IfSome new (λ keep. SitsAt table passes keep)
kept_next table passes home None None takes same_table same_passes = tt
kept_next table passes home (Some old) None takes same_table same_passes = tt
kept_next table passes home None (Some new) takes same_table same_passes = subst (λ t. SitsAt t passes new) same_table (subst (λ n. SitsAt home.table n new) same_passes takes.0)
kept_next table passes home (Some old) (Some new) takes same_table same_passes = subst (λ t. SitsAt t passes new) same_table (subst (λ n. SitsAt home.table n new) same_passes takes.0)

module _ {X : Type 0} (f : X → Post) (table : TableId) (passes : ℕ) where
  pub cell_next : (items rest : List X) (x : X) → items ≡ x ∷ rest → All (IsInCell table passes) (map f items) → IsInCell table passes (f x) × All (IsInCell table passes) (map f rest)
  cell_next items rest x is all =
      let here = subst (λ (l : List X). All (IsInCell table passes) (map f l)) is all in
      (All-head (IsInCell table passes) (f x) (map f rest) here, All-tail (IsInCell table passes) (f x) (map f rest) here)

  module _ (by : Made) (crew : Crew) (shifts : List Shift) where
    pub so_init : (all items : List X) (diary : Option Diary) (returned faults : ℕ) → items ≡ all → DoneFrom by crew table passes 0 (map f all) shifts → SoFar by crew table passes shifts (map f items) None diary diary returned returned faults faults status.Done
    so_init all items diary returned faults is done = begins by crew table passes shifts (map f items) diary returned faults (diary_same diary) (subst (λ (l : List X). DoneFrom by crew table passes 0 (map f l) shifts) (sym is) done)

    pub so_next : (items rest : List X) (x : X) (kept kept' : Option (Pass Call)) (d0 d1 d2 : Option Diary) (r0 r1 r2 f0 f1 f2 : ℕ) (earlier now : Status) → items ≡ x ∷ rest → SoFar by crew table passes shifts (map f items) kept d0 d1 r0 r1 f0 f1 earlier
        → TakesIn (f x).home kept kept' → DiaryGrows d1 d2 [] ((f x).tells ∷ []) → r2 ≡ min (r1 + 1) (2 ^ 64 - 1) → f0 ≤ f1 → f1 ≤ f2 → (0 < (f x).tells.faults → Rose f1 f2) → now ≡ after_end earlier (f x).end
        → SoFar by crew table passes shifts (map f rest) kept' d0 d2 r0 r2 f0 f2 now
    so_next items rest x kept kept' d0 d1 d2 r0 r1 r2 f0 f1 f2 earlier now is so takes diary returned less more cause ends =
        goes_on by crew table passes shifts (f x) (map f rest) kept kept' d0 d1 d2 r0 r1 r2 f0 f1 f2 earlier now (subst (λ (l : List X). SoFar by crew table passes shifts (map f l) kept d0 d1 r0 r1 f0 f1 earlier) is so) takes diary returned less more cause ends

    pub so_ends : (items : List X) (n : ℕ) (kept : Option (Pass Call)) (old new : Option Diary) (returned returned' faults faults' : ℕ) (now : Status) → n ≡ length items → n ≡ 0 → SoFar by crew table passes shifts (map f items) kept old new returned returned' faults faults' now
        → Finished by crew passes shifts old new returned returned' faults faults' now
    so_ends items n kept old new returned returned' faults faults' now is nought so = finishes by crew table passes shifts old new returned returned' faults faults' now (map f items) kept (ap (map f) (none_left n items is nought)) so
