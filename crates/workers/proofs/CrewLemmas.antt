-- What a crew has served.
use Rattle.std.proofs.Common.{◌≡◌, ℕ, ◌+◌, ◌≤◌, List, [], ◌∷◌, ◌++◌, All, length, map, refl, sym, ◌∙◌, ap, subst, inl, inr, arith, append-nil, ◌<◌, ◌⊎◌, ◌-◌, ◌^◌, min, take, drop, get_or}
use Rattle.std.proofs.lemmas.List.{length-map}
use Rattle.std.proofs.lemmas.List.Elements.{All-nil, All-cons}
use Rattle.std.specs.List.{flat_map, fold}
use Rattle.std.specs.Prelude.{replicate, true}
use Rattle.std.specs.declared.option.Option.{Option}
use Rattle.doors.specs.Ended.{EndsItsOwn}
use Rattle.doors.specs.Outside.{Asked, Diary, DiaryGrows, Hired, IsNew, Tellings}
use Rattle.doors.specs.Visit.{IsVisit, Visit, calls_of}
use Rattle.doors.specs.declared.serve.DoorEnd.{DoorEnd}
use Rattle.doors.specs.declared.serve.DoorEnd.TheVariants as door_end
use Rattle.edge_base.specs.Causes.{Rose}
use Rattle.edge_base.specs.declared.status.Status.{Status}
use Rattle.edge_base.specs.declared.status.Status.TheVariants as status
use Rattle.history.specs.Event.{Entry, Event, History}
use Rattle.history.specs.History.{reply_to}
use Rattle.history.specs.World.{Made}
use Rattle.history.specs.declared.reply.Reply.{Reply}
use Rattle.location_acl.specs.declared.line.PlaceLine.{PlaceLine}
use Rattle.node_core.specs.Home.{Who}
use Rattle.node_core.specs.Law.{IsLawful}
use Rattle.session_base.specs.Doing.{Told}
use Rattle.session.specs.Law.{KeepsTheLaw}
use Rattle.session_base.specs.declared.settings.Settings.{Settings}
use Rattle.workers.proofs.HiringLemmas.{diary_same, diary_then}
use Rattle.workers.proofs.JobLemmas.{all_done, all_worked, as_many}
use Rattle.workers.specs.Crew.{AllEnd, AllTold, AreShifts, Dismissed, EndsWell, GaveBack, IsOneHistory, Served, Serves, Shift, after_end, refused, refused_status, shift_calls, status_of}
use Rattle.workers.specs.Finishing.{Finished}
use Rattle.workers.specs.declared.crew.Crew.{Crew}
use Rattle.workers.specs.Hiring.{HasCause}
use Rattle.workers.specs.Job.{AllWorked, DoneFrom, Post, ReadyFrom, Worked}
use Rattle.workers.specs.declared.hiring.Unhired.{Unhired}
use Rattle.workers.specs.declared.hiring.Unhired.TheVariants as unhired
use Rattle.atomic_table.specs.Seated.{TableId}
use Rattle.doors.specs.declared.outside.OutsideFault.TheVariants as fault
use Rattle.history.specs.declared.call.Call.{Call}
use Rattle.turn_cell.proofs.Histories.{length-numbers_from}
use Rattle.turn_cell.specs.Cell.{number_of}
use Rattle.turn_cell.specs.History.{numbers_from}
use Rattle.turn_cell.specs.declared.pass.Pass.{Pass}

-- what is opened by visits is ended
abbrev pub EndsVisits : Type 0
EndsVisits = (settings : Settings) (table : List PlaceLine) (who : Who) (visits : List Visit) (h last : History) → All (λ (v : Visit). IsVisit settings table v) visits → Told who h (flat_map calls_of visits) last → EndsItsOwn who (length h) last

abbrev pub IsAlwaysLawful : Type 0
IsAlwaysLawful = (made : Made) (h : History) (pass : ℕ) (event : Event) (answer : Reply) → answer ≡ reply_to made h (pass, event) → IsLawful made h pass event answer

keeps : IsAlwaysLawful → (by : Made) (h : History) → KeepsTheLaw by h
keeps law by h at entry answer a = law by a.before entry.0 entry.1 answer (sym a.answered)

all_end : EndsVisits → (by : Made) (crew : Crew) (number : ℕ) (shifts : List Shift) (back : List Tellings) (h : History) → AreShifts crew.settings crew.places crew.connections shifts back → AllTold by number (map shift_calls shifts) h → AllEnd by number (map shift_calls shifts) h
unfolding AllTold AllEnd
all_end ends by crew number [] back h tell told = tt
all_end ends by crew number (shift ∷ shifts) [] h tell told = elim tell [ ]
all_end ends by crew number (shift ∷ shifts) (tells ∷ back) h tell told = (
  ends crew.settings crew.places (record { made = by; number = number }) shift.visits [] h tell.0.each told.0,
  all_end ends by crew (number + 1) shifts back h tell.1 told.1,
)

-- ---- the status

done_one : (earlier : Status) (end : DoorEnd) → after_end earlier end ≡ status.Done → (earlier ≡ status.Done) × ((end ≡ door_end.Closed) ⊎ (end ≡ door_end.Served))
done_one earlier door_end.Closed is = (is, inl refl)
done_one earlier door_end.Served is = (is, inr refl)
done_one earlier door_end.Failed is = absurd (cc)
done_one status.Outside door_end.Memory is = absurd (cc)
done_one status.Done door_end.Memory is = absurd (cc)
done_one status.Script door_end.Memory is = absurd (cc)
done_one status.Usage door_end.Memory is = absurd (cc)
done_one status.ReadFault door_end.Memory is = absurd (cc)
done_one status.WriteFault door_end.Memory is = absurd (cc)
done_one status.Memory door_end.Memory is = absurd (cc)

all_well : (earlier : Status) (shifts : List Shift) → fold (λ (s : Status) (x : Shift). after_end s x.end) earlier shifts ≡ status.Done → (earlier ≡ status.Done) × All EndsWell shifts
all_well earlier [] is = (is, All-nil EndsWell)
all_well earlier (shift ∷ shifts) is =
    let rest = all_well (after_end earlier shift.end) shifts is in
    let one = done_one earlier shift.end rest.0 in
    (one.0, All-cons EndsWell shift shifts one.1 rest.1)

-- how serving ends
abbrev pub IsEnd : Status → Type 0
IsEnd s = (s ≡ status.Done) ⊎ ((s ≡ status.Memory) ⊎ (s ≡ status.Outside))

end_one : (earlier : Status) (end : DoorEnd) → IsEnd earlier → IsEnd (after_end earlier end)
end_one earlier door_end.Closed is = is
end_one earlier door_end.Served is = is
end_one earlier door_end.Failed is = inr (inr refl)
end_one status.Outside door_end.Memory is = inr (inr refl)
end_one status.Done door_end.Memory is = inr (inl refl)
end_one status.Script door_end.Memory is = inr (inl refl)
end_one status.Usage door_end.Memory is = inr (inl refl)
end_one status.ReadFault door_end.Memory is = inr (inl refl)
end_one status.WriteFault door_end.Memory is = inr (inl refl)
end_one status.Memory door_end.Memory is = inr (inl refl)

all_end_so : (earlier : Status) (shifts : List Shift) → IsEnd earlier → IsEnd (fold (λ (s : Status) (x : Shift). after_end s x.end) earlier shifts)
all_end_so earlier [] is = is
all_end_so earlier (shift ∷ shifts) is = all_end_so (after_end earlier shift.end) shifts (end_one earlier shift.end is)

pub is_end : (shifts : List Shift) → IsEnd (status_of shifts)
is_end shifts = all_end_so status.Done shifts (inl refl)

-- ---- a crew

pub served : EndsVisits → IsAlwaysLawful → (by : Made) (crew : Crew) (passes : ℕ) (shifts : List Shift) (old new : Option Diary) (returned returned' faults faults' : ℕ) (result : Status) → length shifts ≡ crew.workers → passes ≡ crew.workers
    → Finished by crew passes shifts old new returned returned' faults faults' result → Served by crew [] old new returned returned' faults faults' result
served ends law by crew passes shifts old new returned returned' faults faults' result count made f = record {
  shifts = shifts;
  history = f.history;
  back = f.back;
  count = count;
  one = record {
    below = subst (λ (n : ℕ). All (λ (e : Entry). e.0 < n) f.history) (made ∙ sym count) f.below;
    told = f.told;
    ended = all_end ends by crew 0 shifts f.back f.history f.tell f.told;
    law = keeps law by f.history;
  };
  tell = f.tell;
  diary = f.diary;
  gave_back = subst (GaveBack returned returned') count f.gave_back;
  ends_so = f.ends_so;
  well = λ is. (all_well status.Done shifts (sym f.ends_so ∙ is)).1;
  failed = f.failed;
}

-- the same since the workers were hired
pub served_since : (by : Made) (crew : Crew) (number : ℕ) (old middle new : Option Diary) (r0 r1 r2 f0 f1 f2 : ℕ) (result : Status) → number ≡ crew.workers → DiaryGrows old middle (replicate number (Hired true)) [] → r1 ≡ r0 → f0 ≤ f1
    → Served by crew [] middle new r1 r2 f1 f2 result → Serves by crew old new r0 r2 f0 f2 result
served_since by crew number old middle new r0 r1 r2 f0 f1 f2 result count diary same less s = inl (record {
  shifts = s.shifts;
  history = s.history;
  back = s.back;
  count = s.count;
  one = s.one;
  tell = s.tell;
  diary = subst (λ (l : List Asked). DiaryGrows old new l s.back) (append-nil (replicate number (Hired true)) ∙ ap (λ n. replicate n (Hired true)) count) (diary_then old middle new (replicate number (Hired true)) [] [] s.back diary s.diary);
  gave_back = subst (λ (n : ℕ). GaveBack n r2 crew.workers) same s.gave_back;
  ends_so = s.ends_so;
  well = s.well;
  failed = λ is. omega (arith, s.failed is, less);
})

pub dismissed : (by : Made) (crew : Crew) (number : ℕ) (why : Unhired) (back : List Tellings) (old middle new : Option Diary) (r0 r1 r2 f0 f1 f2 : ℕ) (result : Status) → number ≤ crew.workers → DiaryGrows old middle (replicate number (Hired true) ++ refused why) [] → DiaryGrows middle new [] back
    → All IsNew back → length back ≡ number → r1 ≡ r0 → GaveBack r1 r2 number → (refused_status why ≡ status.Outside → Rose f0 f1) → f1 ≤ f2 → result ≡ refused_status why → Serves by crew old new r0 r2 f0 f2 result
dismissed by crew number why back old middle new r0 r1 r2 f0 f1 f2 result fewer diary given are_new as_many same gave_back cause less is = inr (record {
  number = number;
  why = why;
  back = back;
  fewer = fewer;
  diary = subst (λ (l : List Asked). DiaryGrows old new l back) (append-nil (replicate number (Hired true) ++ refused why)) (diary_then old middle new (replicate number (Hired true) ++ refused why) [] [] back diary given);
  are_new = are_new;
  as_many = as_many;
  gave_back = subst (λ (n : ℕ). GaveBack n r2 number) same gave_back;
  ends_so = is;
  failed = λ outside. omega (arith, cause (sym is ∙ outside), less);
})

-- ---- the workers that were hired

whole_again : {X : Type 0} (new old : List X) → length new ≡ length old → take (length old) (new ++ drop (length new) old) ≡ new
whole_again [] [] same = refl
whole_again [] (y ∷ old) same = absurd (omega (arith, same))
whole_again (x ∷ new) [] same = absurd (omega (arith, same))
whole_again (x ∷ new) (y ∷ old) same = ap (λ l. x ∷ l) (whole_again new old (omega (arith, same)))

module _ {X : Type 0} (f : X → Post) (by : Made) (crew : Crew) (table : TableId) (passes : ℕ) where
  pub hired_done : (n : ℕ) (items olds news : List X) → n ≡ length items → olds ≡ items → length news ≡ length olds → ((i : ℕ) (d : X) → i < length olds → Worked by crew (f (get_or olds i d)) (f (get_or news i d))) → ReadyFrom table passes 0 (map f items)
      → (shifts : List Shift) × DoneFrom by crew table passes 0 (map f (take n (news ++ drop (length news) items))) shifts × (length shifts ≡ length items)
  hired_done n items olds news long same len each ready =
      let len' : length news ≡ length items = len ∙ ap length same in
      let worked = subst (λ (l : List X). AllWorked by crew (map f l) (map f news)) same (all_worked f by crew olds news len each) in
      let done = all_done by crew table passes 0 (map f items) (map f news) ready worked in
      let whole : take n (news ++ drop (length news) items) ≡ news = ap (λ (k : ℕ). take k (news ++ drop (length news) items)) long ∙ whole_again news items len' in
      (done.0, subst (λ (l : List X). DoneFrom by crew table passes 0 (map f l) done.0) (sym whole) done.1, as_many by crew table passes 0 (map f news) done.0 done.1 ∙ (length-map news f ∙ len'))

  pub all_ready_new : (number : ℕ) (items : List X) → ReadyFrom table passes number (map f items) → All IsNew (map (λ x. (f x).tells) items)
  all_ready_new number [] ready = All-nil IsNew
  all_ready_new number (x ∷ items) ready = All-cons IsNew (f x).tells (map (λ y. (f y).tells) items) ready.0.fresh (all_ready_new (number + 1) items ready.1)

pub refused_rose : (faults faults' : ℕ) (why : Unhired) → HasCause faults faults' why → refused_status why ≡ status.Outside → Rose faults faults'
refused_rose faults faults' unhired.Memory cause is = absurd (cc)
refused_rose faults faults' (unhired.Fault fault.BadAddress) cause is = absurd cause
refused_rose faults faults' (unhired.Fault fault.Failed) cause is = cause
refused_rose faults faults' (unhired.Fault fault.Memory) cause is = absurd (cc)

pub count_new : (passes : List (Pass Call)) (many : ℕ) → map number_of passes ≡ numbers_from 0 many → length passes ≡ many
count_new passes many is = sym (length-map passes number_of) ∙ (ap length is ∙ length-numbers_from 0 many)

-- want of memory for the cell
pub no_cell : (by : Made) (crew : Crew) (diary : Option Diary) (returned faults : ℕ) → Serves by crew diary diary returned returned faults faults status.Memory
no_cell by crew diary returned faults = inr (record {
  number = 0;
  why = unhired.Memory;
  back = [];
  fewer = omega arith;
  diary = diary_same diary;
  are_new = All-nil IsNew;
  as_many = refl;
  gave_back = ap (λ (n : ℕ). min n (2 ^ 64 - 1)) (let e : returned ≡ returned + 0 = omega arith in e);
  ends_so = refl;
  failed = λ is. absurd (cc);
})
