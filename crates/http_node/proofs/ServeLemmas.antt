-- The command that serves.
use Rattle.std.proofs.Common.{◌≡◌, ◌≢◌, ◌⊎◌, ℕ, suc, ◌+◌, ◌≤◌, List, [], ◌∷◌, ◌++◌, All, length, None, Some, refl, sym, ◌∙◌, ap, subst, inl, inr, arith, append-nil, length-append, true}
use Rattle.std.proofs.lemmas.Option.{same_Some}
use Rattle.std.specs.Prelude.{replicate, Ok, Err, IfErr, IfOk, IsSome, String}
use Rattle.std.specs.declared.alloc.Global.{Global}
use Rattle.std.specs.declared.result.Result.{Result}
use Rattle.std.specs.declared.option.Option.{Option}
use Rattle.doors.specs.Address.{address_of}
use Rattle.doors.specs.Outside.{Asked, Diary, DiaryGrows, HasFaultCause, Hired, Listened, Placed, Tellings}
use Rattle.doors.specs.declared.outside.OutsideFault.{OutsideFault}
use Rattle.doors.specs.declared.outside.OutsideFault.TheVariants as fault
use Rattle.edge_base.specs.Causes.{Rose}
use Rattle.edge_base.specs.declared.status.Status.{Status}
use Rattle.edge_base.specs.declared.status.Status.TheVariants as status
use Rattle.cdni_base.specs.Limits.{Bounds}
use Rattle.cdni_log.specs.declared.field.Field.{Field}
use Rattle.footprints.specs.Settings.{AdvertParts}
use Rattle.location_acl.specs.Line.{AreLines, StopsAt}
use Rattle.location_acl.specs.declared.line.PlaceLine.{PlaceLine}
use Rattle.serve_words.specs.Options.{options_of}
use Rattle.serve_words.specs.declared.options.Options.{Options}
use Rattle.session_base.specs.declared.settings.Settings.{Settings}
use Rattle.workers.proofs.CrewLemmas.{IsEnd, is_end}
use Rattle.workers.proofs.HiringLemmas.{diary_same, diary_then}
use Rattle.workers.specs.declared.crew.Crew.{Crew}
use Rattle.history.specs.World.{Made, node_made}
use Rattle.http_node.specs.Note.{IsNoted, serve_note}
use Rattle.workers.specs.Crew.{AreShifts, Dismissed, GaveBack, Served, Serves, Shift, fault_status, refused, refused_status}
use Rattle.workers.specs.declared.hiring.Unhired.{Unhired}
use Rattle.workers.specs.declared.hiring.Unhired.TheVariants as unhired
use Rattle.http_node.specs.Serve.{HasNoTable, IsCommand, IsTable, IsUnread, Listens, ListensAndServes, ListensNot, Manned, Places, Stops, StopsSo, crew_of, line_of, made_of, settings_of, status_at}
use Rattle.http_node.specs.declared.serve.ServeEnd.{ServeEnd}
use Rattle.http_node.specs.declared.serve.ServeEnd.TheVariants as serve_end

-- ---- the status of a fault

fault_kind : (met : OutsideFault) → (fault_status met ≡ status.Memory) ⊎ (fault_status met ≡ status.Outside)
fault_kind fault.BadAddress = inr refl
fault_kind fault.Failed = inr refl
fault_kind fault.Memory = inl refl

fault_not_done : (met : OutsideFault) → fault_status met ≡ status.Done → ⊥
fault_not_done fault.BadAddress is = cc
fault_not_done fault.Failed is = cc
fault_not_done fault.Memory is = cc

fault_outside : {A R : Type 0} (met : OutsideFault) → (met ≡ fault.BadAddress → A) → (met ≡ fault.Failed → R) → fault_status met ≡ status.Outside → A ⊎ R
fault_outside fault.BadAddress bad rose is = inl (bad refl)
fault_outside fault.Failed bad rose is = inr (rose refl)
fault_outside fault.Memory bad rose is = absurd (cc)

swapped : {A B : Type 0} → A ⊎ B → B ⊎ A
swapped (inl a) = inr a
swapped (inr b) = inl b

fault_end : (met : OutsideFault) → IsEnd (fault_status met)
fault_end met = inr (fault_kind met)

refused_end : (why : Unhired) → (refused_status why ≡ status.Memory) ⊎ (refused_status why ≡ status.Outside)
refused_end unhired.Memory = inl refl
refused_end (unhired.Fault met) = fault_kind met

no_fault : {A : Type 0} (s : Status) → (s ≡ status.Memory) ⊎ (s ≡ status.Outside) → s ≡ status.Done → A
no_fault s (inl memory) is = absurd (memory_done (sym memory ∙ is))
  where
    memory_done : status.Memory ≡ status.Done → ⊥
    memory_done e = cc
no_fault s (inr outside) is = absurd (outside_done (sym outside ∙ is))
  where
    outside_done : status.Outside ≡ status.Done → ⊥
    outside_done e = cc

-- ---- an empty text

pub no_stop : (number : ℕ) → StopsAt [] number → ⊥
no_stop number stops =
    let e : length {A = ℕ} [] ≡ length (stops.front ++ stops.rest) = ap length stops.parts in
    omega (arith, e, length-append stops.front stops.rest, stops.more)

pub failed_rose : (A : Type 0) (a b : ℕ) (met : OutsideFault) → HasFaultCause {A = A} a b (Err met) → met ≡ fault.Failed → Rose a b
failed_rose A a b fault.BadAddress cause is = absurd (cc)
failed_rose A a b fault.Failed cause is = cause
failed_rose A a b fault.Memory cause is = absurd (cc)

pub err_same : {A : Type 0} (a b : OutsideFault) → ◌≡◌ {A = Result A OutsideFault} (Err a) (Err b) → a ≡ b
err_same a b is = cc

pub not_usage : (result : Status) → (result ≡ status.Done) ⊎ ((result ≡ status.Memory) ⊎ (result ≡ status.Outside)) → result ≡ status.Usage → ⊥
not_usage result (inl done) is = no (sym done ∙ is)
  where
    no : status.Done ≡ status.Usage → ⊥
    no e = cc
not_usage result (inr (inl memory)) is = no (sym memory ∙ is)
  where
    no : status.Memory ≡ status.Usage → ⊥
    no e = cc
not_usage result (inr (inr outside)) is = no (sym outside ∙ is)
  where
    no : status.Outside ≡ status.Usage → ⊥
    no e = cc

-- the options that the words say are those that were read
pub as_read : (options other : Options) (words : List (String Global)) → options_of words ≡ Some options → options_of words ≡ Some other → (old new : Option Diary) (returned returned' faults faults' : ℕ) (result : Status) (noted : Option ℕ → Type 0)
    → ((line : Option ℕ) × IsCommand options old new returned returned' faults faults' line result × noted line) → (line : Option ℕ) × IsCommand other old new returned returned' faults faults' line result × noted line
as_read options other words one two old new returned returned' faults faults' result noted is =
    subst (λ (o : Options). (line : Option ℕ) × IsCommand o old new returned returned' faults faults' line result × noted line) (same_Some options other (sym one ∙ two)) is

-- ---- there is no table of places

module _ (options : Options) (old new : Option Diary) (returned returned' faults faults' : ℕ) where
  no_memory : (calls : List Asked) → DiaryGrows old new calls [] → (calls ≡ []) ⊎ ((path : List ℕ) × (text : List ℕ) × (options.places ≡ Some path) × (calls ≡ Placed path (Ok text) ∷ []))
      → IsCommand options old new returned returned' faults faults' None status.Memory
  no_memory calls diary asked = record {
    done = λ is. absurd (cc);
    gave_back = λ is. absurd (cc);
    kind = inr (inl refl);
    calls = (calls, [], diary, inl (record { asked = asked; none_back = refl; no_line = refl; ends_so = refl }));
    outside = λ is. absurd (cc);
    address = λ none. inr refl;
    bad_line = tt;
  }

  pub no_room : DiaryGrows old new [] [] → IsCommand options old new returned returned' faults faults' None status.Memory
  no_room diary = no_memory [] diary (inl refl)

  bad_line : (path text : List ℕ) (line : ℕ) (calls : List Asked) → options.places ≡ Some path → DiaryGrows old new calls [] → calls ≡ Placed path (Ok text) ∷ [] → StopsAt text line → IsCommand options old new returned returned' faults faults' (Some line) status.Outside
  bad_line path text line calls is diary called stops = record {
    done = λ e. absurd (cc);
    gave_back = λ e. absurd (cc);
    kind = inr (inr refl);
    calls = (calls, [], diary, inr (inl (record { path = path; is_path = is; none = (text, called, stops, refl); none_back = refl })));
    outside = λ e. inl refl;
    address = λ none. inl refl;
    bad_line = refl;
  }

  no_file : (path : List ℕ) (met : OutsideFault) (calls : List Asked) → options.places ≡ Some path → DiaryGrows old new calls [] → calls ≡ Placed path (Err met) ∷ [] → met ≢ fault.BadAddress → (met ≡ fault.Failed → Rose faults faults')
      → IsCommand options old new returned returned' faults faults' None (fault_status met)
  no_file path met calls is diary called other rose = record {
    done = λ e. absurd (fault_not_done met e);
    gave_back = λ e. absurd (fault_not_done met e);
    kind = fault_end met;
    calls = (calls, [], diary, inr (inl (record { path = path; is_path = is; none = (met, called, refl); none_back = refl })));
    outside = λ e. inr (fault_outside met (λ bad. absurd (other bad)) rose e);
    address = λ none. swapped (fault_kind met);
    bad_line = tt;
  }

  stops_so : (path : List ℕ) (calls : List Asked) (end : ServeEnd) → options.places ≡ Some path → DiaryGrows old new calls [] → StopsSo path calls faults faults' end → IsCommand options old new returned returned' faults faults' (line_of end) (status_at end)
  stops_so path calls (serve_end.BadPlace line) is diary stops = bad_line path stops.0 line calls is diary stops.1 stops.2
  stops_so path calls (serve_end.Ended result) is diary (inl m) = subst (λ (s : Status). IsCommand options old new returned returned' faults faults' None s) (sym m.2) (no_memory calls diary (inr (path, m.0, is, m.1)))
  stops_so path calls (serve_end.Ended result) is diary (inr f) = subst (λ (s : Status). IsCommand options old new returned returned' faults faults' None s) (sym f.2) (no_file path f.0 calls is diary f.1 f.3 f.4)

  pub stopped : (path : Option (List ℕ)) (end : ServeEnd) → options.places ≡ path → Stops path old new faults faults' end → IsCommand options old new returned returned' faults faults' (line_of end) (status_at end)
  stopped None end is stops = subst (λ (e : ServeEnd). IsCommand options old new returned returned' faults faults' (line_of e) (status_at e)) (sym stops.1) (no_room stops.0)
  stopped (Some path) end is stops = stops_so path stops.0 end is stops.1 stops.2

-- ---- with a table of places

asked_so : (path : Option (List ℕ)) (asked : List Asked) (places : List PlaceLine) → IsTable path asked places → (asked ≡ []) ⊎ ((one : List ℕ) × (text : List ℕ) × (path ≡ Some one) × (asked ≡ Placed one (Ok text) ∷ []))
asked_so None asked places table = inl table.0
asked_so (Some path) asked places table = inr (path, table.0, refl, table.1)

as_many_back : (settings : Settings) (places : List PlaceLine) (connections : Option ℕ) (shifts : List Shift) (back : List Tellings) → AreShifts settings places connections shifts back → length back ≡ length shifts
as_many_back settings places connections [] [] are = refl
as_many_back settings places connections [] (tells ∷ back) are = elim are [ ]
as_many_back settings places connections (shift ∷ shifts) [] are = elim are [ ]
as_many_back settings places connections (shift ∷ shifts) (tells ∷ back) are = ap suc (as_many_back settings places connections shifts back are.1)

module _ (options : Options) (asked : List Asked) (places : List PlaceLine) (table : IsTable options.places asked places) (old middle new : Option Diary) (returned returned' faults faults1 faults' : ℕ) (result : Status) (placed : DiaryGrows old middle asked []) (less : faults ≤ faults1) where
  unheard : ListensNot options.address middle new returned returned' faults1 faults' result → IsCommand options old new returned returned' faults faults' None result
  unheard l = record {
    done = λ is. absurd (fault_not_done l.met (sym l.ends_so ∙ is));
    gave_back = λ is. absurd (fault_not_done l.met (sym l.ends_so ∙ is));
    kind = subst IsEnd (sym l.ends_so) (fault_end l.met);
    calls = (
      asked ++ Listened options.address (Some l.met) ∷ [],
      [],
      diary_then old middle new asked (Listened options.address (Some l.met) ∷ []) [] [] placed l.diary,
      inr (inr (inl (record {
        asked = asked;
        places = places;
        placed = table;
        met = l.met;
        called = refl;
        none_back = refl;
        no_line = refl;
        ends_so = l.ends_so;
      }))),
    );
    outside = λ is. inr (fault_outside l.met l.bad (λ met. rose_since (l.failed met)) (sym l.ends_so ∙ is));
    address = λ none. subst (λ (s : Status). (s ≡ status.Outside) ⊎ (s ≡ status.Memory)) (sym l.ends_so) (swapped (fault_kind l.met));
    bad_line = tt;
  }
    where
      rose_since : Rose faults1 faults' → Rose faults faults'
      rose_since rose = omega (arith, less, rose)

  whole : (later : Option Diary) (more : List Asked) (back : List Tellings) → DiaryGrows middle later (Listened options.address None ∷ []) [] → DiaryGrows later new more back → DiaryGrows old new (asked ++ Listened options.address None ∷ more) back
  whole later more back listened served = diary_then old middle new asked (Listened options.address None ∷ more) [] back placed (diary_then middle later new (Listened options.address None ∷ []) more [] back listened served)

  served_all : (l : ListensAndServes options.address (made_of options) (crew_of options places) middle new returned returned' faults1 faults' result)
      → Served (made_of options) (crew_of options places) (replicate options.workers (Hired true)) l.middle new l.returned_then returned' l.faults_then faults' result → IsCommand options old new returned returned' faults faults' None result
  served_all l s = record {
    done = λ is. record {
      asked = asked;
      places = places;
      placed = table;
      shifts = s.shifts;
      history = s.history;
      back = s.back;
      count = s.count;
      one = s.one;
      tell = s.tell;
      diary = whole l.middle (replicate options.workers (Hired true)) s.back l.diary s.diary;
      ends = s.well is;
    };
    gave_back = λ is. subst (λ (n : ℕ). GaveBack n returned' options.workers) l.same s.gave_back;
    kind = subst IsEnd (sym s.ends_so) (is_end s.shifts);
    calls = (
      asked ++ Listened options.address None ∷ replicate options.workers (Hired true),
      s.back,
      whole l.middle (replicate options.workers (Hired true)) s.back l.diary s.diary,
      inr (inr (inr (inr (record {
        asked = asked;
        places = places;
        placed = table;
        called = refl;
        as_many = as_many_back (settings_of options) places options.connections s.shifts s.back s.tell ∙ s.count;
        no_line = refl;
      })))),
    );
    outside = λ is. inr (inr (omega (arith, s.failed is, l.later, less)));
    address = λ none. absurd (l.reads none);
    bad_line = tt;
  }

  all_dismissed : (l : ListensAndServes options.address (made_of options) (crew_of options places) middle new returned returned' faults1 faults' result) → Dismissed (crew_of options places) l.middle new l.returned_then returned' l.faults_then faults' result
      → IsCommand options old new returned returned' faults faults' None result
  all_dismissed l d = record {
    done = λ is. no_fault result kind is;
    gave_back = λ is. no_fault result kind is;
    kind = inr kind;
    calls = (
      asked ++ Listened options.address None ∷ (replicate d.number (Hired true) ++ refused d.why),
      d.back,
      whole l.middle (replicate d.number (Hired true) ++ refused d.why) d.back l.diary d.diary,
      inr (inr (inr (inl (record {
        asked = asked;
        places = places;
        placed = table;
        number = d.number;
        why = d.why;
        fewer = d.fewer;
        called = refl;
        as_many = d.as_many;
        no_line = refl;
        ends_so = d.ends_so;
      })))),
    );
    outside = λ is. inr (inr (omega (arith, d.failed is, l.later, less)));
    address = λ none. absurd (l.reads none);
    bad_line = tt;
  }
    where
      kind : (result ≡ status.Memory) ⊎ (result ≡ status.Outside)
      kind = subst (λ (s : Status). (s ≡ status.Memory) ⊎ (s ≡ status.Outside)) (sym d.ends_so) (refused_end d.why)

  pub commanded : Places options places middle new returned returned' faults1 faults' result → IsCommand options old new returned returned' faults faults' None result
  commanded (inl m) =
      subst (λ (s : Status). IsCommand options old new returned returned' faults faults' None s) (sym m.1)
      (no_memory options old new returned returned' faults faults' asked (subst (λ (l : List Asked). DiaryGrows old new l []) (append-nil asked) (diary_then old middle new asked [] [] [] placed m.0)) (asked_so options.places asked places table))
  commanded (inr (inl l)) = unheard l
  commanded (inr (inr l)) = serves_so l l.serves
    where
      serves_so : (l : ListensAndServes options.address (made_of options) (crew_of options places) middle new returned returned' faults1 faults' result) → Serves (made_of options) (crew_of options places) l.middle new l.returned_then returned' l.faults_then faults' result
          → IsCommand options old new returned returned' faults faults' None result
      serves_so l (inl s) = served_all l s
      serves_so l (inr d) = all_dismissed l d

-- ---- finding the table

unread_stops : (path text : List ℕ) (faults faults' : ℕ) (end : ServeEnd) → IsUnread text end → StopsSo path (Placed path (Ok text) ∷ []) faults faults' end
unread_stops path text faults faults' (serve_end.Ended result) unread = inl (text, refl, unread)
unread_stops path text faults faults' (serve_end.BadPlace line) unread = (text, refl, unread)

pub found_after : (path bytes text shown : List ℕ) (old new : Option Diary) (result : Result (List PlaceLine) ServeEnd) → bytes ≡ path → shown ≡ text → DiaryGrows old new (Placed bytes (Ok text) ∷ []) [] → IfOk result (λ places. AreLines shown places)
    → IfOk result (λ places. (asked : List Asked) × IsTable (Some path) asked places × DiaryGrows old new asked [])
found_after path bytes text shown old new (Ok places) same read diary are =
    (Placed path (Ok text) ∷ [], (text, refl, subst (λ (l : List ℕ). AreLines l places) read are), subst (λ (l : List ℕ). DiaryGrows old new (Placed l (Ok text) ∷ []) []) same diary)
found_after path bytes text shown old new (Err end) same read diary are = tt

pub none_after : (path bytes text shown : List ℕ) (old new : Option Diary) (faults faults' : ℕ) (result : Result (List PlaceLine) ServeEnd) → bytes ≡ path → shown ≡ text → DiaryGrows old new (Placed bytes (Ok text) ∷ []) [] → IfErr result (λ end. IsUnread shown end)
    → IfErr result (λ end. Stops (Some path) old new faults faults' end)
none_after path bytes text shown old new faults faults' (Ok places) same read diary unread = tt
none_after path bytes text shown old new faults faults' (Err end) same read diary unread =
    (Placed path (Ok text) ∷ [], subst (λ (l : List ℕ). DiaryGrows old new (Placed l (Ok text) ∷ []) []) same diary, unread_stops path text faults faults' end (subst (λ (l : List ℕ). IsUnread l end) read unread))

pub no_text : (path bytes : List ℕ) (met : OutsideFault) (result : Status) (old new : Option Diary) (faults faults' : ℕ) → bytes ≡ path → DiaryGrows old new (Placed bytes (Err met) ∷ []) [] → result ≡ fault_status met → met ≢ fault.BadAddress → (met ≡ fault.Failed → Rose faults faults')
    → Stops (Some path) old new faults faults' (serve_end.Ended result)
no_text path bytes met result old new faults faults' same diary ends other rose = (Placed path (Err met) ∷ [], subst (λ (l : List ℕ). DiaryGrows old new (Placed l (Err met) ∷ []) []) same diary, inr (met, refl, ends, other, rose))

pub none_unread : (result : Result (List PlaceLine) ServeEnd) → IfErr result (λ end. IsUnread [] end) → IfErr result (λ end. end ≡ serve_end.Ended status.Memory)
none_unread (Ok places) unread = tt
none_unread (Err (serve_end.Ended result)) unread = ap serve_end.Ended unread
none_unread (Err (serve_end.BadPlace line)) unread = absurd (no_stop line unread)

pub found_at : (path other : Option (List ℕ)) (old new : Option Diary) (result : Result (List PlaceLine) ServeEnd) → path ≡ other → IfOk result (λ places. (asked : List Asked) × IsTable other asked places × DiaryGrows old new asked [])
    → IfOk result (λ places. (asked : List Asked) × IsTable path asked places × DiaryGrows old new asked [])
found_at path other old new result same found = subst (λ (p : Option (List ℕ)). IfOk result (λ places. (asked : List Asked) × IsTable p asked places × DiaryGrows old new asked [])) (sym same) found

pub none_at : (path other : Option (List ℕ)) (old new : Option Diary) (faults faults' : ℕ) (result : Result (List PlaceLine) ServeEnd) → path ≡ other → IfErr result (λ end. Stops other old new faults faults' end) → IfErr result (λ end. Stops path old new faults faults' end)
none_at path other old new faults faults' result same none = subst (λ (p : Option (List ℕ)). IfErr result (λ end. Stops p old new faults faults' end)) (sym same) none

pub found_none : (diary : Option Diary) (result : Result (List PlaceLine) ServeEnd) → IfOk result (λ places. AreLines [] places) → IfOk result (λ places. (asked : List Asked) × IsTable None asked places × DiaryGrows diary diary asked [])
found_none diary (Ok places) are = ([], (refl, are), diary_same diary)
found_none diary (Err end) are = tt

pub none_none : (diary : Option Diary) (faults : ℕ) (result : Result (List PlaceLine) ServeEnd) → IfErr result (λ end. end ≡ serve_end.Ended status.Memory) → IfErr result (λ end. Stops None diary diary faults faults end)
none_none diary faults (Ok places) is = tt
none_none diary faults (Err end) is = (diary_same diary, is)

-- ---- serving with it

pub placed_listens : (options : Options) (places : List PlaceLine) (address : List ℕ) (by : Made) (crew : Crew) (old new : Option Diary) (returned returned' faults faults' : ℕ) (result : Status) → address ≡ options.address → by ≡ made_of options → crew ≡ crew_of options places
    → Listens address by crew old new returned returned' faults faults' result → Places options places old new returned returned' faults faults' result
placed_listens options places address by crew old new returned returned' faults faults' result at made workers listens =
    inr (subst (λ (c : Crew). Listens options.address (made_of options) c old new returned returned' faults faults' result) workers
    (subst (λ (m : Made). Listens options.address m crew old new returned returned' faults faults' result) made
    (subst (λ (a : List ℕ). Listens a by crew old new returned returned' faults faults' result) at listens)))

pub since : (options : Options) (places : List PlaceLine) (old new : Option Diary) (returned returned1 returned' faults faults' : ℕ) (result : Status) → returned1 ≡ returned → Places options places old new returned1 returned' faults faults' result → Places options places old new returned returned' faults faults' result
since options places old new returned returned1 returned' faults faults' result same placed = subst (λ (n : ℕ). Places options places old new n returned' faults faults' result) same placed

pub noted_end : (options : Options) (old new : Option Diary) (returned returned' faults faults' : ℕ) (line : Option ℕ) (result other : Status) (bytes text : List ℕ) (held held' : Option (List ℕ)) (before after : ℕ) → result ≡ other → bytes ≡ text → text ≡ serve_note other line
    → IsCommand options old new returned returned' faults faults' line other → IsNoted held held' before after bytes → (at : Option ℕ) × IsCommand options old new returned returned' faults faults' at result × IsNoted held held' before after (serve_note result at)
noted_end options old new returned returned' faults faults' line result other bytes text held held' before after same shown said is noted = (
  line,
  subst (λ (s : Status). IsCommand options old new returned returned' faults faults' line s) (sym same) is,
  subst (λ (s : Status). IsNoted held held' before after (serve_note s line)) (sym same) (subst (λ (l : List ℕ). IsNoted held held' before after l) (shown ∙ said) noted),
)

pub made_as : (limits : Bounds) (a b : List ℕ) (logged fields : List Field) → a ≡ b → logged ≡ fields → node_made limits a logged ≡ node_made limits b fields
made_as limits a b logged fields same files = ap (λ o. node_made limits o logged) same ∙ ap (node_made limits b) files

crew_with : Options → List PlaceLine → AdvertParts → Crew
crew_with options places parts = record {
  workers = options.workers;
  connections = options.connections;
  places = places;
  settings = record { protocol = parts.protocol; control = options.control; root = options.root; own = options.own; advert = options.advert; fields = options.fields };
}

pub crew_as : (options : Options) (places : List PlaceLine) (parts : AdvertParts) → parts ≡ options.advert
    → ◌≡◌ {A = Crew} (record { workers = options.workers; connections = options.connections; places = places; settings = record { protocol = parts.protocol; control = options.control; root = options.root; own = options.own; advert = options.advert; fields = options.fields } })
    (crew_of options places)
unfolding crew_with
crew_as options places parts same = ap (λ (p : AdvertParts). crew_with options places p) same
