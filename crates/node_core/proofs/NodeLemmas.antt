-- What a node's journal has after a call.
use Rattle.std.proofs.Common.{◌≡◌, ℕ, ◌+◌, ◌≤◌, ◌==◌, ◌&&◌, ◌||◌, ◌↔◌, Bool, true, false, not, arith, OnErr, List, [], ◌∷◌, ◌++◌, map, refl, sym, ap, ◌∙◌, Option, Result, Ok, Err, IfOk, IsOk, subst, inl, inr}
use Rattle.std.specs.List.{list_any}
use Rattle.std.proofs.lemmas.Bool.{cases_Bool}
use Rattle.std.proofs.lemmas.List.{map-append}
use Rattle.delivery_core.specs.Edge.{EdgeView}
use Rattle.shelf.specs.Open.{is_named}
use Rattle.delivery_core.specs.Traces.{flight, refreshing, unplaced}
use Rattle.shelf.specs.declared.open.Open.{Open}
use Rattle.history.specs.Event.{Entry, Event, History, Admit, FetchEnd, Finish, RefreshBegin, RefreshEnd, Command, Advance, Cancel, Delete, ReadStatus, Lists, Cut, LogFile, ListLogs, DropLog}
use Rattle.history.specs.History.{world_of}
use Rattle.history.specs.After.{begun_delivery, begun_fetch, begun_refresh}
use Rattle.history.specs.Laws.{HasBegun, IsOpen, ends_delivery, ends_fetch, ends_refresh}
use Rattle.history.specs.World.{Begun, Delivering, Kept, Made, Trigger, is_open}
use Rattle.history.specs.declared.reply.Reply.{Reply}
use Rattle.journal.specs.Seen.{Seen, pushed}
use Rattle.node_core.proofs.EndLemmas.{same_ok}
use Rattle.node_core.specs.Call.{entry_of, is_end, stripped, stripped_event}
use Rattle.std.specs.declared.alloc.AllocError.{AllocError}
use Rattle.node_core.specs.Home.{EndsOpen}
use Rattle.node_core.specs.Needed.{need_of}
use Rattle.node_core.specs.Node.{Adds, Holds, NodeView, node_view}
use Rattle.node_core.specs.State.{Ends, Follows, Says, StateHolding, StateView, ends_open, is_not_open}
use Rattle.node_core.specs.Triggering.{completes_purge}
use Rattle.shelf.specs.KeptShelf.{IsPartOfOrKept}
use Rattle.delivery_core.specs.OpenCount.{open_count}
use Rattle.cdni_base.specs.Limits.{Bounds}
use Rattle.node_core.specs.declared.entered.Entered.{Entered}

-- what is no end brings nothing
pub unstripped : (event : Event) → is_end event ≡ false → event ≡ stripped_event event
unstripped (FetchEnd fetch outcome moment) is = absurd (cc)
unstripped (RefreshEnd refresh tree moment) is = absurd (cc)
unstripped (Finish delivery status total entity moment) is = refl
unstripped (Admit request moment) is = refl
unstripped (RefreshBegin moment) is = refl
unstripped (Command spec moment) is = refl
unstripped (Advance id moment) is = refl
unstripped (Cancel ids moment) is = refl
unstripped (Delete id) is = refl
unstripped (ReadStatus id) is = refl
unstripped (Lists filter) is = refl
unstripped (Cut moment) is = refl
unstripped (LogFile number) is = refl
unstripped ListLogs is = refl
unstripped (DropLog number) is = refl

-- the journal has the call at its end
pub entered : (made made' : Made) (old new : StateHolding) (journal room journal' : Seen Entered) (pass : ℕ) (event : Event) (r : Reply) (entry : Entered)
    → ((m : Made) (h : History) → Follows old.seen m h → Says m h (pass, event) r new.seen) → IsPartOfOrKept new.held old.held new.seen.edge.kept
    → (completes_purge old.seen.control.triggers.triggers event r ≡ true → new.held ≡ new.seen.edge.kept) → room.stored ≡ journal.stored → room.retired ≡ journal.retired → journal' ≡ pushed room entry
    → entry_of entry ≡ stripped (pass, event) → entry.need ≡ need_of r → Adds (node_view made old journal) (pass, event) r (node_view made' new journal')
entered made made' old new journal room journal' pass event r entry says held swept stored retired is same need = record {
  says = says;
  held = held;
  swept = swept;
  retired = ap (λ (j : Seen Entered). j.retired) is ∙ retired;
  stored = ap (λ (j : Seen Entered). map entry_of j.stored) is ∙ map-append entry_of room.stored (entry ∷ []) ∙ (λ i. map entry_of (stored i) ++ same i ∷ []);
  needs = ap (λ (j : Seen Entered). map (λ (e : Entered). e.need) j.stored) is ∙ map-append (λ (e : Entered). e.need) room.stored (entry ∷ []) ∙ (λ i. map (λ (e : Entered). e.need) (stored i) ++ need i ∷ []);
}

-- ---- the start

pub none_open : (v : StateView) (made : Made) → Follows v made [] → open_count v.edge ≤ 0
unfolding world_of
none_open v made s = rw s.edge (omega arith)

pub heading_at_start : (v : StateView) (made : Made) → Follows v made [] → v.heading ≡ made.heading
unfolding world_of
heading_at_start v made s = s.heading

-- ---- places

not_there : (there : Bool) (t : Bool) → t ≡ not there → t ≡ true → there ≡ false
not_there true t is so = absurd (cc)
not_there false t is so = refl

is_there : (there : Bool) (t : Bool) → t ≡ not there → t ≡ false → there ≡ true
is_there true t is so = refl
is_there false t is so = absurd (cc)

module _ (old new : StateView) (there : Bool) (r : Reply) (ends : Ends old new there r) where
  few_by : (places places' : ℕ) (t : Bool) → is_not_open r ≡ t → open_count old.edge ≤ places → (is_not_open r ≡ false → places' + 1 ≡ places) → (is_not_open r ≡ true → places' ≡ places) → open_count new.edge ≤ places'
  few_by places places' true is few freed same =
      let kept = ap (λ (v : StateView). open_count v.edge) (ends.closed (not_there there (is_not_open r) ends.found is)) in
      let left = same is in omega (arith, few, kept, left)
  few_by places places' false is few freed same =
      let less = ends.freed (is_there there (is_not_open r) ends.found is) in
      let left = freed is in omega (arith, few, less, left)

  pub was_open : there ≡ true → is_not_open r ≡ false
  was_open so = ends.found ∙ ap not so

pub few_left : (old new : StateView) (there : Bool) (r : Reply) (places places' : ℕ) → Ends old new there r → open_count old.edge ≤ places → (is_not_open r ≡ false → places' + 1 ≡ places) → (is_not_open r ≡ true → places' ≡ places)
    → open_count new.edge ≤ places'
few_left old new there r places places' ends few freed same = few_by old new there r ends places places' (is_not_open r) refl few freed same

pub not_ok : {A E : Type 0} (r : Result A E) (e : E) → r ≡ Err e → IsOk r → ⊥
not_ok (Ok a) e is ok = absurd (cc)
not_ok (Err x) e is ok = absurd (cc)

pub was_not_open : {A E : Type 0} (r : Result A E) (e : E) (t : Bool) → r ≡ Err e → (t ≡ false → IsOk r) → t ≡ true
was_not_open r e true is ok = refl
was_not_open r e false is ok = absurd (not_ok r e is (ok refl))

pub on_err : {A E : Type 0} {P : Type 0} (r : Result A E) → P → OnErr r P
on_err (Ok a) p = tt
on_err (Err e) p = p

abbrev pub node_of : Made → StateView → List Kept → ℕ → List Entered → NodeView
node_of made state held retired stored = record { made = made; state = state; held = held; retired = retired; stored = map entry_of stored; needs = map (λ entered. entered.need) stored }

-- where it was not open, nothing has changed
pub same_left : (old new : StateView) (held held' : List Kept) (there : Bool) (r : Reply) (limits : Bounds) (retired retired' : ℕ) (stored stored' : List Entered) → Ends old new there r → (there ≡ false → held' ≡ held) → is_not_open r ≡ true → retired' ≡ retired → stored' ≡ stored
    → node_of (record { limits = limits; heading = new.heading }) new held' retired' stored' ≡ node_of (record { limits = limits; heading = old.heading }) old held retired stored
same_left old new held held' there r limits retired retired' stored stored' ends closed so count same =
    let none = not_there there (is_not_open r) ends.found so in
    ap (λ (v : StateView). node_of (record { limits = limits; heading = v.heading }) v held' retired' stored') (ends.closed none)
    ∙ (λ i. node_of (record { limits = limits; heading = old.heading }) old (closed none i) (count i) (same i))

-- ---- what is open

pub any_open : {A B : Type 0} (f : Begun A → Open B) → ((one : Begun A) → ((f one).number ≡ one.number) × ((f one).pass ≡ one.pass)) → (number pass : ℕ) (begun : List (Begun A))
    → list_any (is_named number pass) (map f begun) ≡ list_any (is_open number pass) begun
any_open f same number pass [] = refl
any_open f same number pass (one ∷ ones) =
    ap (λ n. (n == number && (f one).pass == pass) || list_any (is_named number pass) (map f ones)) (same one).0
    ∙ ap (λ n. (one.number == number && n == pass) || list_any (is_named number pass) (map f ones)) (same one).1
    ∙ ap (λ t. is_open number pass one || t) (any_open f same number pass ones)

-- what has begun and not ended, is open
abbrev pub OpenLaw : {A : Type 0} → (Delivering → List (Begun A)) → (Reply → Option ℕ) → (ℕ → ℕ → Entry → Bool) → Type 0
OpenLaw begun given ends = (made : Made) (h : History) (number pass : ℕ) → IsOpen number pass (begun (world_of made h).delivering) ↔ HasBegun made given ends h number pass

module _ (deliveries : OpenLaw (λ d. d.deliveries) begun_delivery ends_delivery) (fetches : OpenLaw (λ d. d.fetches) begun_fetch ends_fetch) (refreshes : OpenLaw (λ d. d.refreshes) begun_refresh ends_refresh)
    (made : Made) (h : History) (v : NodeView) (s : Holds v made h) (pass : ℕ) where
  pub ends_open_by : (event : Event) → EndsOpen made h pass event → ends_open v.state.edge pass event ≡ true
  ends_open_by (FetchEnd fetch outcome moment) begun =
      ap (λ (e : EdgeView). list_any (is_named fetch pass) e.fetches) s.state.edge ∙ any_open (flight (world_of made h).delivering.starts) (λ one. (refl, refl)) fetch pass (world_of made h).delivering.fetches ∙ (fetches made h fetch pass).1 begun
  ends_open_by (RefreshEnd refresh tree moment) begun =
      ap (λ (e : EdgeView). list_any (is_named refresh pass) e.refreshes) s.state.edge ∙ any_open (refreshing (world_of made h).delivering.starts) (λ one. (refl, refl)) refresh pass (world_of made h).delivering.refreshes ∙ (refreshes made h refresh pass).1 begun
  ends_open_by (Finish delivery status total entity moment) begun =
      ap (λ (e : EdgeView). list_any (is_named delivery pass) e.deliveries) s.state.edge ∙ any_open unplaced (λ one. (refl, refl)) delivery pass (world_of made h).delivering.deliveries ∙ (deliveries made h delivery pass).1 begun
  ends_open_by (Admit request moment) begun = absurd begun
  ends_open_by (RefreshBegin moment) begun = absurd begun
  ends_open_by (Command spec moment) begun = absurd begun
  ends_open_by (Advance id moment) begun = absurd begun
  ends_open_by (Cancel ids moment) begun = absurd begun
  ends_open_by (Delete id) begun = absurd begun
  ends_open_by (ReadStatus id) begun = absurd begun
  ends_open_by (Lists filter) begun = absurd begun
  ends_open_by (Cut moment) begun = absurd begun
  ends_open_by (LogFile number) begun = absurd begun
  ends_open_by ListLogs begun = absurd begun
  ends_open_by (DropLog number) begun = absurd begun

-- what is not the end of something ends nothing that is open
pub ends_nothing : (made : Made) (h : History) (pass : ℕ) (event : Event) → false ≡ is_end event → EndsOpen made h pass event → ⊥
ends_nothing made h pass (FetchEnd fetch outcome moment) is begun = absurd (cc)
ends_nothing made h pass (RefreshEnd refresh tree moment) is begun = absurd (cc)
ends_nothing made h pass (Finish delivery status total entity moment) is begun = absurd (cc)
ends_nothing made h pass (Admit request moment) is begun = begun
ends_nothing made h pass (RefreshBegin moment) is begun = begun
ends_nothing made h pass (Command spec moment) is begun = begun
ends_nothing made h pass (Advance id moment) is begun = begun
ends_nothing made h pass (Cancel ids moment) is begun = begun
ends_nothing made h pass (Delete id) is begun = begun
ends_nothing made h pass (ReadStatus id) is begun = begun
ends_nothing made h pass (Lists filter) is begun = begun
ends_nothing made h pass (Cut moment) is begun = begun
ends_nothing made h pass (LogFile number) is begun = begun
ends_nothing made h pass ListLogs is begun = begun
ends_nothing made h pass (DropLog number) is begun = begun

pub begun_is_end : (made : Made) (h : History) (pass : ℕ) (event : Event) → EndsOpen made h pass event → is_end event ≡ true
begun_is_end made h pass event begun = elim (cases_Bool (is_end event)) [
  | inl end ↦ end
  | inr other ↦ absurd (ends_nothing made h pass event (sym other) begun)
]

-- the end of something completes no purge
pub ends_no_purge : (triggers : List Trigger) (event : Event) (r : Reply) → is_end event ≡ true → completes_purge triggers event r ≡ true → ⊥
ends_no_purge triggers (FetchEnd fetch outcome moment) r is so = absurd (cc)
ends_no_purge triggers (RefreshEnd refresh tree moment) r is so = absurd (cc)
ends_no_purge triggers (Finish delivery status total entity moment) r is so = absurd (cc)
ends_no_purge triggers (Admit request moment) r is so = absurd (cc)
ends_no_purge triggers (RefreshBegin moment) r is so = absurd (cc)
ends_no_purge triggers (Command spec moment) r is so = absurd (cc)
ends_no_purge triggers (Advance id moment) r is so = absurd (cc)
ends_no_purge triggers (Cancel ids moment) r is so = absurd (cc)
ends_no_purge triggers (Delete id) r is so = absurd (cc)
ends_no_purge triggers (ReadStatus id) r is so = absurd (cc)
ends_no_purge triggers (Lists filter) r is so = absurd (cc)
ends_no_purge triggers (Cut moment) r is so = absurd (cc)
ends_no_purge triggers (LogFile number) r is so = absurd (cc)
ends_no_purge triggers ListLogs r is so = absurd (cc)
ends_no_purge triggers (DropLog number) r is so = absurd (cc)

-- an answer that is known
pub ok_of : (P : Reply → Type 0) (result : Result Reply AllocError) (r : Reply) → result ≡ Ok r → IfOk result P → P r
ok_of P (Ok x) r is p = subst P (same_ok is) p
ok_of P (Err e) r is p = absurd (cc)

pub ok_as : (P : Reply → Type 0) (result : Result Reply AllocError) (r : Reply) → result ≡ Ok r → P r → IfOk result P
ok_as P (Ok x) r is p = subst P (sym (same_ok is)) p
ok_as P (Err e) r is p = tt
