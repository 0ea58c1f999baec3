-- What a node's calls tell of its history.
use Rattle.std.proofs.Common.{◌≡◌, ℕ, ◌+◌, ◌==◌, Bool, true, false, List, [], map, unwrap_or, refl, sym, ap, ◌∙◌, subst, arith, None, Some, Option}
use Rattle.std.specs.List.{find}
use Rattle.std.proofs.lemmas.Bool.{eqb-false}
use Rattle.cdni_base.specs.Limits.{AreInRange, Bounds}
use Rattle.control_core.specs.Control.{ControlView, with_triggers}
use Rattle.control_core.specs.Control.{empty as no_files}
use Rattle.delivery_core.proofs.Growth.{admit_grows}
use Rattle.delivery_core.proofs.PlacedLemmas.{placed}
use Rattle.delivery_core.proofs.Squares as squares
use Rattle.delivery_core.specs.Edge.{EdgeView, admit_after, admit_reply, begin_after, empty, fetch_end_after, fetch_end_reply, finish_after, finish_reply, fresh_reply, install_after, install_reply, newer, next_due, refresh_end_after, refresh_end_reply}
use Rattle.shelf.specs.Open.{is_named, unnamed}
use Rattle.delivery_core.specs.Refreshes.{Refreshing, first_noted}
use Rattle.delivery_core.specs.Traces.{edge_of, fetch_ended, finished, refresh_ended, reply_of}
use Rattle.shelf.specs.declared.open.Open.{Open}
use Rattle.shelf.specs.declared.kept_shelf.Flight.{Flight}
use Rattle.cdni_log.specs.declared.row.Row.{Row}
use Rattle.history.specs.declared.begun.Admission.{Admission}
use Rattle.delivery_core.specs.declared.results.Admitted.{Admitted}
use Rattle.delivery_core.specs.declared.results.Admitted.TheVariants as admitted
use Rattle.delivery_core.specs.declared.results.Began.{Began}
use Rattle.delivery_core.specs.declared.results.Began.TheVariants as began
use Rattle.delivery_core.specs.declared.results.RefreshEnded.{RefreshEnded}
use Rattle.delivery_core.specs.declared.results.RefreshEnded.TheVariants as ended_as
use Rattle.history.proofs.Words.{world_push}
use Rattle.history.specs.After.{after, after_reply, created_trigger, cut_file, ended_fetch, ended_refresh, files_after, is_fetched, opened_by, row_of, triggers_after}
use Rattle.history.specs.Event.{Entry, History, Admit, FetchEnd, Finish, RefreshBegin, RefreshEnd, Request}
use Rattle.history.specs.History.{reply_to, world_of}
use Rattle.history.specs.Reply.{reply_in}
use Rattle.history.specs.World.{Filed, Made, Trigger, World}
use Rattle.history.specs.declared.reply.Reply.{Reply}
use Rattle.history.specs.declared.reply.Reply.TheVariants as reply
use Rattle.history.specs.declared.heading.Heading.{Heading}
use Rattle.node_core.specs.Logs.{control_of, file_in}
use Rattle.node_core.specs.State.{StateView, IsLeft, IsSound, Follows, Says}
use Rattle.node_core.specs.Triggering.{fetch_told, refresh_told}
use Rattle.metadata_objects.specs.Tree.{TreeData}
use Rattle.upstream_gate.specs.declared.outcome.Outcome.{Outcome}

abbrev pub state : EdgeView → ControlView → Heading → ℕ → StateView
state edge control heading opened = record { edge = edge; control = control; heading = heading; opened = opened }

-- the log files claim the same host, whatever comes
same_origin : (w : World) (e : Entry) → (after w e).made.heading ≡ w.made.heading
unfolding after after_reply
same_origin w e = refl

module _ (made : Made) (h : History) (e : Entry) (r : Reply) (edge : EdgeView) (control : ControlView) (heading : Heading) (opened : ℕ) where
  pub told : r ≡ reply_to made h e → edge ≡ edge_of (after (world_of made h) e) → control ≡ control_of (after (world_of made h) e) → heading ≡ (world_of made h).made.heading
      → opened ≡ (after (world_of made h) e).counts.opened → Says made h e r (state edge control heading opened)
  told is left kept host many =
      (is, subst (λ w. IsLeft (state edge control heading opened) w) (sym (world_push made h e)) (record { edge = left; control = kept; heading = host ∙ sym (same_origin (world_of made h) e); opened = many }))

-- ---- log files that a call leaves alone

pair_is : {A B : Type 0} {a a' : A} {b b' : B} → a ≡ a' → b ≡ b' → ◌≡◌ {A = A × B} (a, b) (a', b')
pair_is p q i = (p i, q i)

pub control_by : (w : World) (e : Entry) (r : Reply) → r ≡ reply_in w e → control_of (after w e) ≡ control_of (after_reply w e r)
unfolding after
control_by w e r is = ap (λ x. control_of (after_reply w e x)) (sym is)

control_same : (w : World) (e : Entry) (r : Reply) → files_after w e r ≡ w.controlling.files → cut_file r ≡ None → triggers_after w e r ≡ w.controlling.triggers → created_trigger r ≡ None → control_of (after_reply w e r) ≡ control_of w
unfolding after_reply
control_same w e r files none triggers uncreated =
    ap (λ (x : (List Filed × Option ℕ) × (List Trigger × Option ℕ)). record {
      triggers = record { triggers = x.1.0; most = w.made.limits.triggers; created = unwrap_or x.1.1 w.counts.created };
      files = map (file_in w.made.heading) x.0.0;
      most = w.made.limits.files;
      filed = unwrap_or x.0.1 w.counts.filed;
    }) (pair_is (pair_is files none) (pair_is triggers uncreated))

pub control_kept : (w : World) (e : Entry) (r : Reply) → r ≡ reply_in w e → files_after w e r ≡ w.controlling.files → cut_file r ≡ None → triggers_after w e r ≡ w.controlling.triggers → created_trigger r ≡ None → control_of w ≡ control_of (after w e)
control_kept w e r is files none triggers uncreated = sym (control_by w e r is ∙ control_same w e r files none triggers uncreated)

no_cut : (a : Admitted) → cut_file (reply_of a) ≡ None
no_cut (admitted.Denied delivery rule) = refl
no_cut (admitted.Hit delivery fetch kind body) = refl
no_cut (admitted.Miss delivery fetch plan) = refl
no_cut (admitted.Full count) = refl

no_cut_fetch : (fetch : ℕ) (ended : Option Bool) → cut_file (fetch_ended fetch ended) ≡ None
no_cut_fetch fetch None = refl
no_cut_fetch fetch (Some kept) = refl

no_cut_finish : (delivery : ℕ) (row : Option ℕ) → cut_file (finished delivery row) ≡ None
no_cut_finish delivery None = refl
no_cut_finish delivery (Some row) = refl

no_cut_refresh : (refresh : ℕ) (ended : RefreshEnded) → cut_file (refresh_ended refresh ended) ≡ None
no_cut_refresh refresh (ended_as.Installed generation) = refl
no_cut_refresh refresh (ended_as.Stale trigger) = refl
no_cut_refresh refresh (ended_as.Older later) = refl
no_cut_refresh refresh ended_as.Failed = refl
no_cut_refresh refresh ended_as.NotOpen = refl

none_created : (a : Admitted) → created_trigger (reply_of a) ≡ None
none_created (admitted.Denied delivery rule) = refl
none_created (admitted.Hit delivery fetch kind body) = refl
none_created (admitted.Miss delivery fetch plan) = refl
none_created (admitted.Full count) = refl

none_created_fetch : (fetch : ℕ) (ended : Option Bool) → created_trigger (fetch_ended fetch ended) ≡ None
none_created_fetch fetch None = refl
none_created_fetch fetch (Some kept) = refl

none_created_finish : (delivery : ℕ) (row : Option ℕ) → created_trigger (finished delivery row) ≡ None
none_created_finish delivery None = refl
none_created_finish delivery (Some row) = refl

none_created_refresh : (refresh : ℕ) (ended : RefreshEnded) → created_trigger (refresh_ended refresh ended) ≡ None
none_created_refresh refresh (ended_as.Installed generation) = refl
none_created_refresh refresh (ended_as.Stale trigger) = refl
none_created_refresh refresh (ended_as.Older later) = refl
none_created_refresh refresh ended_as.Failed = refl
none_created_refresh refresh ended_as.NotOpen = refl

-- ---- what the triggers are changed by

-- the triggers are changed so, and the log files left alone
control_moves : (w : World) (e : Entry) (r : Reply) (triggers : List Trigger) → files_after w e r ≡ w.controlling.files → cut_file r ≡ None → triggers_after w e r ≡ triggers → created_trigger r ≡ None
    → control_of (after_reply w e r) ≡ with_triggers (control_of w) triggers
unfolding after_reply
control_moves w e r triggers files none is uncreated =
    ap (λ (x : (List Filed × Option ℕ) × (List Trigger × Option ℕ)). record {
      triggers = record { triggers = x.1.0; most = w.made.limits.triggers; created = unwrap_or x.1.1 w.counts.created };
      files = map (file_in w.made.heading) x.0.0;
      most = w.made.limits.files;
      filed = unwrap_or x.0.1 w.counts.filed;
    }) (pair_is (pair_is files none) (pair_is is uncreated))

pub control_changed : (change : List Trigger → List Trigger) (control control' : ControlView) (w : World) (e : Entry) (r : Reply) → control ≡ control_of w → control' ≡ with_triggers control (change control.triggers.triggers)
    → r ≡ reply_in w e → files_after w e r ≡ w.controlling.files → cut_file r ≡ None → triggers_after w e r ≡ change w.controlling.triggers → created_trigger r ≡ None → control' ≡ control_of (after w e)
control_changed change control control' w e r is moved replied files none triggers uncreated =
    moved ∙ ap (λ (v : ControlView). with_triggers v (change v.triggers.triggers)) is
    ∙ sym (control_by w e r replied ∙ control_moves w e r (change w.controlling.triggers) files none triggers uncreated)

module _ (w : World) (control control' : ControlView) (s : control ≡ control_of w) where
  fetch_moved : (pass fetch : ℕ) (outcome : Outcome) (moment : ℕ) (ended : Option Bool) (r : Reply) → r ≡ fetch_ended fetch ended → r ≡ reply_in w (pass, FetchEnd fetch outcome moment)
      → control' ≡ fetch_told control fetch ended (is_fetched outcome) → control' ≡ control_of (after w (pass, FetchEnd fetch outcome moment))
  fetch_moved pass fetch outcome moment None r answer replied moved =
      moved ∙ s ∙ control_kept w (pass, FetchEnd fetch outcome moment) r replied refl (ap cut_file answer) (ap (triggers_after w (pass, FetchEnd fetch outcome moment)) answer) (ap created_trigger answer)
  fetch_moved pass fetch outcome moment (Some kept) r answer replied moved =
      control_changed (ended_fetch fetch (is_fetched outcome)) control control' w (pass, FetchEnd fetch outcome moment) r s moved replied refl (ap cut_file answer)
      (ap (triggers_after w (pass, FetchEnd fetch outcome moment)) answer) (ap created_trigger answer)

  module _ (pass refresh : ℕ) (tree : Option TreeData) (moment : ℕ) (r : Reply) (replied : r ≡ reply_in w (pass, RefreshEnd refresh tree moment)) where
    ended_moved : (good : Bool) (x : Reply) → r ≡ x → cut_file x ≡ None → created_trigger x ≡ None → triggers_after w (pass, RefreshEnd refresh tree moment) x ≡ ended_refresh refresh good w.controlling.triggers
        → control' ≡ with_triggers control (ended_refresh refresh good control.triggers.triggers) → control' ≡ control_of (after w (pass, RefreshEnd refresh tree moment))
    ended_moved good x answer uncut uncreated triggers moved =
        control_changed (ended_refresh refresh good) control control' w (pass, RefreshEnd refresh tree moment) r s moved replied refl (ap cut_file answer ∙ uncut)
        (ap (triggers_after w (pass, RefreshEnd refresh tree moment)) answer ∙ triggers) (ap created_trigger answer ∙ uncreated)

    refresh_moved : (ended : RefreshEnded) → r ≡ refresh_ended refresh ended → control' ≡ refresh_told control refresh ended → control' ≡ control_of (after w (pass, RefreshEnd refresh tree moment))
    refresh_moved (ended_as.Installed generation) answer moved = ended_moved true (reply.Installed generation) answer refl refl refl moved
    refresh_moved (ended_as.Stale trigger) answer moved = ended_moved false (reply.Stale trigger) answer refl refl refl moved
    refresh_moved (ended_as.Older later) answer moved = ended_moved false (reply.Older later) answer refl refl refl moved
    refresh_moved ended_as.Failed answer moved = ended_moved false reply.Failed answer refl refl refl moved
    refresh_moved ended_as.NotOpen answer moved =
        moved ∙ s ∙ control_kept w (pass, RefreshEnd refresh tree moment) r replied refl (ap cut_file answer) (ap (triggers_after w (pass, RefreshEnd refresh tree moment)) answer) (ap created_trigger answer)

pub after_opens : (w : World) (e : Entry) (r : Reply) → r ≡ reply_in w e → w.counts.opened + opened_by r ≡ (after w e).counts.opened
unfolding after after_reply
after_opens w e r is = ap (λ x. w.counts.opened + opened_by x) is

pub left_by : (w : World) (e : Entry) (r : Reply) → reply_in w e ≡ r → edge_of (after w e) ≡ edge_of (after_reply w e r)
unfolding after
left_by w e r is = ap (λ x. edge_of (after_reply w e x)) is

pub same_opened : (n : ℕ) → n ≡ n + 0
same_opened n = omega arith

pub stands_at_start : (made : Made) (v : EdgeView) (control : ControlView) → v ≡ empty made.limits → control ≡ no_files made.limits → Follows (state v control made.heading 0) made []
unfolding world_of
stands_at_start made v control is none = record { edge = is; control = none; heading = refl; opened = refl }

module _ (made : Made) (h : History) (edge edge' : EdgeView) (control control' : ControlView) (heading : Heading) (opened : ℕ) (s : Follows (state edge control heading opened) made h) where
  pub fetch_end_told : (pass fetch : ℕ) (outcome : Outcome) (moment : ℕ) (ended : Option Bool) (r : Reply) → ended ≡ fetch_end_reply edge outcome (find (is_named fetch pass) edge.fetches)
      → edge' ≡ fetch_end_after edge pass fetch outcome (find (is_named fetch pass) edge.fetches) → r ≡ fetch_ended fetch ended
      → control' ≡ fetch_told control fetch ended (is_fetched outcome) → Says made h (pass, FetchEnd fetch outcome moment) r (state edge' control' heading opened)
  fetch_end_told pass fetch outcome moment ended r is left answer moved =
      let w : World = world_of made h in
      let replied : r ≡ reply_in w (pass, FetchEnd fetch outcome moment) = answer ∙ ap (fetch_ended fetch) is ∙ ap (λ (v : EdgeView). fetch_ended fetch (fetch_end_reply v outcome (find (is_named fetch pass) v.fetches))) s.edge ∙ squares.fetch_end_replies w pass fetch outcome moment in
      told made h (pass, FetchEnd fetch outcome moment) r edge' control' heading opened replied
      (left ∙ ap (λ (v : EdgeView). fetch_end_after v pass fetch outcome (find (is_named fetch pass) v.fetches)) s.edge ∙ sym (squares.fetch_end_leaves w pass fetch outcome moment))
      (fetch_moved w control control' s.control pass fetch outcome moment ended r answer replied moved) s.heading
      (s.opened ∙ sym (squares.fetch_end_opens w pass fetch outcome moment))

  pub refresh_end_told : (pass refresh : ℕ) (tree : Option TreeData) (moment : ℕ) (ended : RefreshEnded) (r : Reply) → ended ≡ refresh_end_reply edge refresh tree (find (is_named refresh pass) edge.refreshes)
      → edge' ≡ refresh_end_after edge pass refresh tree (find (is_named refresh pass) edge.refreshes) → r ≡ refresh_ended refresh ended
      → control' ≡ refresh_told control refresh ended → Says made h (pass, RefreshEnd refresh tree moment) r (state edge' control' heading opened)
  refresh_end_told pass refresh tree moment ended r is left answer moved =
      let w : World = world_of made h in
      let replied : r ≡ reply_in w (pass, RefreshEnd refresh tree moment) = answer ∙ ap (refresh_ended refresh) is ∙ ap (λ (v : EdgeView). refresh_ended refresh (refresh_end_reply v refresh tree (find (is_named refresh pass) v.refreshes))) s.edge
      ∙ squares.refresh_end_replies w pass refresh tree moment in
      told made h (pass, RefreshEnd refresh tree moment) r edge' control' heading opened replied
      (left ∙ ap (λ (v : EdgeView). refresh_end_after v pass refresh tree (find (is_named refresh pass) v.refreshes)) s.edge ∙ sym (squares.refresh_end_leaves w pass refresh tree moment))
      (refresh_moved w control control' s.control pass refresh tree moment r replied ended answer moved) s.heading
      (s.opened ∙ sym (squares.refresh_end_opens w pass refresh tree moment))

module _ (made : Made) (h : History) (edge edge' : EdgeView) (control : ControlView) (heading : Heading) (opened : ℕ) (s : Follows (state edge control heading opened) made h) where
  pub admit_told : (pass : ℕ) (request : Request) (moment many : ℕ) (a : Admitted) (r : Reply) → a ≡ admit_reply edge opened request.asked request.place moment → edge' ≡ admit_after edge pass opened request moment
      → r ≡ reply_of a → many ≡ opened_by (reply_of a) → Says made h (pass, Admit request moment) r (state edge' control heading (opened + many))
  admit_told pass request moment many a r is left answer counted =
      let w : World = world_of made h in
      let replied : r ≡ reply_in w (pass, Admit request moment) =
      answer ∙ ap reply_of is ∙ ap (λ v. reply_of (admit_reply v opened request.asked request.place moment)) s.edge ∙ ap (λ n. reply_of (admit_reply (edge_of w) n request.asked request.place moment)) s.opened
      ∙ squares.admit_replies w pass request moment in
      told made h (pass, Admit request moment) r edge' control heading (opened + many) replied
      (left ∙ ap (λ v. admit_after v pass opened request moment) s.edge ∙ ap (λ n. admit_after (edge_of w) pass n request moment) s.opened ∙ sym (squares.admit_leaves w pass request moment (placed made h)))
      (s.control ∙ control_kept w (pass, Admit request moment) r replied refl (ap cut_file answer ∙ no_cut a) refl (ap created_trigger answer ∙ none_created a)) s.heading
      (ap (λ n. n + many) s.opened ∙ ap (λ n. w.counts.opened + n) (counted ∙ sym (ap opened_by answer)) ∙ after_opens w (pass, Admit request moment) r replied)

  pub finish_told : (pass delivery status total entity moment : ℕ) (row : Option ℕ) (r : Reply) → row ≡ finish_reply edge (find (is_named delivery pass) edge.deliveries)
      → edge' ≡ finish_after edge pass delivery (row_of status total entity moment) (find (is_named delivery pass) edge.deliveries) → r ≡ finished delivery row
      → Says made h (pass, Finish delivery status total entity moment) r (state edge' control heading opened)
  finish_told pass delivery status total entity moment row r is left answer =
      let w : World = world_of made h in
      let replied : r ≡ reply_in w (pass, Finish delivery status total entity moment) = answer ∙ ap (finished delivery) is ∙ ap (λ (v : EdgeView). finished delivery (finish_reply v (find (is_named delivery pass) v.deliveries))) s.edge ∙ squares.finish_replies w pass delivery status total entity moment in
      told made h (pass, Finish delivery status total entity moment) r edge' control heading opened replied
      (left ∙ ap (λ (v : EdgeView). finish_after v pass delivery (row_of status total entity moment) (find (is_named delivery pass) v.deliveries)) s.edge ∙ sym (squares.finish_leaves w pass delivery status total entity moment))
      (s.control ∙ control_kept w (pass, Finish delivery status total entity moment) r replied refl (ap cut_file answer ∙ no_cut_finish delivery row) refl (ap created_trigger answer ∙ none_created_finish delivery row)) s.heading
      (s.opened ∙ sym (squares.finish_opens w pass delivery status total entity moment))

  due_is : (moment : ℕ) (next : Option ℕ) → next ≡ next_due edge moment → next_due (edge_of (world_of made h)) moment ≡ next
  due_is moment next is = sym (is ∙ ap (λ v. next_due v moment) s.edge)

  full_is : (t : Bool) → (opened == edge.limits.opened) ≡ t → ((world_of made h).counts.opened == (world_of made h).made.limits.opened) ≡ t
  full_is t is = sym (ap (λ n. n == edge.limits.opened) s.opened ∙ ap (λ (v : EdgeView). (world_of made h).counts.opened == v.limits.opened) s.edge) ∙ is

  pub not_due_told : (pass moment next : ℕ) → Some next ≡ next_due edge moment → Says made h (pass, RefreshBegin moment) (reply.NotDue next) (state edge control heading opened)
  not_due_told pass moment next is =
      let w : World = world_of made h in
      let replied = squares.not_due_replies w pass moment next (due_is moment (Some next) is) in
      told made h (pass, RefreshBegin moment) (reply.NotDue next) edge control heading opened (sym replied)
      (s.edge ∙ sym (squares.not_due_leaves w pass moment next) ∙ sym (left_by w (pass, RefreshBegin moment) (reply.NotDue next) replied))
      (s.control ∙ control_kept w (pass, RefreshBegin moment) (reply.NotDue next) (sym replied) refl refl refl refl) s.heading
      (s.opened ∙ same_opened w.counts.opened ∙ after_opens w (pass, RefreshBegin moment) (reply.NotDue next) (sym replied))

  pub full_told : (pass moment : ℕ) → None ≡ next_due edge moment → (opened == edge.limits.opened) ≡ true → Says made h (pass, RefreshBegin moment) (reply.Full opened) (state edge control heading opened)
  full_told pass moment is full =
      let w : World = world_of made h in
      let replied = squares.full_replies w pass moment (due_is moment None is) (full_is true full) in
      told made h (pass, RefreshBegin moment) (reply.Full opened) edge control heading opened (ap (λ n. reply.Full n) s.opened ∙ sym replied)
      (s.edge ∙ sym (squares.full_leaves w pass moment w.counts.opened) ∙ sym (left_by w (pass, RefreshBegin moment) (reply.Full w.counts.opened) replied))
      (s.control ∙ control_kept w (pass, RefreshBegin moment) (reply.Full w.counts.opened) (sym replied) refl refl refl refl) s.heading
      (s.opened ∙ same_opened w.counts.opened ∙ after_opens w (pass, RefreshBegin moment) (reply.Full w.counts.opened) (sym replied))

  pub due_told : (pass moment refresh : ℕ) → None ≡ next_due edge moment → (opened == edge.limits.opened) ≡ false → refresh ≡ edge.refreshed + 1 → edge' ≡ begin_after edge pass moment (began.Due refresh)
      → Says made h (pass, RefreshBegin moment) (reply.Due refresh) (state edge' control heading (opened + 1))
  due_told pass moment refresh is full number left =
      let w : World = world_of made h in
      let numbered : refresh ≡ w.counts.refreshed + 1 = number ∙ ap (λ (v : EdgeView). v.refreshed + 1) s.edge in
      let replied = squares.due_replies w pass moment (due_is moment None is) (full_is false full) ∙ ap (λ n. reply.Due n) (sym numbered) in
      told made h (pass, RefreshBegin moment) (reply.Due refresh) edge' control heading (opened + 1) (sym replied)
      (left ∙ ap (λ v. begin_after v pass moment (began.Due refresh)) s.edge ∙ sym (squares.due_leaves w pass moment (placed made h) refresh) ∙ sym (left_by w (pass, RefreshBegin moment) (reply.Due refresh) replied))
      (s.control ∙ control_kept w (pass, RefreshBegin moment) (reply.Due refresh) (sym replied) refl refl refl refl) s.heading
      (ap (λ n. n + 1) s.opened ∙ after_opens w (pass, RefreshBegin moment) (reply.Due refresh) (sym replied))

due_of : Began → ℕ
due_of (began.Due refresh) = refresh
due_of (began.NotDue next) = 0

-- a refresh that is forced has the next number
pub forced_number : (edge : EdgeView) (refresh : ℕ) (b : Began) → b ≡ began.Due refresh → b ≡ began.Due (edge.refreshed + 1) → refresh ≡ edge.refreshed + 1
unfolding due_of
forced_number edge refresh b one two = ap due_of (sym one ∙ two)

-- ---- soundness

pub sound_at_start : (limits : Bounds) (v : EdgeView) (control : ControlView) → AreInRange limits → v ≡ empty limits → control ≡ no_files limits → IsSound v control 0
sound_at_start limits v control range is none = rw (is, none) (record { begun = omega arith; fetched = omega arith; few = omega arith; limit = range.opened.1; most_files = refl; most_triggers = refl })

module _ (edge : EdgeView) (control : ControlView) (opened : ℕ) (s : IsSound edge control opened) where
  pub sound_changed : (triggers : List Trigger) → IsSound edge (with_triggers control triggers) opened
  sound_changed triggers = record { begun = s.begun; fetched = s.fetched; few = s.few; limit = s.limit; most_files = s.most_files; most_triggers = s.most_triggers }

  sound_fetch_told : (fetch : ℕ) (ended : Option Bool) (good : Bool) → IsSound edge (fetch_told control fetch ended good) opened
  sound_fetch_told fetch None good = s
  sound_fetch_told fetch (Some kept) good = sound_changed (ended_fetch fetch good control.triggers.triggers)

  sound_refresh_told : (refresh : ℕ) (ended : RefreshEnded) → IsSound edge (refresh_told control refresh ended) opened
  sound_refresh_told refresh (ended_as.Installed generation) = sound_changed (ended_refresh refresh true control.triggers.triggers)
  sound_refresh_told refresh (ended_as.Stale trigger) = sound_changed (ended_refresh refresh false control.triggers.triggers)
  sound_refresh_told refresh (ended_as.Older later) = sound_changed (ended_refresh refresh false control.triggers.triggers)
  sound_refresh_told refresh ended_as.Failed = sound_changed (ended_refresh refresh false control.triggers.triggers)
  sound_refresh_told refresh ended_as.NotOpen = s

  pub fetch_told_sound : (control' : ControlView) (fetch : ℕ) (ended : Option Bool) (good : Bool) → control' ≡ fetch_told control fetch ended good → IsSound edge control' opened
  fetch_told_sound control' fetch ended good is = rw is (sound_fetch_told fetch ended good)

  pub refresh_told_sound : (control' : ControlView) (refresh : ℕ) (ended : RefreshEnded) → control' ≡ refresh_told control refresh ended → IsSound edge control' opened
  refresh_told_sound control' refresh ended is = rw is (sound_refresh_told refresh ended)

  pub sound_fetch_end : (pass fetch : ℕ) (outcome : Outcome) (found : Option (Open Flight)) → IsSound (fetch_end_after edge pass fetch outcome found) control opened
  sound_fetch_end pass fetch outcome None = s
  sound_fetch_end pass fetch outcome (Some flight) = record { begun = s.begun; fetched = s.fetched; few = s.few; limit = s.limit; most_files = s.most_files; most_triggers = s.most_triggers }

  pub sound_finish : (pass delivery : ℕ) (row : Admission → Row) (found : Option (Open Admission)) → IsSound (finish_after edge pass delivery row found) control opened
  sound_finish pass delivery row None = s
  sound_finish pass delivery row (Some one) = record { begun = s.begun; fetched = s.fetched; few = s.few; limit = s.limit; most_files = s.most_files; most_triggers = s.most_triggers }

  sound_install : (pass refresh moment : ℕ) (brought : TreeData) (later : Option ℕ)
      → IsSound (install_after (record edge { refreshes = unnamed refresh pass edge.refreshes }) refresh brought moment (install_reply edge later)) control opened
  sound_install pass refresh moment brought None = record { begun = s.begun; fetched = s.fetched; few = s.few; limit = s.limit; most_files = s.most_files; most_triggers = s.most_triggers }
  sound_install pass refresh moment brought (Some later) = record { begun = s.begun; fetched = s.fetched; few = s.few; limit = s.limit; most_files = s.most_files; most_triggers = s.most_triggers }

  sound_fresh : (pass refresh moment : ℕ) (brought : TreeData) (hit : Option ℕ)
      → IsSound (install_after (record edge { refreshes = unnamed refresh pass edge.refreshes }) refresh brought moment (fresh_reply edge refresh hit)) control opened
  sound_fresh pass refresh moment brought (Some trigger) = record { begun = s.begun; fetched = s.fetched; few = s.few; limit = s.limit; most_files = s.most_files; most_triggers = s.most_triggers }
  sound_fresh pass refresh moment brought None = sound_install pass refresh moment brought (newer edge refresh)

  pub sound_refresh_end : (pass refresh : ℕ) (tree : Option TreeData) (found : Option (Open Refreshing)) → IsSound (refresh_end_after edge pass refresh tree found) control opened
  sound_refresh_end pass refresh tree None = s
  sound_refresh_end pass refresh None (Some begun) = record { begun = s.begun; fetched = s.fetched; few = s.few; limit = s.limit; most_files = s.most_files; most_triggers = s.most_triggers }
  sound_refresh_end pass refresh (Some brought) (Some begun) = sound_fresh pass refresh begun.what.moment brought (first_noted brought.resources begun.what.since)

  sound_due : (pass moment : ℕ) → (opened == edge.limits.opened) ≡ false → IsSound (begin_after edge pass moment (began.Due (edge.refreshed + 1))) control (opened + 1)
  sound_due pass moment room =
      let other = eqb-false opened edge.limits.opened room in
      record { begun = (let b = s.begun in omega arith); fetched = (let f = s.fetched in omega arith); few = (let f = s.few in omega arith); limit = s.limit; most_files = s.most_files; most_triggers = s.most_triggers }

  pub due_sound : (edge' : EdgeView) (pass moment refresh : ℕ) → (opened == edge.limits.opened) ≡ false → refresh ≡ edge.refreshed + 1 → edge' ≡ begin_after edge pass moment (began.Due refresh) → IsSound edge' control (opened + 1)
  due_sound edge' pass moment refresh room is left =
      rw left (subst (λ n. IsSound (begin_after edge pass moment (began.Due n)) control (opened + 1)) (sym is) (sound_due pass moment room))

  sound_admit : (pass : ℕ) (request : Request) (moment : ℕ) → IsSound (admit_after edge pass opened request moment) control (opened + opened_by (reply_of (admit_reply edge opened request.asked request.place moment)))
  sound_admit pass request moment =
      let g = admit_grows edge opened pass request moment in
      record {
        begun = omega (arith, s.begun, g.delivered, g.refreshed, g.started);
        fetched = omega (arith, s.fetched, g.fetched);
        few = rw g.limits (g.few s.few);
        limit = rw g.limits s.limit;
        most_files = s.most_files ∙ ap (λ (b : Bounds). b.files) (sym g.limits);
        most_triggers = s.most_triggers ∙ ap (λ (b : Bounds). b.triggers) (sym g.limits);
      }

  pub admit_sound : (edge' : EdgeView) (pass : ℕ) (request : Request) (moment many : ℕ) (a : Admitted) → a ≡ admit_reply edge opened request.asked request.place moment
      → edge' ≡ admit_after edge pass opened request moment → many ≡ opened_by (reply_of a) → IsSound edge' control (opened + many)
  admit_sound edge' pass request moment many a is left counted =
      rw left (subst (λ n. IsSound (admit_after edge pass opened request moment) control (opened + n)) (sym (counted ∙ ap (λ x. opened_by (reply_of x)) is)) (sound_admit pass request moment))
