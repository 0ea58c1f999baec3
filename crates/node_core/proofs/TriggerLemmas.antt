-- What the calls of triggers tell of a node's history.
use Rattle.std.proofs.Common.{◌≡◌, ℕ, ◌+◌, ◌≤◌, ◌==◌, Bool, true, false, cond, List, [], ◌∷◌, ◌++◌, length, refl, sym, ap, ◌∙◌, subst, arith, None, Some, Option, Result, Ok, Err, IfOk}
use Rattle.std.specs.declared.alloc.AllocError.{AllocError}
use Rattle.std.specs.List.{filter}
use Rattle.std.specs.Option.{is_some, option_and_then, option_map, option_map_or}
use Rattle.std.proofs.lemmas.Bool.{eqb-false}
use Rattle.std.proofs.lemmas.List.{length-append, length-map}
use Rattle.control_core.specs.Control.{ControlView, with_table, with_triggers}
use Rattle.delivery_core.proofs.PlacedLemmas.{placed}
use Rattle.delivery_core.proofs.Squares as squares
use Rattle.delivery_core.specs.Edge.{EdgeView, begin_after, plan_after, plan_after_by, plan_reply, skips, sourced, start_after}
use Rattle.delivery_core.specs.OpenCount.{open_count}
use Rattle.delivery_core.specs.Refreshes.{noted_of, with_starts}
use Rattle.shelf.specs.KeptShelf.{struck}
use Rattle.delivery_core.specs.Traces.{edge_of}
use Rattle.delivery_core.specs.declared.results.Began.TheVariants as began
use Rattle.delivery_core.specs.declared.results.Planned.{Planned}
use Rattle.history.specs.After.{after_reply, commanded, created_trigger, cut_file, files_after, opened_by, position, start_by, start_of, triggers_after}
use Rattle.history.specs.Event.{Entry, History, Command, Advance, Cancel, Delete, ReadStatus, Lists}
use Rattle.history.specs.History.{world_of}
use Rattle.history.specs.Metadata.{plan_at}
use Rattle.history.specs.Reply as replies
use Rattle.history.specs.Reply.{opening, reply_in, url_reply}
use Rattle.history.specs.Steps as steps
use Rattle.history.specs.Steps.{changed, ended, first_unknown, listed, skipped, started, trigger_of, waiting}
use Rattle.history.specs.World.{Made, OneFetch, OneRefresh, Trigger, World}
use Rattle.history.specs.declared.begun.Fetching.{Fetching}
use Rattle.history.specs.declared.reply.Reply.{Reply}
use Rattle.history.specs.declared.reply.Reply.TheVariants as reply
use Rattle.history.specs.declared.heading.Heading.{Heading}
use Rattle.node_core.proofs.StateLemmas.{after_opens, control_by, control_changed, control_kept, left_by, same_opened, state, told}
use Rattle.node_core.proofs.StepLemmas.{answers_step, step_answer}
use Rattle.node_core.specs.Logs.{control_of}
use Rattle.node_core.specs.State.{IsSound, Follows, Says, StateView}
use Rattle.node_core.specs.Triggering.{cancel_reply, delete_reply, skipped_state, started_as, started_by, status_reply, url_of}
use Rattle.targets.specs.declared.endpoint.Endpoint.{Endpoint}
use Rattle.targets.specs.declared.target.Target.{Target}
use Rattle.trigger_command.specs.Spec.{SpecParts}
use Rattle.trigger_command.specs.declared.selection.Selection.{Selection}
use Rattle.trigger_command.specs.declared.spec.TriggerKind.{TriggerKind}
use Rattle.trigger_command.specs.declared.spec.TriggerKind.TheVariants.{Preposition, Invalidate, Purge}
use Rattle.trigger_status.specs.declared.job.Filter.{Filter}
use Rattle.trigger_status.specs.declared.job.Job.{Job}
use Rattle.trigger_status.specs.declared.job.JobStatus.{JobStatus}
use Rattle.trigger_table.specs.State.{next_step, made as made_by, opened_by as number_opened, step_ended}
use Rattle.trigger_table.specs.Triggers as table
use Rattle.trigger_table.specs.Triggers.{TriggersGoOn, TriggersView, command_after, command_reply, is_full, step_after, without}
use Rattle.trigger_table.specs.declared.step.Step.{Step}
use Rattle.trigger_table.specs.declared.step.Step.TheVariants as step

abbrev pub first_job : ℕ → List Trigger → Option Job
first_job id triggers = option_map (λ (t : Trigger). t.job) (trigger_of id triggers)

none_some : {A : Type 0} (a : A) → ◌≡◌ {A = Option A} None (Some a) → ⊥
none_some a is = cc

-- ---- what is open

-- a start ends and opens nothing
started_open : (edge : EdgeView) (trigger : ℕ) (selection : Selection) → open_count (start_after edge trigger selection) ≡ open_count edge
started_open edge trigger selection = omega (arith, length-map edge.fetches (struck selection), length-map edge.refreshes (with_starts (noted_of trigger selection)))

started_as_open : (edge : EdgeView) (job : Job) (kind : TriggerKind) → open_count (started_as edge job kind) ≡ open_count edge
started_as_open edge job Preposition = refl
started_as_open edge job Invalidate = started_open edge job.id job.spec.selection
started_as_open edge job Purge = started_open edge job.id job.spec.selection

started_by_open : (edge : EdgeView) (job : Option Job) → open_count (started_by edge job) ≡ open_count edge
started_by_open edge None = refl
started_by_open edge (Some job) = started_as_open edge job job.spec.kind

pub started_places : (edge edge' : EdgeView) (job : Option Job) → edge' ≡ started_by edge job → open_count edge' ≤ open_count edge + 0
started_places edge edge' job left = let same = started_by_open edge job in rw left (omega (arith, same))

plan_open : (edge : EdgeView) (pass : ℕ) (found : Option (Fetching × List Endpoint)) → open_count (plan_after_by edge pass found) ≤ open_count edge + 1
plan_open edge pass None = omega arith
plan_open edge pass (Some found) = omega (arith, length-append edge.fetches (record { number = edge.fetched + 1; pass = pass; what = record { fetching = found.0; hit = false } } ∷ []))

pub plan_places : (edge edge' : EdgeView) (pass : ℕ) (url : Target) → edge' ≡ plan_after edge pass url → open_count edge' ≤ open_count edge + 1
plan_places edge edge' pass url left = rw left (plan_open edge pass (sourced edge url))

-- where a URL is skipped, nothing is left of it
unplanned_by : (edge : EdgeView) (pass : ℕ) (found : Option (Fetching × List Endpoint)) → ◌≡◌ {A = Option Planned} None (option_map (λ f. record { fetch = edge.fetched + 1; plan = f.1 }) found) → plan_after_by edge pass found ≡ edge
unplanned_by edge pass None none = refl
unplanned_by edge pass (Some found) none = absurd (none_some _ none)

pub unplanned : (edge edge' : EdgeView) (pass : ℕ) (url : Target) → None ≡ plan_reply edge url → edge' ≡ plan_after edge pass url → edge' ≡ edge
unplanned edge edge' pass url none left = left ∙ unplanned_by edge pass (sourced edge url) none

-- the trigger has skipped the URL
pub skip_left : (control between control' : ControlView) (pass id place moment : ℕ) → next_step pass (trigger_of id control.triggers.triggers) ≡ step.Url place → between ≡ with_triggers control (step_after id pass moment control.triggers.triggers)
    → TriggersGoOn id (next_step pass (trigger_of id control.triggers.triggers)) control.triggers.triggers between.triggers.triggers → control' ≡ with_triggers between (changed id (step_ended false) between.triggers.triggers)
    → control' ≡ with_triggers control (changed id (skipped place) control.triggers.triggers)
skip_left control between control' pass id place moment is done goes kept =
    let on : ((n : ℕ) → changed id (number_opened n) between.triggers.triggers ≡ changed id (waiting (OneFetch n)) control.triggers.triggers) × (changed id (step_ended false) between.triggers.triggers ≡ changed id (skipped place) control.triggers.triggers) = subst (λ x. TriggersGoOn id x control.triggers.triggers between.triggers.triggers) is goes in
    kept ∙ ap (with_triggers between) on.1 ∙ ap (λ (v : ControlView). with_triggers v (changed id (skipped place) control.triggers.triggers)) done

-- ---- what stays sound

module _ (edge : EdgeView) (control : ControlView) (opened : ℕ) (s : IsSound edge control opened) where
  more : (opened == edge.limits.opened) ≡ false → opened + 1 ≤ edge.limits.opened
  more room = let f = s.few in omega (arith, f, eqb-false opened edge.limits.opened room)

  started_as_sound : (job : Job) (kind : TriggerKind) → (opened == edge.limits.opened) ≡ false → IsSound (started_as edge job kind) control (opened + 1)
  started_as_sound job Preposition room = record { begun = (let b = s.begun in omega arith); fetched = (let f = s.fetched in omega arith); few = more room; limit = s.limit; most_files = s.most_files; most_triggers = s.most_triggers }
  started_as_sound job Invalidate room = record { begun = (let b = s.begun in omega arith); fetched = (let f = s.fetched in omega arith); few = more room; limit = s.limit; most_files = s.most_files; most_triggers = s.most_triggers }
  started_as_sound job Purge room = record { begun = (let b = s.begun in omega arith); fetched = (let f = s.fetched in omega arith); few = more room; limit = s.limit; most_files = s.most_files; most_triggers = s.most_triggers }

  started_by_sound : (job : Option Job) → (opened == edge.limits.opened) ≡ false → IsSound (started_by edge job) control (opened + 1)
  started_by_sound None room = record { begun = (let b = s.begun in omega arith); fetched = (let f = s.fetched in omega arith); few = more room; limit = s.limit; most_files = s.most_files; most_triggers = s.most_triggers }
  started_by_sound (Some job) room = started_as_sound job job.spec.kind room

  -- the triggers are changed
  pub changed_sound : (control' : ControlView) (triggers : List Trigger) → control' ≡ with_triggers control triggers → IsSound edge control' opened
  changed_sound control' triggers is = rw is (record { begun = s.begun; fetched = s.fetched; few = s.few; limit = s.limit; most_files = s.most_files; most_triggers = s.most_triggers })

  pub start_sound : (edge' : EdgeView) (job : Option Job) → (opened == edge.limits.opened) ≡ false → edge' ≡ started_by edge job → IsSound edge' control (opened + 1)
  start_sound edge' job room left = rw left (started_by_sound job room)

  plan_by_sound : (pass : ℕ) (found : Option (Fetching × List Endpoint)) → (opened == edge.limits.opened) ≡ false → IsSound (plan_after_by edge pass found) control (opened + 1)
  plan_by_sound pass None room = record { begun = (let b = s.begun in omega arith); fetched = (let f = s.fetched in omega arith); few = more room; limit = s.limit; most_files = s.most_files; most_triggers = s.most_triggers }
  plan_by_sound pass (Some found) room = record { begun = (let b = s.begun in omega arith); fetched = (let f = s.fetched in omega arith); few = more room; limit = s.limit; most_files = s.most_files; most_triggers = s.most_triggers }

  pub plan_sound : (edge' : EdgeView) (pass : ℕ) (url : Target) → (opened == edge.limits.opened) ≡ false → edge' ≡ plan_after edge pass url → IsSound edge' control (opened + 1)
  plan_sound edge' pass url room left = rw left (plan_by_sound pass (sourced edge url) room)

-- ---- a command

created_cases : (t : Bool) (v v' more : TriggersView) (id : ℕ) → Some id ≡ cond t None (Some (v.created + 1)) → v' ≡ cond t v more → (id ≡ v.created + 1) × (v' ≡ more)
created_cases true v v' more id is left = absurd (none_some id (sym is))
created_cases false v v' more id is left = (same_some is, left)
  where
    same_some : {A : Type 0} {a b : A} → Some a ≡ Some b → a ≡ b
    same_some same = cc

-- the table with a trigger more
abbrev with_command : TriggersView → SpecParts → ℕ → TriggersView
with_command v spec moment = record v { triggers = v.triggers ++ commanded (v.created + 1) spec moment ∷ []; created = v.created + 1 }

control_commanded : (w : World) (pass : ℕ) (spec : SpecParts) (moment : ℕ) → control_of (after_reply w (pass, Command spec moment) (reply.Created (w.counts.created + 1))) ≡ with_table (control_of w) (with_command (control_of w).triggers spec moment)
unfolding after_reply
control_commanded w pass spec moment = refl

pub command_sound : (edge : EdgeView) (control control' : ControlView) (opened id : ℕ) (spec : SpecParts) (moment : ℕ) → IsSound edge control opened → (opened == edge.limits.opened) ≡ false → Some id ≡ command_reply control.triggers
    → control' ≡ with_table control (command_after control.triggers spec moment) → IsSound edge control' (opened + 1)
command_sound edge control control' opened id spec moment s room is left =
    let made = created_cases (is_full control.triggers) control.triggers (command_after control.triggers spec moment) (with_command control.triggers spec moment) id is refl in
    rw left (rw made.1 (record { begun = (let b = s.begun in omega arith); fetched = (let f = s.fetched in omega arith); few = more edge control opened s room; limit = s.limit; most_files = s.most_files; most_triggers = s.most_triggers }))

module _ (made : Made) (h : History) (edge : EdgeView) (control : ControlView) (heading : Heading) (opened : ℕ) (s : Follows (state edge control heading opened) made h) where
  abbrev w : World
  w = world_of made h

  triggers_are : control.triggers.triggers ≡ w.controlling.triggers
  triggers_are = ap (λ (v : ControlView). v.triggers.triggers) s.control

  opened_is : (t : Bool) → (opened == edge.limits.opened) ≡ t → (w.counts.opened == w.made.limits.opened) ≡ t
  opened_is t is = sym (ap (λ n. n == edge.limits.opened) s.opened ∙ ap (λ (v : EdgeView). w.counts.opened == v.limits.opened) s.edge) ∙ is

  -- nothing changes
  quiet : (e : Entry) (r : Reply) → r ≡ reply_in w e → edge_of (after_reply w e r) ≡ edge_of w → files_after w e r ≡ w.controlling.files → cut_file r ≡ None → opened_by r ≡ 0 → created_trigger r ≡ None
      → triggers_after w e r ≡ w.controlling.triggers → Says made h e r (state edge control heading opened)
  quiet e r replied left files uncut none uncreated triggers =
      told made h e r edge control heading opened replied
      (s.edge ∙ sym (left_by w e r (sym replied) ∙ left))
      (s.control ∙ control_kept w e r replied files uncut triggers uncreated) s.heading
      (s.opened ∙ same_opened w.counts.opened ∙ ap (λ n. w.counts.opened + n) (sym none) ∙ after_opens w e r replied)

  -- the triggers change
  moved : (change : List Trigger → List Trigger) (control' : ControlView) (e : Entry) (r : Reply) → control' ≡ with_triggers control (change control.triggers.triggers) → r ≡ reply_in w e → edge_of (after_reply w e r) ≡ edge_of w
      → files_after w e r ≡ w.controlling.files → cut_file r ≡ None → opened_by r ≡ 0 → created_trigger r ≡ None → triggers_after w e r ≡ change w.controlling.triggers → Says made h e r (state edge control' heading opened)
  moved change control' e r is replied left files uncut none uncreated triggers =
      told made h e r edge control' heading opened replied
      (s.edge ∙ sym (left_by w e r (sym replied) ∙ left))
      (control_changed change control control' w e r s.control is replied files uncut triggers uncreated) s.heading
      (s.opened ∙ same_opened w.counts.opened ∙ ap (λ n. w.counts.opened + n) (sym none) ∙ after_opens w e r replied)

  -- the triggers change, and something is opened
  opens : (change : List Trigger → List Trigger) (edge' : EdgeView) (control' : ControlView) (e : Entry) (r : Reply) → control' ≡ with_triggers control (change control.triggers.triggers) → r ≡ reply_in w e → edge' ≡ edge_of (after_reply w e r)
      → files_after w e r ≡ w.controlling.files → cut_file r ≡ None → opened_by r ≡ 1 → created_trigger r ≡ None → triggers_after w e r ≡ change w.controlling.triggers → Says made h e r (state edge' control' heading (opened + 1))
  opens change edge' control' e r is replied left files uncut one uncreated triggers =
      told made h e r edge' control' heading (opened + 1) replied
      (left ∙ sym (left_by w e r (sym replied)))
      (control_changed change control control' w e r s.control is replied files uncut triggers uncreated) s.heading
      (ap (λ n. n + 1) s.opened ∙ ap (λ n. w.counts.opened + n) (sym one) ∙ after_opens w e r replied)

  opening_is : (t : Bool) (r : Reply) → (opened == edge.limits.opened) ≡ t → opening w r ≡ cond t (reply.Full w.counts.opened) r
  opening_is t r is = ap (λ b. cond b (reply.Full w.counts.opened) r) (opened_is t is)

  module _ (pass : ℕ) (spec : SpecParts) (moment : ℕ) where
    abbrev command : Entry
    command = (pass, Command spec moment)

    table_is : (t : Bool) → (length control.triggers.triggers == edge.limits.triggers) ≡ t → (length w.controlling.triggers == w.made.limits.triggers) ≡ t
    table_is t is = sym (ap (λ ts. length ts == edge.limits.triggers) triggers_are ∙ ap (λ (v : EdgeView). length w.controlling.triggers == v.limits.triggers) s.edge) ∙ is

    command_by : (full many : Bool) → (length control.triggers.triggers == edge.limits.triggers) ≡ full → (opened == edge.limits.opened) ≡ many
        → cond full (reply.Full (length w.controlling.triggers)) (cond many (reply.Full w.counts.opened) (reply.Created (w.counts.created + 1))) ≡ reply_in w command
    unfolding reply_in
    command_by full many is also =
        sym (ap (λ t. cond t (reply.Full (length w.controlling.triggers)) (opening w (reply.Created (w.counts.created + 1)))) (table_is full is)
        ∙ ap (λ r. cond full (reply.Full (length w.controlling.triggers)) r) (opening_is many (reply.Created (w.counts.created + 1)) also))

    full_command : (count : ℕ) → reply.Full count ≡ reply_in w command → Says made h command (reply.Full count) (state edge control heading opened)
    full_command count replied = quiet command (reply.Full count) replied (squares.full_command_leaves w pass spec moment count) refl refl refl refl refl

    -- as many triggers are there as may be
    pub full_command_told : (length control.triggers.triggers == edge.limits.triggers) ≡ true → Says made h command (reply.Full (length control.triggers.triggers)) (state edge control heading opened)
    full_command_told is = full_command (length control.triggers.triggers) (ap (λ ts. reply.Full (length ts)) triggers_are ∙ command_by true (opened == edge.limits.opened) is refl)

    -- as many answers opened something as may
    pub spent_command_told : (length control.triggers.triggers == edge.limits.triggers) ≡ false → (opened == edge.limits.opened) ≡ true → Says made h command (reply.Full opened) (state edge control heading opened)
    spent_command_told is also = full_command opened (ap (λ n. reply.Full n) s.opened ∙ command_by false true is also)

    pub created_told : (control' : ControlView) (id : ℕ) → (length control.triggers.triggers == edge.limits.triggers) ≡ false → (opened == edge.limits.opened) ≡ false → Some id ≡ command_reply control.triggers
        → control' ≡ with_table control (command_after control.triggers spec moment) → Says made h command (reply.Created id) (state edge control' heading (opened + 1))
    created_told control' id is also numbered kept =
        let new = created_cases (is_full control.triggers) control.triggers (command_after control.triggers spec moment) (with_command control.triggers spec moment) id numbered refl in
        let next : reply.Created (w.counts.created + 1) ≡ reply_in w command = command_by false false is also in
        let replied : reply.Created id ≡ reply_in w command = ap (λ n. reply.Created n) (new.0 ∙ ap (λ (v : ControlView). v.triggers.created + 1) s.control) ∙ next in
        told made h command (reply.Created id) edge control' heading (opened + 1) replied
        (s.edge ∙ sym (left_by w command (reply.Created id) (sym replied) ∙ squares.command_leaves w pass spec moment id))
        (kept ∙ ap (with_table control) new.1 ∙ ap (λ (v : ControlView). with_table v (with_command v.triggers spec moment)) s.control
        ∙ sym (control_by w command (reply.Created (w.counts.created + 1)) next ∙ control_commanded w pass spec moment))
        s.heading
        (ap (λ n. n + 1) s.opened ∙ after_opens w command (reply.Created id) replied)

  -- ---- steps

  module _ (pass id moment : ℕ) where
    abbrev advance : Entry
    advance = (pass, Advance id moment)

    abbrev now : List Trigger
    now = control.triggers.triggers

    abbrev next : Step
    next = next_step pass (trigger_of id now)

    step_is : (x : Step) → next ≡ x → step_answer w id (first_job id now) x ≡ reply_in w advance
    unfolding reply_in
    step_is x is =
        ap (step_answer w id (first_job id now)) (sym is) ∙ ap (λ ts. step_answer w id (first_job id ts) (next_step pass (trigger_of id ts))) triggers_are
        ∙ sym (answers_step w pass id (trigger_of id w.controlling.triggers))

    pub unknown_told : next ≡ step.Unknown → Says made h advance (reply.Unknown id) (state edge control heading opened)
    unknown_told is = quiet advance (reply.Unknown id) (step_is step.Unknown is) (squares.step_unknown_leaves w pass id moment) refl refl refl refl refl

    pub claimed_told : (claimant : ℕ) → next ≡ step.Claimed claimant → Says made h advance (reply.Claimed claimant) (state edge control heading opened)
    claimed_told claimant is = quiet advance (reply.Claimed claimant) (step_is (step.Claimed claimant) is) (squares.step_claimed_leaves w pass id moment claimant) refl refl refl refl refl

    pub open_told : (number : ℕ) → next ≡ step.StepOpen number → Says made h advance (reply.StepOpen number) (state edge control heading opened)
    open_told number is = quiet advance (reply.StepOpen number) (step_is (step.StepOpen number) is) (squares.step_open_leaves w pass id moment number) refl refl refl refl refl

    -- it has ended before
    pub final_told : (status : JobStatus) → next ≡ step.Final status → ((m : ℕ) → changed id (ended m status) now ≡ now) → Says made h advance (reply.Final status) (state edge control heading opened)
    final_told status is stays =
        quiet advance (reply.Final status) (step_is (step.Final status) is) (squares.step_final_leaves w pass id moment status) refl refl refl refl
        (subst (λ ts. changed id (ended moment status) ts ≡ ts) triggers_are (stays moment))

    stepped : (x : Step) → next ≡ x → step_after id pass moment now ≡ changed id (made_by pass moment x) now
    stepped x is = ap (λ y. changed id (made_by pass moment y) now) is

    -- it ends
    pub end_told : (control' : ControlView) (status : JobStatus) → next ≡ step.End status → control' ≡ with_triggers control (step_after id pass moment now) → Says made h advance (reply.Final status) (state edge control' heading opened)
    end_told control' status is left =
        moved (changed id (ended moment status)) control' advance (reply.Final status) (left ∙ ap (with_triggers control) (stepped (step.End status) is)) (step_is (step.End status) is) (squares.step_final_leaves w pass id moment status)
        refl refl refl refl refl

    -- as many answers opened something as may
    pub full_step_told : (x : Step) (r : Reply) → next ≡ x → step_answer w id (first_job id now) x ≡ opening w r → (opened == edge.limits.opened) ≡ true → Says made h advance (reply.Full opened) (state edge control heading opened)
    full_step_told x r is opening_answer full =
        let replied : reply.Full opened ≡ reply_in w advance = ap (λ n. reply.Full n) s.opened ∙ sym (opening_answer ∙ opening_is true r full) ∙ step_is x is in
        quiet advance (reply.Full opened) replied (squares.step_full_leaves w pass id moment opened) refl refl refl refl refl

    pub full_start_told : next ≡ step.Start → (opened == edge.limits.opened) ≡ true → Says made h advance (reply.Full opened) (state edge control heading opened)
    full_start_told is full = full_step_told step.Start reply.Started is refl full

    pub full_refresh_told : next ≡ step.Refresh → (opened == edge.limits.opened) ≡ true → Says made h advance (reply.Full opened) (state edge control heading opened)
    full_refresh_told is full = full_step_told step.Refresh (reply.Refresh (w.counts.refreshed + 1)) is refl full

    start_found : (found : Option Trigger) → trigger_of id w.controlling.triggers ≡ found → start_of w id ≡ option_and_then (λ (t : Trigger). start_by (position w) t.job.spec.kind t) found
    start_found found is = ap (option_and_then (λ (t : Trigger). start_by (position w) t.job.spec.kind t)) is

    started_kind : (t : Trigger) → trigger_of id w.controlling.triggers ≡ Some t → (kind : TriggerKind) → t.job.spec.kind ≡ kind → edge_of (after_reply w advance reply.Started) ≡ started_as (edge_of w) t.job kind
    started_kind t is Preposition kind = squares.no_start_leaves w pass id moment (start_found (Some t) is ∙ ap (λ k. start_by (position w) k t) kind)
    started_kind t is Invalidate kind =
        squares.start_leaves w pass id moment (placed made h) (record { at = position w; trigger = t.job.id; kind = Invalidate; selection = t.job.spec.selection }) (start_found (Some t) is ∙ ap (λ k. start_by (position w) k t) kind)
    started_kind t is Purge kind =
        squares.start_leaves w pass id moment (placed made h) (record { at = position w; trigger = t.job.id; kind = Purge; selection = t.job.spec.selection }) (start_found (Some t) is ∙ ap (λ k. start_by (position w) k t) kind)

    started_left : (found : Option Trigger) → trigger_of id w.controlling.triggers ≡ found → edge_of (after_reply w advance reply.Started) ≡ started_by (edge_of w) (option_map (λ (t : Trigger). t.job) found)
    started_left None is = squares.no_start_leaves w pass id moment (start_found None is)
    started_left (Some t) is = started_kind t is t.job.spec.kind refl

    -- it becomes active
    pub started_told : (edge' : EdgeView) (control' : ControlView) (job : Option Job) → next ≡ step.Start → (opened == edge.limits.opened) ≡ false → job ≡ first_job id now → edge' ≡ started_by edge job
        → control' ≡ with_triggers control (step_after id pass moment now) → Says made h advance reply.Started (state edge' control' heading (opened + 1))
    started_told edge' control' job is room found left kept =
        opens (changed id (started pass moment)) edge' control' advance reply.Started (kept ∙ ap (with_triggers control) (stepped step.Start is))
        (sym (opening_is false reply.Started room) ∙ step_is step.Start is)
        (left ∙ ap (started_by edge) (found ∙ ap (first_job id) triggers_are) ∙ ap (λ v. started_by v (first_job id w.controlling.triggers)) s.edge ∙ sym (started_left (trigger_of id w.controlling.triggers) refl))
        refl refl refl refl refl

    -- it fetches its metadata
    pub refreshed_told : (edge' : EdgeView) (between control' : ControlView) (refresh : ℕ) → next ≡ step.Refresh → (opened == edge.limits.opened) ≡ false → refresh ≡ edge.refreshed + 1 → edge' ≡ begin_after edge pass moment (began.Due refresh)
        → between ≡ with_triggers control (step_after id pass moment now) → TriggersGoOn id next now between.triggers.triggers → control' ≡ with_triggers between (changed id (number_opened refresh) between.triggers.triggers)
        → Says made h advance (reply.Refresh refresh) (state edge' control' heading (opened + 1))
    refreshed_told edge' between control' refresh is room number left done goes kept =
        let on : (n : ℕ) → changed id (number_opened n) between.triggers.triggers ≡ changed id (waiting (OneRefresh n)) now = subst (λ x. TriggersGoOn id x now between.triggers.triggers) is goes in
        let numbered : refresh ≡ w.counts.refreshed + 1 = number ∙ ap (λ (v : EdgeView). v.refreshed + 1) s.edge in
        let replied : reply.Refresh refresh ≡ reply_in w advance =
        ap (λ n. reply.Refresh n) numbered ∙ sym (opening_is false (reply.Refresh (w.counts.refreshed + 1)) room) ∙ step_is step.Refresh is in
        opens (changed id (waiting (OneRefresh refresh))) edge' control' advance (reply.Refresh refresh)
        (kept ∙ ap (with_triggers between) (on refresh) ∙ ap (λ (v : ControlView). with_triggers v (changed id (waiting (OneRefresh refresh)) now)) done) replied
        (left ∙ ap (λ v. begin_after v pass moment (began.Due refresh)) s.edge ∙ sym (squares.step_refresh_leaves w pass id moment (placed made h) refresh))
        refl refl refl refl refl

    module _ (place : ℕ) (url : Target) (is : next ≡ step.Url place) (there : Some url ≡ url_of place (first_job id now)) where
      url_step_is : url_reply w place url ≡ reply_in w advance
      url_step_is = ap (λ found. option_map_or (url_reply w place) found (reply.Unknown id)) there ∙ step_is (step.Url place) is

      url_by : (out many : Bool) → skips edge url ≡ out → (opened == edge.limits.opened) ≡ many
          → url_reply w place url ≡ cond out (reply.Skipped place) (cond many (reply.Full w.counts.opened) (reply.Fetch (w.counts.fetched + 1) (plan_at (steps.index_of w.delivering) url) url))
      url_by out many skipped_is full_is =
          ap (λ t. cond t (reply.Skipped place) (opening w (reply.Fetch (w.counts.fetched + 1) (plan_at (steps.index_of w.delivering) url) url))) (sym (ap (λ v. skips v url) s.edge ∙ squares.skips_is w pass id moment url) ∙ skipped_is)
          ∙ ap (λ r. cond out (reply.Skipped place) r) (opening_is many (reply.Fetch (w.counts.fetched + 1) (plan_at (steps.index_of w.delivering) url) url) full_is)

      -- as many answers opened something as may
      pub full_url_told : skips edge url ≡ false → (opened == edge.limits.opened) ≡ true → Says made h advance (reply.Full opened) (state edge control heading opened)
      full_url_told kept full =
          let replied : reply.Full opened ≡ reply_in w advance = ap (λ n. reply.Full n) s.opened ∙ sym (url_by false true kept full) ∙ url_step_is in
          quiet advance (reply.Full opened) replied (squares.step_full_leaves w pass id moment opened) refl refl refl refl refl

      skip_told_by : (control' : ControlView) → reply.Skipped place ≡ reply_in w advance → control' ≡ with_triggers control (changed id (skipped place) now) → Says made h advance (reply.Skipped place) (state edge control' heading opened)
      skip_told_by control' replied left =
          moved (changed id (skipped place)) control' advance (reply.Skipped place) left replied (squares.step_skipped_leaves w pass id moment place) refl refl refl refl refl

      -- the URL is skipped, though the node is full
      pub full_skip_told : (control' : ControlView) → skips edge url ≡ true → control' ≡ with_triggers control (changed id (skipped place) now) → Says made h advance (reply.Skipped place) (state edge control' heading opened)
      full_skip_told control' out left = skip_told_by control' (sym (url_by true (opened == edge.limits.opened) out refl) ∙ url_step_is) left

      pub full_skipped : (r : Reply) (v : StateView) → skips edge url ≡ true → r ≡ reply.Skipped place → v ≡ skipped_state (state edge control heading opened) id place → Says made h advance r v
      full_skipped r v out answer left = rw (answer, left) (full_skip_told (with_triggers control (changed id (skipped place) now)) out refl)

      -- the URL is skipped
      pub skip_told : (control' : ControlView) → None ≡ plan_reply edge url → control' ≡ with_triggers control (changed id (skipped place) now) → Says made h advance (reply.Skipped place) (state edge control' heading opened)
      skip_told control' out left =
          skip_told_by control' (sym (squares.skipped_replies w pass id moment url (ap (λ v. plan_reply v url) (sym s.edge) ∙ sym out) place) ∙ url_step_is) left

      pub skipped_says : (edge' : EdgeView) (r : Reply) (v : StateView) → None ≡ plan_reply edge url → edge' ≡ plan_after edge pass url → r ≡ reply.Skipped place → v ≡ skipped_state (state edge' control heading opened) id place
          → Says made h advance r v
      skipped_says edge' r v out kept answer left = rw (answer, left, unplanned edge edge' pass url out kept) (skip_told (with_triggers control (changed id (skipped place) now)) out refl)

      -- it fetches the URL
      pub fetch_told : (edge' : EdgeView) (between control' : ControlView) (planned : Planned) → (opened == edge.limits.opened) ≡ false → Some planned ≡ plan_reply edge url → edge' ≡ plan_after edge pass url
          → between ≡ with_triggers control (step_after id pass moment now) → TriggersGoOn id next now between.triggers.triggers → control' ≡ with_triggers between (changed id (number_opened planned.fetch) between.triggers.triggers)
          → Says made h advance (reply.Fetch planned.fetch planned.plan url) (state edge' control' heading (opened + 1))
      fetch_told edge' between control' planned room out left done goes kept =
          let on : ((n : ℕ) → changed id (number_opened n) between.triggers.triggers ≡ changed id (waiting (OneFetch n)) now) × (changed id (step_ended false) between.triggers.triggers ≡ changed id (skipped place) now) = subst (λ x. TriggersGoOn id x now between.triggers.triggers) is goes in
          let out_is : plan_reply (edge_of w) url ≡ Some planned = ap (λ v. plan_reply v url) (sym s.edge) ∙ sym out in
          let answer : reply.Fetch planned.fetch planned.plan url ≡ url_reply w place url =
          sym (squares.planned_replies w pass id moment url planned out_is place ∙ opening_is false (reply.Fetch planned.fetch planned.plan url) room) in
          opens (changed id (waiting (OneFetch planned.fetch))) edge' control' advance (reply.Fetch planned.fetch planned.plan url)
          (kept ∙ ap (with_triggers between) (on.0 planned.fetch) ∙ ap (λ (v : ControlView). with_triggers v (changed id (waiting (OneFetch planned.fetch)) now)) done) (answer ∙ url_step_is)
          (left ∙ ap (λ v. plan_after v pass url) s.edge ∙ sym (squares.plan_leaves w pass id moment url (placed made h) planned out_is))
          refl refl refl refl refl

  -- ---- cancel, delete and reading

  module _ (pass : ℕ) where
    cancel_is : (ids : List ℕ) (moment : ℕ) (found : Option ℕ) → first_unknown control.triggers.triggers ids ≡ found → replies.cancel_reply w ids moment found ≡ reply_in w (pass, Cancel ids moment)
    unfolding reply_in
    cancel_is ids moment found unknown = ap (replies.cancel_reply w ids moment) (sym unknown ∙ ap (λ ts. first_unknown ts ids) triggers_are)

    delete_is : (id : ℕ) (found : Option Trigger) → trigger_of id control.triggers.triggers ≡ found → replies.delete_reply id found ≡ reply_in w (pass, Delete id)
    unfolding reply_in
    delete_is id found there = ap (replies.delete_reply id) (sym there ∙ ap (trigger_of id) triggers_are)

    status_is : (id : ℕ) (found : Option Trigger) → trigger_of id control.triggers.triggers ≡ found → replies.status_reply id found ≡ reply_in w (pass, ReadStatus id)
    unfolding reply_in
    status_is id found there = ap (replies.status_reply id) (sym there ∙ ap (trigger_of id) triggers_are)

    list_is : (filter : Filter) (ids : List ℕ) → ids ≡ listed filter control.triggers.triggers → reply.Collection filter ids ≡ reply_in w (pass, Lists filter)
    unfolding reply_in
    list_is filter ids is = ap (reply.Collection filter) (is ∙ ap (listed filter) triggers_are)

    cancel_by : (ids : List ℕ) (moment : ℕ) (control' : ControlView) (c : Result (List JobStatus) ℕ) (r : Reply) (found : Option ℕ) → first_unknown control.triggers.triggers ids ≡ found → c ≡ table.cancel_reply_by control.triggers.triggers ids moment found
        → control' ≡ with_triggers control (table.cancel_after_by control.triggers.triggers ids moment found) → r ≡ cancel_reply c → Says made h (pass, Cancel ids moment) r (state edge control' heading opened)
    cancel_by ids moment control' c r None unknown is left answer =
        let e : Entry = (pass, Cancel ids moment) in
        let r_is : r ≡ reply.Statuses (steps.statuses_of (steps.cancelled moment ids control.triggers.triggers) ids) = answer ∙ ap cancel_reply is in
        subst (λ x. Says made h e x (state edge control' heading opened)) (sym r_is)
        (moved (steps.cancelled moment ids) control' e (reply.Statuses (steps.statuses_of (steps.cancelled moment ids control.triggers.triggers) ids)) left
        (ap (λ ts. reply.Statuses (steps.statuses_of (steps.cancelled moment ids ts) ids)) triggers_are ∙ cancel_is ids moment None unknown) (squares.cancel_leaves w pass ids moment _) refl refl refl refl refl)
    cancel_by ids moment control' c r (Some id) unknown is left answer =
        let e : Entry = (pass, Cancel ids moment) in
        subst (λ x. Says made h e x (state edge control' heading opened)) (sym (answer ∙ ap cancel_reply is))
        (subst (λ v. Says made h e (reply.Unknown id) (state edge v heading opened)) (sym left)
        (quiet e (reply.Unknown id) (cancel_is ids moment (Some id) unknown) (squares.no_cancel_leaves w pass ids moment id) refl refl refl refl refl))

    pub cancel_told : (ids : List ℕ) (moment : ℕ) (control' : ControlView) (c : Result (List JobStatus) ℕ) (r : Reply) → c ≡ table.cancel_reply control.triggers.triggers ids moment
        → control' ≡ with_triggers control (table.cancel_after control.triggers.triggers ids moment) → r ≡ cancel_reply c → Says made h (pass, Cancel ids moment) r (state edge control' heading opened)
    cancel_told ids moment control' c r is left answer = cancel_by ids moment control' c r (first_unknown control.triggers.triggers ids) refl is left answer

    delete_by : (id : ℕ) (control' : ControlView) (deleted : Bool) (r : Reply) (found : Option Trigger) → trigger_of id control.triggers.triggers ≡ found → deleted ≡ is_some found → control' ≡ with_triggers control (without id control.triggers.triggers)
        → r ≡ delete_reply id deleted → Says made h (pass, Delete id) r (state edge control' heading opened)
    delete_by id control' deleted r None there is left answer =
        subst (λ x. Says made h (pass, Delete id) x (state edge control' heading opened)) (sym (answer ∙ ap (delete_reply id) is))
        (moved (without id) control' (pass, Delete id) (reply.Unknown id) left (delete_is id None there) (squares.no_delete_leaves w pass id) refl refl refl refl refl)
    delete_by id control' deleted r (Some t) there is left answer =
        subst (λ x. Says made h (pass, Delete id) x (state edge control' heading opened)) (sym (answer ∙ ap (delete_reply id) is))
        (moved (without id) control' (pass, Delete id) reply.Deleted left (delete_is id (Some t) there) (squares.delete_leaves w pass id) refl refl refl refl refl)

    pub delete_told : (id : ℕ) (control' : ControlView) (deleted : Bool) (r : Reply) → deleted ≡ is_some (trigger_of id control.triggers.triggers) → control' ≡ with_triggers control (without id control.triggers.triggers)
        → r ≡ delete_reply id deleted → Says made h (pass, Delete id) r (state edge control' heading opened)
    delete_told id control' deleted r is left answer = delete_by id control' deleted r (trigger_of id control.triggers.triggers) refl is left answer

    status_by : (id : ℕ) (r : Reply) (found : Option Trigger) → trigger_of id control.triggers.triggers ≡ found → r ≡ status_reply id (option_map (λ (t : Trigger). t.job) found) → Says made h (pass, ReadStatus id) r (state edge control heading opened)
    status_by id r None there answer =
        subst (λ x. Says made h (pass, ReadStatus id) x (state edge control heading opened)) (sym answer)
        (quiet (pass, ReadStatus id) (reply.Unknown id) (status_is id None there) (squares.no_status_leaves w pass id) refl refl refl refl refl)
    status_by id r (Some t) there answer =
        subst (λ x. Says made h (pass, ReadStatus id) x (state edge control heading opened)) (sym answer)
        (quiet (pass, ReadStatus id) (reply.Resource t.job) (status_is id (Some t) there) (squares.status_leaves w pass id t.job) refl refl refl refl refl)

    pub status_told : (id : ℕ) (job : Option Job) (r : Result Reply AllocError) → job ≡ first_job id control.triggers.triggers → IfOk r (λ a. a ≡ status_reply id job) → IfOk r (λ a. Says made h (pass, ReadStatus id) a (state edge control heading opened))
    status_told id job (Ok a) is answer = status_by id a (trigger_of id control.triggers.triggers) refl (answer ∙ ap (status_reply id) is)
    status_told id job (Err e) is answer = tt

    pub list_told : (filter : Filter) (ids : List ℕ) → ids ≡ listed filter control.triggers.triggers → Says made h (pass, Lists filter) (reply.Collection filter ids) (state edge control heading opened)
    list_told filter ids is = quiet (pass, Lists filter) (reply.Collection filter ids) (list_is filter ids is) (squares.collection_leaves w pass filter ids) refl refl refl refl refl
