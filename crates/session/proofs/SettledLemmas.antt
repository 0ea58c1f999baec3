-- A trigger that is created in a session makes its steps in it.
use Rattle.std.proofs.Common.{◌≡◌, ◌≢◌, ◌⊎◌, ℕ, ◌+◌, ◌==◌, Bool, true, false, ◌&&◌, ◌||◌, List, [], ◌∷◌, ◌++◌, append-nil, refl, sym, ap, ◌∙◌, subst, None, Some, Option, inl, inr}
use Rattle.std.specs.List.{list_any}
use Rattle.std.proofs.lemmas.Bool.{both_ways, cases_Bool, eq-eqb, and_from, or_left, or_parts, or_right}
use Rattle.std.proofs.lemmas.List.Folds.{list_any-append}
use Rattle.std.proofs.lemmas.Option.{none-some, same_Some}
use Rattle.cdni_base.specs.declared.asked.Asked.{Asked}
use Rattle.content_request.specs.Course.{Course as ContentCourse, NoRoom as NoPlace, Crowded, Full, Barred, Kept, Brought, Short, course_calls as content_calls}
use Rattle.content_request.specs.Refresh.{Refreshing, NoBegin, NotDue, Crowded as Thronged, Gathered, Ungathered, refresh_calls}
use Rattle.control_request.specs.Advance.{AdvanceStep, Behind, FetchesFor, RefreshesFor, Steps, advanced, step_after}
use Rattle.control_request.specs.Control.{Acts, Controls, Course, NoRoom, Uncalled, Replied, IsActed, IsRead, IsRefused, Serves, Triggers, course_calls, event_at, next_behind}
use Rattle.control_request.specs.declared.advance.Step.{Step}
use Rattle.control_request.specs.declared.advance.Step.TheVariants as step
use Rattle.control_table.specs.declared.ask.ControlAsk.{ControlAsk}
use Rattle.control_table.specs.declared.ask.ControlAsk.TheVariants as ask
use Rattle.history.specs.Event.{Event, History, Admit, Command, Advance, Request}
use Rattle.history.specs.History.{reply_to, world_of}
use Rattle.history.specs.World.{Made}
use Rattle.history.specs.declared.reply.Reply.{Reply}
use Rattle.history.specs.declared.reply.Reply.TheVariants as reply
use Rattle.location_acl.specs.declared.footprint.Place.{Place}
use Rattle.node_core.specs.Home.{Who}
use Rattle.session_base.specs.Answer.{Answer}
use Rattle.session_base.specs.Doing.{Called, Doing, Told, nothing, then}
use Rattle.session_base.specs.Ending.{next_of}
use Rattle.session_base.specs.declared.ending.Ending.{Ending}
use Rattle.session_base.specs.declared.ending.Ending.TheVariants as ending
use Rattle.session_base.specs.declared.ending.Next.{Next}
use Rattle.session_base.specs.declared.ending.Next.TheVariants as next
use Rattle.session_base.specs.declared.manner.Manner.{Manner}
use Rattle.session_base.specs.declared.settings.Settings.{Settings}
use Rattle.targets.specs.declared.target.Target.{Target}
use Rattle.trigger_command.specs.declared.command.Act.{Act}
use Rattle.trigger_command.specs.declared.command.Act.TheVariants as act
use Rattle.trigger_law.specs.FinalTriggers.{IsFinalIn, deletes}
use Rattle.trigger_status.specs.declared.job.JobStatus.{JobStatus}
use Rattle.upstream_gate.specs.declared.outcome.Outcome.{Outcome}
use Rattle.upstream_gate.specs.declared.outcome.Outcome.TheVariants as outcome
use Rattle.session.proofs.RecordedLemmas.{told_longer}
use Rattle.session.specs.Session.{Runs}
use Rattle.session.proofs.StepLemmas.{is_step}
use Rattle.session.specs.Settled.{AllButLastRest, AllButLastSettle, AllRest, AllSettle, BecameFinal, CreatesNone, NoStepStaysOpen, RestsIn, Settles, is_refusal, is_rest, is_step_open, new_trigger, steps_so}
use Rattle.session.specs.Turn.{Turn}

-- ---- calls that create no trigger

none_then : (calls more : List Called) → CreatesNone calls → CreatesNone more → CreatesNone (calls ++ more)
none_then [] more none others = others
none_then (call ∷ calls) more none others = (none.0, none_then calls more none.1 others)

rests_none : (calls : List Called) → CreatesNone calls → AllRest calls
rests_none [] none = tt
rests_none (call ∷ calls) none = (λ id is. absurd (none-some id (sym none.0 ∙ is)), rests_none calls none.1)

rests_longer : (id : ℕ) (calls more : List Called) → RestsIn id calls → RestsIn id (calls ++ more)
rests_longer id calls more is = list_any-append (steps_so is_rest id) calls more ∙ or_left _ _ is

rests_later : (id : ℕ) (calls more : List Called) → RestsIn id more → RestsIn id (calls ++ more)
rests_later id calls more is = list_any-append (steps_so is_rest id) calls more ∙ or_right _ _ is

rest_then : (calls more : List Called) → AllRest calls → AllRest more → AllRest (calls ++ more)
rest_then [] more all others = others
rest_then (call ∷ calls) more all others = (λ id is. rests_longer id calls more (all.0 id is), rest_then calls more all.1 others)

but_last : (calls : List Called) → AllRest calls → AllButLastRest calls
but_last [] all = tt
but_last (call ∷ calls) all = (λ id is. inl (all.0 id is), but_last calls all.1)

rest_but_last : (calls more : List Called) → AllRest calls → AllButLastRest more → AllButLastRest (calls ++ more)
rest_but_last [] more all others = others
rest_but_last (call ∷ calls) more all others = (λ id is. inl (rests_longer id calls more (all.0 id is)), rest_but_last calls more all.1 others)

-- ---- a step

-- a step creates no trigger, and where there is none more it rests
abbrev Stepping : ℕ → List Called → Step → Type 0
Stepping id calls after = CreatesNone calls × (after ≡ step.Rests → RestsIn id calls)

abbrev is_goes : Step → Bool
is_goes step.Goes = true
is_goes step.Rests = false
is_goes step.Memory = false

abbrev is_short_step : Step → Bool
is_short_step step.Memory = true
is_short_step step.Goes = false
is_short_step step.Rests = false

goes_on : {A : Type 0} (after : Step) → after ≡ step.Goes → after ≡ step.Rests → A
goes_on after goes rests = absurd (both_ways (is_goes after) (ap is_goes rests) (ap is_goes goes))

falls_short : {A : Type 0} (after : Step) → after ≡ step.Memory → after ≡ step.Rests → A
falls_short after short rests = absurd (both_ways (is_short_step after) (ap is_short_step rests) (ap is_short_step short))

this_rests : (id at : ℕ) (line : Reply) (calls : List Called) → is_rest line ≡ true → RestsIn id (advanced id at line ∷ calls)
this_rests id at line calls is = or_left (id == id && is_rest line) (list_any (steps_so is_rest id) calls) (and_from (id == id) (is_rest line) (eq-eqb id id refl) is)

-- a step behind which there is another one, and the last one
goes_step : (id at : ℕ) (line : Reply) (behind : Doing) (after : Step) → behind ≡ nothing → after ≡ step.Goes → Stepping id (advanced id at line ∷ behind.calls) after
goes_step id at line behind after is goes = (subst (λ (x : Doing). CreatesNone (advanced id at line ∷ x.calls)) (sym is) (refl, tt), λ rests. goes_on after goes rests)

last_step : (id at : ℕ) (line : Reply) (behind : Doing) (after : Step) → is_rest line ≡ true → behind ≡ nothing → Stepping id (advanced id at line ∷ behind.calls) after
last_step id at line behind after rests is = (subst (λ (x : Doing). CreatesNone (advanced id at line ∷ x.calls)) (sym is) (refl, tt), λ this. this_rests id at line behind.calls rests)

after_fetch : {A : Type 0} (how : Outcome) → step_after how ≡ step.Rests → A
after_fetch (outcome.Got got) is = goes_on _ refl is
after_fetch (outcome.Refused status) is = goes_on _ refl is
after_fetch (outcome.TooLong size) is = goes_on _ refl is
after_fetch (outcome.Malformed taken) is = goes_on _ refl is
after_fetch (outcome.Cut taken) is = goes_on _ refl is
after_fetch outcome.Failed is = goes_on _ refl is
after_fetch outcome.Memory is = falls_short _ refl is

fetch_step : (id at : ℕ) (line : Reply) (fetch : ℕ) (plan : _) (target : Target) (behind : Doing) (after : Step) → FetchesFor fetch plan target behind after → Stepping id (advanced id at line ∷ behind.calls) after
fetch_step id at line fetch plan target behind after f =
    (subst (λ (x : Doing). CreatesNone (advanced id at line ∷ x.calls)) (sym f.is) (refl, (refl, tt)), λ rests. after_fetch f.how (sym f.goes ∙ rests))

no_refresh : {A : Type 0} (root : Target) (refresh : ℕ) (behind : Doing) (after : Step) → RefreshesFor root refresh behind after → after ≡ step.Rests → A
no_refresh root refresh behind step.Goes r is = goes_on _ refl is
no_refresh root refresh behind step.Rests r is = absurd r.brought
no_refresh root refresh behind step.Memory r is = falls_short _ refl is

refresh_step : (id at : ℕ) (line : Reply) (root : Target) (refresh : ℕ) (behind : Doing) (after : Step) → RefreshesFor root refresh behind after → Stepping id (advanced id at line ∷ behind.calls) after
refresh_step id at line root refresh behind after r =
    (subst (λ (x : Doing). CreatesNone (advanced id at line ∷ x.calls)) (sym r.is) (refl, (refl, tt)), λ rests. no_refresh root refresh behind after r rests)

behind_steps : (root : Target) (id at : ℕ) (line : Reply) (behind : Doing) (after : Step) → Behind root line behind after → Stepping id (advanced id at line ∷ behind.calls) after
behind_steps root id at reply.Started behind after b = goes_step id at reply.Started behind after b.0 b.1
behind_steps root id at (reply.Skipped index) behind after b = goes_step id at (reply.Skipped index) behind after b.0 b.1
behind_steps root id at (reply.Fetch fetch plan target) behind after b = fetch_step id at (reply.Fetch fetch plan target) fetch plan target behind after b
behind_steps root id at (reply.Refresh refresh) behind after b = refresh_step id at (reply.Refresh refresh) root refresh behind after b
behind_steps root id at (reply.Final status) behind after b = last_step id at (reply.Final status) behind after refl b.0
behind_steps root id at (reply.Unknown number) behind after b = last_step id at (reply.Unknown number) behind after refl b.0
behind_steps root id at (reply.Full count) behind after b = last_step id at (reply.Full count) behind after refl b.0
behind_steps root id at (reply.Claimed pass) behind after b = last_step id at (reply.Claimed pass) behind after refl b.0
behind_steps root id at (reply.StepOpen number) behind after b = last_step id at (reply.StepOpen number) behind after refl b.0
behind_steps root id at (reply.Denied delivery rule) behind after b = absurd b
behind_steps root id at (reply.Hit delivery fetch kind body) behind after b = absurd b
behind_steps root id at (reply.Miss delivery fetch plan) behind after b = absurd b
behind_steps root id at (reply.Ended kept) behind after b = absurd b
behind_steps root id at (reply.NotOpen number) behind after b = absurd b
behind_steps root id at (reply.Logged row) behind after b = absurd b
behind_steps root id at (reply.Due refresh) behind after b = absurd b
behind_steps root id at (reply.NotDue later) behind after b = absurd b
behind_steps root id at (reply.Installed generation) behind after b = absurd b
behind_steps root id at (reply.Stale trigger) behind after b = absurd b
behind_steps root id at (reply.Older refresh) behind after b = absurd b
behind_steps root id at reply.Failed behind after b = absurd b
behind_steps root id at (reply.Created number) behind after b = absurd b
behind_steps root id at (reply.Statuses list) behind after b = absurd b
behind_steps root id at reply.Deleted behind after b = absurd b
behind_steps root id at (reply.Resource job) behind after b = absurd b
behind_steps root id at (reply.Collection filter ids) behind after b = absurd b
behind_steps root id at (reply.File number) behind after b = absurd b
behind_steps root id at reply.NothingToCut behind after b = absurd b
behind_steps root id at (reply.LogText text) behind after b = absurd b
behind_steps root id at (reply.Numbers list) behind after b = absurd b
behind_steps root id at reply.Dropped behind after b = absurd b

step_steps : (root : Target) (id : ℕ) (d : Doing) (after : Step) → AdvanceStep root id d after → Stepping id d.calls after
step_steps root id d after (inl lacks) = (subst (λ (x : Doing). CreatesNone x.calls) (sym lacks.is) tt, λ rests. falls_short after lacks.goes rests)
step_steps root id d after (inr moves) = subst (λ (x : Doing). Stepping id x.calls after) (sym moves.is) (behind_steps root id moves.at moves.answer moves.behind after moves.follows)

-- all steps
over_steps : (root : Target) (id : ℕ) (done d all : Doing) (after : Step) → CreatesNone done.calls → AdvanceStep root id d after → all ≡ then done d → Stepping id all.calls after
over_steps root id done d all after none made is = let s = step_steps root id d after made in
    subst (λ (x : Doing). Stepping id x.calls after) (sym is) (none_then done.calls d.calls none s.0, λ rests. rests_later id done.calls d.calls (s.1 rests))

steps_rest : (root : Target) (id : ℕ) (done : Doing) (ds : List Doing) (last : Step) (all : Doing) → CreatesNone done.calls → Steps root id done ds last all → Stepping id all.calls last
unfolding Steps
steps_rest root id done [] last all none steps = absurd steps
steps_rest root id done (d ∷ ds) last all none (step.Goes, made, rest) = steps_rest root id (then done d) ds last all (none_then done.calls d.calls none (step_steps root id d step.Goes made).0) rest
steps_rest root id done (d ∷ ds) last all none (step.Rests, made, (over, same, is)) = subst (Stepping id all.calls) (sym same) (over_steps root id done d all step.Rests none made is)
steps_rest root id done (d ∷ ds) last all none (step.Memory, made, (over, same, is)) = subst (Stepping id all.calls) (sym same) (over_steps root id done d all step.Memory none made is)

never_goes : {A : Type 0} (root : Target) (id : ℕ) (done : Doing) (ds : List Doing) (last : Step) (all : Doing) → Steps root id done ds last all → last ≡ step.Goes → A
unfolding Steps
never_goes root id done [] last all steps is = absurd steps
never_goes root id done (d ∷ ds) last all (step.Goes, made, rest) is = never_goes root id (then done d) ds last all rest is
never_goes root id done (d ∷ ds) last all (step.Rests, made, (over, same, told)) is = goes_on last is same
never_goes root id done (d ∷ ds) last all (step.Memory, made, (over, same, told)) is = absurd (both_ways (is_goes last) (ap is_goes same) (ap is_goes is))

rests_by : (root : Target) (id : ℕ) (ds : List Doing) (last : Step) (all : Doing) → Steps root id nothing ds last all → last ≢ step.Memory → RestsIn id all.calls
rests_by root id ds step.Goes all steps enough = never_goes root id nothing ds step.Goes all steps refl
rests_by root id ds step.Rests all steps enough = (steps_rest root id nothing ds step.Rests all tt steps).1 refl
rests_by root id ds step.Memory all steps enough = absurd (enough refl)

-- a new trigger rests, or no memory is found
pub new_rests : (settings : Settings) (spec : _) (manner : Manner) (d : Doing) (after : Next) → (t : Triggers settings spec manner d after) → t.last ≢ step.Memory → RestsIn t.id t.steps.calls
new_rests settings spec manner d after t enough = rests_by settings.root t.id t.advances.0 t.last t.steps t.advances.1 enough

-- ---- a request

-- the connection ends there for want of memory
abbrev Breaks : Next → Type 0
Breaks after = after ≡ next.Stops ending.Memory

breaks_behind : (last : Step) (after : Next) → is_short_step last ≡ true → Breaks (next_behind last after)
breaks_behind step.Goes after is = absurd (both_ways false refl is)
breaks_behind step.Rests after is = absurd (both_ways false refl is)
breaks_behind step.Memory after is = refl

course_none : (IsRight : Course → Type 0) → ((event : Event) (line : Reply) (short : Bool) → IsRight (Replied event line short) → new_trigger (event, line) ≡ None) → (course : Course) → IsRight course → CreatesNone (course_calls course)
course_none IsRight sound NoRoom right = tt
course_none IsRight sound (Uncalled given) right = tt
course_none IsRight sound (Replied event line short) right = (sound event line short right, tt)

controls_none : (IsRight : Course → Type 0) → ((event : Event) (line : Reply) (short : Bool) → IsRight (Replied event line short) → new_trigger (event, line) ≡ None) → (settings : Settings) (manner : Manner) (d : Doing) (after : Next) → Controls IsRight settings manner d after → CreatesNone d.calls
controls_none IsRight sound settings manner d after c = subst CreatesNone (sym c.calls) (course_none IsRight sound c.course c.right)

read_none : (which : ControlAsk) (moment : ℕ) (event : Event) (line : Reply) → event_at which moment ≡ Some event → new_trigger (event, line) ≡ None
read_none ask.Absent moment event line is = absurd (none-some event is)
read_none ask.WrongMethod moment event line is = absurd (none-some event is)
read_none ask.Command moment event line is = absurd (none-some event is)
read_none (ask.List filter) moment event line is = subst (λ (e : Event). new_trigger (e, line) ≡ None) (same_Some _ event is) refl
read_none (ask.Status id) moment event line is = subst (λ (e : Event). new_trigger (e, line) ≡ None) (same_Some _ event is) refl
read_none (ask.Delete id) moment event line is = subst (λ (e : Event). new_trigger (e, line) ≡ None) (same_Some _ event is) refl
read_none ask.Advertise moment event line is = absurd (none-some event is)
read_none ask.Cut moment event line is = subst (λ (e : Event). new_trigger (e, line) ≡ None) (same_Some _ event is) refl
read_none ask.ListLogs moment event line is = subst (λ (e : Event). new_trigger (e, line) ≡ None) (same_Some _ event is) refl
read_none (ask.ReadLog number) moment event line is = subst (λ (e : Event). new_trigger (e, line) ≡ None) (same_Some _ event is) refl
read_none (ask.DropLog number) moment event line is = subst (λ (e : Event). new_trigger (e, line) ≡ None) (same_Some _ event is) refl

acted_none : (given : Act) (moment : ℕ) (event : Event) (line : Reply) (short : Bool) → IsActed given moment (Replied event line short) → new_trigger (event, line) ≡ None
acted_none (act.Cancel ids) moment event line short is = subst (λ (e : Event). new_trigger (e, line) ≡ None) (sym is) refl
acted_none (act.Trigger spec) moment event line short (is, count, full) = subst (λ (e : Event). new_trigger (e, line) ≡ None) (sym is) (subst (λ (r : Reply). new_trigger (Command spec moment, r) ≡ None) (sym full) refl)

created_rests : (settings : Settings) (spec : _) (manner : Manner) (d : Doing) (after : Next) → (t : Triggers settings spec manner d after) → t.last ≢ step.Memory → AllRest d.calls
created_rests settings spec manner d after t enough = subst AllRest (sym t.calls) (
  λ id is. subst (λ (n : ℕ). RestsIn n t.steps.calls) (same_Some t.id id is) (new_rests settings spec manner d after t enough),
  rests_none t.steps.calls (steps_rest settings.root t.id nothing t.advances.0 t.last t.steps tt t.advances.1).0,
)

-- the last trigger of a connection that ends for want of memory need not rest
created_last : (settings : Settings) (spec : _) (manner : Manner) (d : Doing) (after : Next) → (t : Triggers settings spec manner d after) → AllButLastRest d.calls
created_last settings spec manner d after t =
    let none = (steps_rest settings.root t.id nothing t.advances.0 t.last t.steps tt t.advances.1).0 in
    subst AllButLastRest (sym t.calls) (λ id is. inr none, but_last t.steps.calls (rests_none t.steps.calls none))

abbrev RestsOrBreaks : List Called → Next → Type 0
RestsOrBreaks calls after = AllRest calls ⊎ (Breaks after × AllButLastRest calls)

triggers_rest : (settings : Settings) (spec : _) (manner : Manner) (d : Doing) (after : Next) → (t : Triggers settings spec manner d after) → RestsOrBreaks d.calls after
triggers_rest settings spec manner d after t = elim (cases_Bool (is_short_step t.last)) [
  | inl short ↦ inr (subst Breaks (sym t.goes) (breaks_behind t.last (next_of manner.leaves t.short t.fault) short), created_last settings spec manner d after t)
  | inr enough ↦ inl (created_rests settings spec manner d after t (λ is. both_ways (is_short_step t.last) enough (ap is_short_step is)))
]

acts_rest : (settings : Settings) (given : Act) (manner : Manner) (d : Doing) (after : Next) → Acts settings given manner d after → RestsOrBreaks d.calls after
acts_rest settings given manner d after (inl c) = inl (rests_none d.calls (controls_none (IsActed given manner.moment) (λ event line short is. acted_none given manner.moment event line short is) settings manner d after c))
acts_rest settings (act.Trigger spec) manner d after (inr t) = triggers_rest settings spec manner d after t
acts_rest settings (act.Cancel ids) manner d after (inr t) = absurd t

serves_rest : (settings : Settings) (asked : Asked) (body : List ℕ) (manner : Manner) (d : Doing) (after : Next) → Serves settings asked body manner d after → RestsOrBreaks d.calls after
serves_rest settings asked body manner d after (which, asks, (inl (is, (inl c)))) = inl (rests_none d.calls (controls_none (IsRefused settings body) (λ event line short is. absurd is) settings manner d after c))
serves_rest settings asked body manner d after (which, asks, (inl (is, (inr (command, reads, acts))))) = acts_rest settings command.act manner d after acts
serves_rest settings asked body manner d after (which, asks, (inr (other, c))) = inl (rests_none d.calls (controls_none (IsRead settings which manner.moment) (λ event line short is. read_none which manner.moment event line is) settings manner d after c))

refresh_none : (moment : ℕ) (how : Refreshing) → CreatesNone (refresh_calls moment how)
refresh_none moment NoBegin = tt
refresh_none moment (NotDue later) = (refl, tt)
refresh_none moment (Thronged count) = (refl, tt)
refresh_none moment (Gathered refresh made tree at line) = (refl, (refl, tt))
refresh_none moment (Ungathered refresh made at line) = (refl, (refl, tt))

content_none : (request : Request) (moment : ℕ) (answer : Answer) (taken : ℕ) (course : ContentCourse) → CreatesNone (content_calls (Admit request moment) answer taken course)
content_none request moment answer taken NoPlace = tt
content_none request moment answer taken (Crowded count) = tt
content_none request moment answer taken (Full count) = (refl, tt)
content_none request moment answer taken (Barred delivery rule at line) = (refl, (refl, tt))
content_none request moment answer taken (Kept delivery fetch kind body at line) = (refl, (refl, tt))
content_none request moment answer taken (Brought delivery fetch plan made how ended closed at line) = (refl, (refl, (refl, tt)))
content_none request moment answer taken (Short delivery fetch plan made how ended closed at line) = (refl, (refl, (refl, tt)))

-- ---- all requests

turn_rests : (settings : Settings) (place : Place) (last : Bool) (d : Doing) (after : Next) → Turn settings place last d after → RestsOrBreaks d.calls after
turn_rests settings place last d after (inl (end, is, none)) = inl (subst AllRest (sym none.calls) tt)
turn_rests settings place last d after (inr (inl refusal)) = inl (subst AllRest (sym refusal.only.calls) tt)
turn_rests settings place last d after (inr (inr (inl broken))) = inl (subst AllRest (sym broken.only.calls) tt)
turn_rests settings place last d after (inr (inr (inr served))) =
    subst (λ (x : Doing). RestsOrBreaks x.calls after) (sym served.whole.is) (elim served.answers [
      | inl control ↦ serves_rest settings served.asked served.whole.content _ served.inner after control.1
      | inr content ↦ let k = content.1 in
          inl (subst AllRest (sym k.calls) (rests_none (refresh_calls _ k.how ++ content_calls _ k.answer _ k.course) (none_then (refresh_calls _ k.how) (content_calls _ k.answer _ k.course) (refresh_none _ k.how) (content_none _ _ k.answer _ k.course))))
    ])

abbrev end_in : Next → Option Ending
end_in next.GoesOn = None
end_in (next.Stops end) = Some end

on_breaks : {A : Type 0} → Breaks next.GoesOn → A
on_breaks is = absurd (none-some ending.Memory (ap end_in is))

end_breaks : {A : Type 0} (end e : Ending) → end ≡ e → end ≢ ending.Memory → Breaks (next.Stops e) → A
end_breaks end e same enough is = absurd (enough (same ∙ same_Some e ending.Memory (ap end_in is)))

pub runs_rest : (settings : Settings) (place : Place) (n : ℕ) (done : Doing) (turns : List Doing) (end : Ending) (all : Doing) → AllRest done.calls → Runs settings place n done turns end all → end ≢ ending.Memory → AllRest all.calls
unfolding Runs
runs_rest settings place n done [] end all rests runs enough = subst (λ (x : Doing). AllRest x.calls) (sym runs.2) rests
runs_rest settings place n done (d ∷ ds) end all rests (within, next.GoesOn, turn, rest) enough = elim (turn_rests settings place _ d next.GoesOn turn) [
  | inl here ↦ runs_rest settings place (n + 1) (then done d) ds end all (rest_then done.calls d.calls rests here) rest enough
  | inr breaks ↦ on_breaks breaks.0
]
runs_rest settings place n done (d ∷ ds) end all rests (within, next.Stops e, turn, (last, same, is)) enough = elim (turn_rests settings place _ d (next.Stops e) turn) [
  | inl here ↦ subst (λ (x : Doing). AllRest x.calls) (sym is) (rest_then done.calls d.calls rests here)
  | inr breaks ↦ end_breaks end e same enough breaks.0
]

pub runs_rest_but_last : (settings : Settings) (place : Place) (n : ℕ) (done : Doing) (turns : List Doing) (end : Ending) (all : Doing) → AllRest done.calls → Runs settings place n done turns end all → AllButLastRest all.calls
unfolding Runs
runs_rest_but_last settings place n done [] end all rests runs = subst (λ (x : Doing). AllButLastRest x.calls) (sym runs.2) (but_last done.calls rests)
runs_rest_but_last settings place n done (d ∷ ds) end all rests (within, next.GoesOn, turn, rest) = elim (turn_rests settings place _ d next.GoesOn turn) [
  | inl here ↦ runs_rest_but_last settings place (n + 1) (then done d) ds end all (rest_then done.calls d.calls rests here) rest
  | inr breaks ↦ on_breaks breaks.0
]
runs_rest_but_last settings place n done (d ∷ ds) end all rests (within, next.Stops e, turn, (last, same, is)) = subst (λ (x : Doing). AllButLastRest x.calls) (sym is) (elim (turn_rests settings place _ d (next.Stops e) turn) [
  | inl here ↦ but_last (done.calls ++ d.calls) (rest_then done.calls d.calls rests here)
  | inr breaks ↦ rest_but_last done.calls d.calls rests breaks.1
])

-- ---- in the history

abbrev FinalLaw : Type 0
FinalLaw = (made : Made) (before since : History) (pass id moment : ℕ) (status : JobStatus) → reply_to made before (pass, Advance id moment) ≡ reply.Final status
    → IsFinalIn (world_of made ((before ++ (pass, Advance id moment) ∷ []) ++ since)) id ⊎ (list_any (deletes id) since ≡ true)

-- the trigger is final, the step is refused, or the step before is open
why_rests : (answer : Reply) → is_rest answer ≡ true → ((status : JobStatus) × (answer ≡ reply.Final status)) ⊎ ((is_refusal answer ≡ true) ⊎ (is_step_open answer ≡ true))
why_rests (reply.Final status) is = inl (status, refl)
why_rests (reply.Unknown number) is = inr (inl refl)
why_rests (reply.Full count) is = inr (inl refl)
why_rests (reply.Claimed pass) is = inr (inl refl)
why_rests (reply.StepOpen number) is = inr (inr refl)
why_rests reply.Started is = absurd (both_ways false refl is)
why_rests (reply.Skipped index) is = absurd (both_ways false refl is)
why_rests (reply.Fetch fetch plan target) is = absurd (both_ways false refl is)
why_rests (reply.Refresh refresh) is = absurd (both_ways false refl is)
why_rests (reply.Denied delivery rule) is = absurd (both_ways false refl is)
why_rests (reply.Hit delivery fetch kind body) is = absurd (both_ways false refl is)
why_rests (reply.Miss delivery fetch plan) is = absurd (both_ways false refl is)
why_rests (reply.Ended kept) is = absurd (both_ways false refl is)
why_rests (reply.NotOpen number) is = absurd (both_ways false refl is)
why_rests (reply.Logged row) is = absurd (both_ways false refl is)
why_rests (reply.Due refresh) is = absurd (both_ways false refl is)
why_rests (reply.NotDue later) is = absurd (both_ways false refl is)
why_rests (reply.Installed generation) is = absurd (both_ways false refl is)
why_rests (reply.Stale trigger) is = absurd (both_ways false refl is)
why_rests (reply.Older refresh) is = absurd (both_ways false refl is)
why_rests reply.Failed is = absurd (both_ways false refl is)
why_rests (reply.Created number) is = absurd (both_ways false refl is)
why_rests (reply.Statuses list) is = absurd (both_ways false refl is)
why_rests reply.Deleted is = absurd (both_ways false refl is)
why_rests (reply.Resource job) is = absurd (both_ways false refl is)
why_rests (reply.Collection filter ids) is = absurd (both_ways false refl is)
why_rests (reply.File number) is = absurd (both_ways false refl is)
why_rests reply.NothingToCut is = absurd (both_ways false refl is)
why_rests (reply.LogText text) is = absurd (both_ways false refl is)
why_rests (reply.Numbers list) is = absurd (both_ways false refl is)
why_rests reply.Dropped is = absurd (both_ways false refl is)

final_settles : FinalLaw → (made : Made) (before since last : History) (pass id moment : ℕ) (status : JobStatus) (calls : List Called) → last ≡ (before ++ (pass, Advance id moment) ∷ []) ++ since → reply_to made before (pass, Advance id moment) ≡ reply.Final status → Settles made last id calls
final_settles law made before since last pass id moment status calls longer is = inl (record {
  before = before ++ (pass, Advance id moment) ∷ [];
  since = since;
  longer = longer;
  final = elim (law made before [] pass id moment status is) [
    | inl final ↦ subst (λ (h : History). IsFinalIn (world_of made h) id) (append-nil (before ++ (pass, Advance id moment) ∷ [])) final
    | inr gone ↦ absurd (both_ways false refl gone)
  ];
  stays = elim (law made before since pass id moment status is) [
    | inl final ↦ inl (subst (λ (h : History). IsFinalIn (world_of made h) id) (sym longer) final)
    | inr gone ↦ inr gone
  ];
})

this_step : (id : ℕ) (so : Bool) → so ≡ true → (id == id && so) ≡ true
this_step id so is = and_from (id == id) so (eq-eqb id id refl) is

step_settles : FinalLaw → (who : Who) (before last : History) (id moment : ℕ) (answer : Reply) (calls : List Called) → answer ≡ reply_to who.made before (who.number, Advance id moment) → Told who (before ++ (who.number, Advance id moment) ∷ []) calls last
    → steps_so is_step_open id (Advance id moment, answer) ≡ false → is_rest answer ≡ true → Settles who.made last id ((Advance id moment, answer) ∷ calls)
step_settles law who before last id moment answer calls answered told closed rests = elim (why_rests answer rests) [
  | inl final ↦ let since = told_longer who (before ++ (who.number, Advance id moment) ∷ []) calls last told in
      final_settles law who.made before since.0 last who.number id moment final.0 ((Advance id moment, answer) ∷ calls) since.1 (sym answered ∙ final.1)
  | inr other ↦ elim other [
    | inl refused ↦ inr (or_left (id == id && is_refusal answer) (list_any (steps_so is_refusal id) calls) (this_step id (is_refusal answer) refused))
    | inr open_still ↦ absurd (both_ways (id == id && is_step_open answer) closed (this_step id (is_step_open answer) open_still))
  ]
]

call_settles : FinalLaw → (who : Who) (before last : History) (id : ℕ) (event : Event) (answer : Reply) (calls : List Called) → answer ≡ reply_to who.made before (who.number, event) → Told who (before ++ (who.number, event) ∷ []) calls last
    → steps_so is_step_open id (event, answer) ≡ false → steps_so is_rest id (event, answer) ≡ true → Settles who.made last id ((event, answer) ∷ calls)
call_settles law who before last id event answer calls answered told closed is =
    let step = is_step is_rest id event answer is in
    subst (λ (x : Event). answer ≡ reply_to who.made before (who.number, x) → Told who (before ++ (who.number, x) ∷ []) calls last → steps_so is_step_open id (x, answer) ≡ false → Settles who.made last id ((x, answer) ∷ calls))
    (sym step.1) (λ a t c. step_settles law who before last id step.0 answer calls a t c step.2) answered told closed

settles_later : (made : Made) (last : History) (id : ℕ) (call : Called) (calls : List Called) → Settles made last id calls → Settles made last id (call ∷ calls)
settles_later made last id call calls (inl final) = inl final
settles_later made last id call calls (inr refused) = inr (or_right (steps_so is_refusal id call) (list_any (steps_so is_refusal id) calls) refused)

settles_by : FinalLaw → (who : Who) (h : History) (calls : List Called) (last : History) (id : ℕ) → Told who h calls last → list_any (steps_so is_step_open id) calls ≡ false → RestsIn id calls → Settles who.made last id calls
settles_by law who h [] last id told closed is = absurd (both_ways false refl is)
settles_by law who h ((event, answer) ∷ calls) last id (others, are, answered, told) closed is =
    let apart = or_parts (steps_so is_step_open id (event, answer)) (list_any (steps_so is_step_open id) calls) closed in
    elim (cases_Bool (steps_so is_rest id (event, answer))) [
      | inl here ↦ call_settles law who (h ++ others) last id event answer calls answered told apart.0 here
      | inr other ↦ settles_later who.made last id (event, answer) calls (settles_by law who ((h ++ others) ++ (who.number, event) ∷ []) calls last id told apart.1 (subst (λ (b : Bool). (b || list_any (steps_so is_rest id) calls) ≡ true) other is))
    ]

pub all_settle : FinalLaw → (who : Who) (h : History) (calls : List Called) (last : History) → Told who h calls last → NoStepStaysOpen calls → AllRest calls → AllSettle who.made last calls
all_settle law who h [] last told none rests = tt
all_settle law who h (call ∷ calls) last (others, are, answered, told) none rests = (
  λ id is. settles_by law who ((h ++ others) ++ (who.number, call.0) ∷ []) calls last id told (none.0 id is) (rests.0 id is),
  all_settle law who ((h ++ others) ++ (who.number, call.0) ∷ []) calls last told none.1 rests.1,
)

pub all_but_last_settle : FinalLaw → (who : Who) (h : History) (calls : List Called) (last : History) → Told who h calls last → NoStepStaysOpen calls → AllButLastRest calls → AllButLastSettle who.made last calls
all_but_last_settle law who h [] last told none rests = tt
all_but_last_settle law who h (call ∷ calls) last (others, are, answered, told) none rests = (
  λ id is. elim (rests.0 id is) [
    | inl rest ↦ inl (settles_by law who ((h ++ others) ++ (who.number, call.0) ∷ []) calls last id told (none.0 id is) rest)
    | inr last_one ↦ inr last_one
  ],
  all_but_last_settle law who ((h ++ others) ++ (who.number, call.0) ∷ []) calls last told none.1 rests.1,
)
