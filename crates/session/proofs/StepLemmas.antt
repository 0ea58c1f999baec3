-- Each step that a session makes finds the step before ended.
use Rattle.std.proofs.Common.{◌≡◌, ◌⊎◌, ℕ, ◌+◌, ◌==◌, Bool, true, false, not, ◌&&◌, List, [], ◌∷◌, ◌++◌, length, length-append, arith, refl, sym, ap, ◌∙◌, subst, append-nil, None, Some, Option, inl, inr}
use Rattle.std.specs.List.{list_all, list_any}
use Rattle.std.proofs.lemmas.Bool.{and_from, and_parts, both_ways, eq-eqb, eqb-true, false_from_ne_true, not-true, or_from}
use Rattle.std.proofs.lemmas.List.Folds.{list_all-append}
use Rattle.std.proofs.lemmas.Option.{none-some, same_Some}
use Rattle.content_request.specs.Course.{Course, NoRoom, Crowded, Full, Barred, Kept, Brought, Short, course_calls}
use Rattle.content_request.specs.Refresh.{Refreshing, NoBegin, NotDue, Crowded as Thronged, Gathered, Ungathered, refresh_calls}
use Rattle.control_request.proofs.CallLemmas.{IsControlEvent, serves_have}
use Rattle.history.specs.After.{begun_fetch, begun_refresh, created_trigger}
use Rattle.history.specs.Event.{Entry, Event, History, Admit, FetchEnd, Finish, RefreshBegin, RefreshEnd, Command, Advance, Cancel, Delete, ReadStatus, Lists, Cut, LogFile, ListLogs, DropLog, Request}
use Rattle.history.specs.History.{reply_to}
use Rattle.history.specs.Laws.{HasBegun, ends_fetch, ends_refresh}
use Rattle.history.specs.World.{Made}
use Rattle.history.specs.declared.reply.Reply.{Reply}
use Rattle.history.specs.declared.reply.Reply.TheVariants as reply
use Rattle.location_acl.specs.declared.footprint.Place.{Place}
use Rattle.metadata_objects.specs.Tree.{TreeData}
use Rattle.node_core.specs.Home.{AreOthers, Who}
use Rattle.session_base.specs.Answer.{Answer}
use Rattle.session_base.specs.Doing.{Called, Doing, Told, then}
use Rattle.session_base.specs.declared.ending.Ending.{Ending}
use Rattle.session_base.specs.declared.ending.Next.{Next}
use Rattle.session_base.specs.declared.ending.Next.TheVariants as next
use Rattle.session_base.specs.declared.settings.Settings.{Settings}
use Rattle.targets.specs.declared.endpoint.Endpoint.{Endpoint}
use Rattle.targets.specs.declared.target.Target.{Target}
use Rattle.trigger_law.specs.OpenSteps.{BegunByStep, IsStepOpen}
use Rattle.upstream_gate.specs.declared.outcome.Outcome.{Outcome}
use Rattle.session.specs.Session.{Runs}
use Rattle.session.specs.Settled.{NoStepStaysOpen, is_step_open, new_trigger, steps_so}
use Rattle.session.specs.Turn.{Turn}

-- ---- what a step begins, the next call ends

-- what a call begins as a step
abbrev step_given : (Reply → Option ℕ) → Called → Option ℕ
step_given given (Advance id moment, answer) = given answer
step_given given call = None

-- the first of these calls asks for the end of what has this number
abbrev EndsNext : (ℕ → ℕ → Entry → Bool) → ℕ → ℕ → List Called → Type 0
EndsNext ends number pass [] = ⊥
EndsNext ends number pass (call ∷ calls) = ends number pass (pass, call.0) ≡ true

abbrev StepEnds : ℕ → Called → List Called → Type 0
StepEnds pass call later = ((number : ℕ) → step_given begun_fetch call ≡ Some number → EndsNext ends_fetch number pass later)
    × ((number : ℕ) → step_given begun_refresh call ≡ Some number → EndsNext ends_refresh number pass later)

abbrev AllStepsEnd : ℕ → List Called → Type 0
AllStepsEnd pass [] = Unit {0}
AllStepsEnd pass (call ∷ calls) = StepEnds pass call calls × AllStepsEnd pass calls

next_longer : (ends : ℕ → ℕ → Entry → Bool) (number pass : ℕ) (calls more : List Called) → EndsNext ends number pass calls → EndsNext ends number pass (calls ++ more)
next_longer ends number pass [] more is = absurd is
next_longer ends number pass (call ∷ calls) more is = is

begins_nothing : (pass : ℕ) (call : Called) (later : List Called) → step_given begun_fetch call ≡ None → step_given begun_refresh call ≡ None → StepEnds pass call later
begins_nothing pass call later f r = (λ number is. absurd (none-some number (sym f ∙ is)), λ number is. absurd (none-some number (sym r ∙ is)))

module _ (pass : ℕ) where
  steps_then : (calls more : List Called) → AllStepsEnd pass calls → AllStepsEnd pass more → AllStepsEnd pass (calls ++ more)
  steps_then [] more p q = q
  steps_then (call ∷ calls) more p q = (
    (λ number is. next_longer ends_fetch number pass calls more (p.0.0 number is), λ number is. next_longer ends_refresh number pass calls more (p.0.1 number is)),
    steps_then calls more p.1 q,
  )

  control_steps : (event : Event) (line : Reply) → IsControlEvent event → AllStepsEnd pass ((event, line) ∷ [])
  control_steps (Admit request moment) line is = absurd is
  control_steps (FetchEnd fetch outcome moment) line is = absurd is
  control_steps (Finish delivery status total entity moment) line is = absurd is
  control_steps (RefreshBegin moment) line is = absurd is
  control_steps (RefreshEnd refresh tree moment) line is = absurd is
  control_steps (Command spec moment) line is = (begins_nothing pass (Command spec moment, line) [] refl refl, tt)
  control_steps (Advance id moment) line is = absurd is
  control_steps (Cancel ids moment) line is = (begins_nothing pass (Cancel ids moment, line) [] refl refl, tt)
  control_steps (Delete id) line is = (begins_nothing pass (Delete id, line) [] refl refl, tt)
  control_steps (ReadStatus id) line is = (begins_nothing pass (ReadStatus id, line) [] refl refl, tt)
  control_steps (Lists filter) line is = (begins_nothing pass (Lists filter, line) [] refl refl, tt)
  control_steps (Cut moment) line is = (begins_nothing pass (Cut moment, line) [] refl refl, tt)
  control_steps (LogFile number) line is = (begins_nothing pass (LogFile number, line) [] refl refl, tt)
  control_steps ListLogs line is = (begins_nothing pass (ListLogs, line) [] refl refl, tt)
  control_steps (DropLog number) line is = (begins_nothing pass (DropLog number, line) [] refl refl, tt)

  same_number : (a b : ℕ) → Some a ≡ Some b → (a == b && pass == pass) ≡ true
  same_number a b is = and_from (a == b) (pass == pass) (eq-eqb a b (same_Some a b is)) (eq-eqb pass pass refl)

  still_step : (id at : ℕ) (line : Reply) → begun_fetch line ≡ None → begun_refresh line ≡ None → AllStepsEnd pass ((Advance id at, line) ∷ [])
  still_step id at line f r = (begins_nothing pass (Advance id at, line) [] f r, tt)

  fetched_step : (id at fetch : ℕ) (plan : List Endpoint) (target : Target) (how : Outcome) (end : ℕ) (closed : Reply) → AllStepsEnd pass ((Advance id at, reply.Fetch fetch plan target) ∷ (FetchEnd fetch how end, closed) ∷ [])
  fetched_step id at fetch plan target how end closed =
      ((λ number is. same_number fetch number is, λ number is. absurd (none-some number is)), (begins_nothing pass (FetchEnd fetch how end, closed) [] refl refl, tt))

  gathered_step : (id at refresh : ℕ) (tree : Option TreeData) (end : ℕ) (closed : Reply) → AllStepsEnd pass ((Advance id at, reply.Refresh refresh) ∷ (RefreshEnd refresh tree end, closed) ∷ [])
  gathered_step id at refresh tree end closed =
      ((λ number is. absurd (none-some number is), λ number is. same_number refresh number is), (begins_nothing pass (RefreshEnd refresh tree end, closed) [] refl refl, tt))

  -- a request for content makes no step
  abbrev NoSteps : List Called → Type 0
  NoSteps [] = Unit {0}
  NoSteps (call ∷ calls) = ((step_given begun_fetch call ≡ None) × (step_given begun_refresh call ≡ None)) × NoSteps calls

  no_steps_end : (calls : List Called) → NoSteps calls → AllStepsEnd pass calls
  no_steps_end [] none = tt
  no_steps_end (call ∷ calls) none = (begins_nothing pass call calls none.0.0 none.0.1, no_steps_end calls none.1)

  refresh_steps : (moment : ℕ) (how : Refreshing) → NoSteps (refresh_calls moment how)
  refresh_steps moment NoBegin = tt
  refresh_steps moment (NotDue later) = ((refl, refl), tt)
  refresh_steps moment (Thronged count) = ((refl, refl), tt)
  refresh_steps moment (Gathered refresh made tree at line) = ((refl, refl), ((refl, refl), tt))
  refresh_steps moment (Ungathered refresh made at line) = ((refl, refl), ((refl, refl), tt))

  course_steps : (request : Request) (moment : ℕ) (answer : Answer) (taken : ℕ) (course : Course) → NoSteps (course_calls (Admit request moment) answer taken course)
  course_steps request moment answer taken NoRoom = tt
  course_steps request moment answer taken (Crowded count) = tt
  course_steps request moment answer taken (Full count) = ((refl, refl), tt)
  course_steps request moment answer taken (Barred delivery rule at line) = ((refl, refl), ((refl, refl), tt))
  course_steps request moment answer taken (Kept delivery fetch kind body at line) = ((refl, refl), ((refl, refl), tt))
  course_steps request moment answer taken (Brought delivery fetch plan made how ended closed at line) = ((refl, refl), ((refl, refl), ((refl, refl), tt)))
  course_steps request moment answer taken (Short delivery fetch plan made how ended closed at line) = ((refl, refl), ((refl, refl), ((refl, refl), tt)))

  turn_steps : (settings : Settings) (place : Place) (last : Bool) (d : Doing) (after : Next) → Turn settings place last d after → AllStepsEnd pass d.calls
  turn_steps settings place last d after (inl (end, is, none)) = subst (AllStepsEnd pass) (sym none.calls) tt
  turn_steps settings place last d after (inr (inl refusal)) = subst (AllStepsEnd pass) (sym refusal.only.calls) tt
  turn_steps settings place last d after (inr (inr (inl broken))) = subst (AllStepsEnd pass) (sym broken.only.calls) tt
  turn_steps settings place last d after (inr (inr (inr served))) =
      subst (λ (x : Doing). AllStepsEnd pass x.calls) (sym served.whole.is) (elim served.answers [
        | inl control ↦ serves_have (AllStepsEnd pass) tt steps_then control_steps still_step fetched_step gathered_step settings served.asked served.whole.content _ served.inner after control.1
        | inr content ↦ let k = content.1 in
            subst (AllStepsEnd pass) (sym k.calls) (steps_then (refresh_calls _ k.how) (course_calls _ k.answer _ k.course) (no_steps_end (refresh_calls _ k.how) (refresh_steps _ k.how))
            (no_steps_end (course_calls _ k.answer _ k.course) (course_steps _ _ k.answer _ k.course)))
      ])

  pub runs_steps : (settings : Settings) (place : Place) (n : ℕ) (done : Doing) (turns : List Doing) (end : Ending) (all : Doing) → AllStepsEnd pass done.calls → Runs settings place n done turns end all → AllStepsEnd pass all.calls
  unfolding Runs
  runs_steps settings place n done [] end all ends runs = subst (λ (x : Doing). AllStepsEnd pass x.calls) (sym runs.2) ends
  runs_steps settings place n done (d ∷ ds) end all ends (within, next.GoesOn, turn, rest) =
      runs_steps settings place (n + 1) (then done d) ds end all (steps_then done.calls d.calls ends (turn_steps settings place _ d next.GoesOn turn)) rest
  runs_steps settings place n done (d ∷ ds) end all ends (within, next.Stops e, turn, (last, same, is)) =
      subst (λ (x : Doing). AllStepsEnd pass x.calls) (sym is) (steps_then done.calls d.calls ends (turn_steps settings place _ d (next.Stops e) turn))

-- ---- where a history is cut

abbrev head_or : Entry → History → Entry
head_or x [] = x
head_or x (y ∷ ys) = y

abbrev tail_of : History → History
tail_of [] = []
tail_of (y ∷ ys) = ys

-- a cut of two histories together is one of the first or of the second
cut : (h more before : History) (x : Entry) (since : History) → h ++ more ≡ before ++ x ∷ since
    → ((rest : History) × (h ≡ before ++ x ∷ rest) × (since ≡ rest ++ more)) ⊎ ((rest : History) × (more ≡ rest ++ x ∷ since) × (before ≡ h ++ rest))
cut [] more before x since is = inr (before, is, refl)
cut (y ∷ h) more [] x since is = inl (h, ap (λ z. z ∷ h) (ap (head_or x) is), sym (ap tail_of is))
cut (y ∷ h) more (b ∷ before) x since is = elim (cut h more before x since (ap tail_of is)) [
  | inl within ↦ inl (within.0, ap (λ z. z ∷ h) (ap (head_or x) is) ∙ ap (λ z. b ∷ z) within.1, within.2)
  | inr behind ↦ inr (behind.0, behind.1, ap (λ z. z ∷ before) (sym (ap (head_or x) is)) ∙ ap (λ z. y ∷ z) behind.2)
]

not_among : (number : ℕ) (rest : History) (x : Entry) (since : History) → AreOthers number (rest ++ x ∷ since) → x.0 ≡ number → ⊥
not_among number [] x since are own = are.0 own
not_among number (y ∷ rest) x since are own = not_among number rest x since are.1 own

no_room : {A : Type 0} (rest : History) (x : Entry) (since : History) → [] ≡ rest ++ x ∷ since → A
no_room rest x since is = absurd (omega (arith, ap length is, length-append rest (x ∷ since)))

-- ---- from call to call

-- until it is created, a trigger makes no step
abbrev pub NumberLaw : Type 0
NumberLaw = (made : Made) (before since : History) (created : Entry) (pass id moment : ℕ) → created_trigger (reply_to made (before ++ since) created) ≡ Some id
    → reply_to made before (pass, Advance id moment) ≡ reply.Unknown id

module _ (given : Reply → Option ℕ) (ends : ℕ → ℕ → Entry → Bool) (who : Who) (id : ℕ) where
  abbrev StepBegun : History → ℕ → Type 0
  StepBegun h number = BegunByStep who.made given ends h number who.number id

  -- what a step of the trigger began and is not ended, the next call ends
  abbrev pub Due : History → List Called → Type 0
  Due h calls = (number : ℕ) → StepBegun h number → EndsNext ends number who.number calls

  -- others begin no step of this pass
  before_others : (h others : History) (number : ℕ) → AreOthers who.number others → StepBegun (h ++ others) number → StepBegun h number
  before_others h others number are (b, moment, is) = elim (cut h others b.before (who.number, b.event) b.since b.whole) [
    | inl within ↦ (
      record {
        before = b.before;
        event = b.event;
        since = within.0;
        whole = within.1;
        begun = b.begun;
        kept = (and_parts _ _ (sym (list_all-append (λ x. not (ends number who.number x)) within.0 others) ∙ ap (list_all (λ x. not (ends number who.number x))) (sym within.2) ∙ b.kept)).0;
      },
      moment,
      is,
    )
    | inr behind ↦ absurd (not_among who.number behind.0 (who.number, b.event) b.since (subst (AreOthers who.number) behind.1 are) refl)
  ]

  -- a step was begun before a call that does not end it, or by the call
  abbrev BeganBefore : History → Event → ℕ → Type 0
  BeganBefore h event number = StepBegun h number × (ends number who.number (who.number, event) ≡ false)

  abbrev BeginsNow : History → Event → ℕ → Type 0
  BeginsNow h event number = (moment : ℕ) × (event ≡ Advance id moment) × (given (reply_to who.made h (who.number, event)) ≡ Some number)

  at_call : (h : History) (event : Event) (number moment : ℕ) (b : HasBegun who.made given ends (h ++ (who.number, event) ∷ []) number who.number) → b.event ≡ Advance id moment
      → (rest : History) → (who.number, event) ∷ [] ≡ rest ++ (who.number, b.event) ∷ b.since → b.before ≡ h ++ rest → BeginsNow h event number
  at_call h event number moment b step (r ∷ rest) is place = no_room rest (who.number, b.event) b.since (ap tail_of is)
  at_call h event number moment b step [] is place =
      let same : event ≡ b.event = ap (λ (x : Entry). x.1) (ap (head_or (who.number, event)) is) in (
        moment,
        same ∙ step,
        ap (λ (x : Event). given (reply_to who.made h (who.number, x))) same ∙ ap (λ (x : History). given (reply_to who.made x (who.number, b.event))) (sym (place ∙ append-nil h)) ∙ b.begun,
      )

  before_call : (h : History) (event : Event) (number : ℕ) → StepBegun (h ++ (who.number, event) ∷ []) number → BeganBefore h event number ⊎ BeginsNow h event number
  before_call h event number (b, moment, step) = elim (cut h ((who.number, event) ∷ []) b.before (who.number, b.event) b.since b.whole) [
    | inl within ↦
        let kept = and_parts (list_all (λ x. not (ends number who.number x)) within.0) (list_all (λ x. not (ends number who.number x)) ((who.number, event) ∷ []))
        (sym (list_all-append (λ x. not (ends number who.number x)) within.0 ((who.number, event) ∷ [])) ∙ ap (list_all (λ x. not (ends number who.number x))) (sym within.2) ∙ b.kept) in
        inl ((record { before = b.before; event = b.event; since = within.0; whole = within.1; begun = b.begun; kept = kept.0 }, moment, step), not-true (ends number who.number (who.number, event)) (and_parts (not (ends number who.number (who.number, event))) true kept.1).0)
    | inr behind ↦ inr (at_call h event number moment b step behind.0 behind.1 behind.2)
  ]

  given_as_step : (event : Event) (answer : Reply) (moment number : ℕ) → event ≡ Advance id moment → given answer ≡ Some number → step_given given (event, answer) ≡ Some number
  given_as_step event answer moment number is gives = subst (λ (x : Event). step_given given (x, answer) ≡ Some number) (sym is) gives

  pub due_next : (h others : History) (call : Called) (calls : List Called) → AreOthers who.number others → call.1 ≡ reply_to who.made (h ++ others) (who.number, call.0)
      → ((number : ℕ) → step_given given call ≡ Some number → EndsNext ends number who.number calls) → Due h (call ∷ calls) → Due ((h ++ others) ++ (who.number, call.0) ∷ []) calls
  due_next h others call calls are answered step due number begun = elim (before_call (h ++ others) call.0 number begun) [
    | inl old ↦ absurd (both_ways (ends number who.number (who.number, call.0)) old.1 (due number (before_others h others number are old.0)))
    | inr now ↦ step number (given_as_step call.0 call.1 now.0 number now.1 (ap given answered ∙ now.2))
  ]

  -- a new trigger has made none
  no_step_before : NumberLaw → given (reply.Unknown id) ≡ None → (h : History) (created : Entry) (number : ℕ) → created_trigger (reply_to who.made h created) ≡ Some id → StepBegun h number → ⊥
  no_step_before law none h created number creates (b, moment, step) =
      let unknown = law who.made b.before ((who.number, b.event) ∷ b.since) created who.number id moment (subst (λ (x : History). created_trigger (reply_to who.made x created) ≡ Some id) b.whole creates) in
      none-some number (sym none ∙ sym (ap given unknown) ∙ ap (λ (x : Event). given (reply_to who.made b.before (who.number, x))) (sym step) ∙ b.begun)

  not_created_by_step : {A : Type 0} (event : Event) (answer : Reply) (moment : ℕ) → event ≡ Advance id moment → new_trigger (event, answer) ≡ Some id → A
  not_created_by_step event answer moment is creates = absurd (none-some id (subst (λ (x : Event). new_trigger (x, answer) ≡ Some id) is creates))

  pub due_first : NumberLaw → given (reply.Unknown id) ≡ None → (h : History) (event : Event) (answer : Reply) (calls : List Called) → answer ≡ reply_to who.made h (who.number, event)
      → new_trigger (event, answer) ≡ Some id → created_trigger answer ≡ Some id → Due (h ++ (who.number, event) ∷ []) calls
  due_first law none h event answer calls answered new creates number begun = elim (before_call h event number begun) [
    | inl old ↦ absurd (no_step_before law none h (who.number, event) number (ap created_trigger (sym answered) ∙ creates) old.0)
    | inr now ↦ not_created_by_step event answer now.0 now.1 new
  ]

-- ---- all calls

-- the call is a step of this trigger that is answered so
pub is_step : (so : Reply → Bool) (id : ℕ) (event : Event) (answer : Reply) → steps_so so id (event, answer) ≡ true → (moment : ℕ) × (event ≡ Advance id moment) × (so answer ≡ true)
is_step so id (Advance other moment) answer is = let both = and_parts (other == id) (so answer) is in (moment, ap (λ (n : ℕ). Advance n moment) (eqb-true other id both.0), both.1)
is_step so id (Admit request moment) answer is = absurd (both_ways false refl is)
is_step so id (FetchEnd fetch outcome moment) answer is = absurd (both_ways false refl is)
is_step so id (Finish delivery status total entity moment) answer is = absurd (both_ways false refl is)
is_step so id (RefreshBegin moment) answer is = absurd (both_ways false refl is)
is_step so id (RefreshEnd refresh tree moment) answer is = absurd (both_ways false refl is)
is_step so id (Command spec moment) answer is = absurd (both_ways false refl is)
is_step so id (Cancel ids moment) answer is = absurd (both_ways false refl is)
is_step so id (Delete other) answer is = absurd (both_ways false refl is)
is_step so id (ReadStatus other) answer is = absurd (both_ways false refl is)
is_step so id (Lists filter) answer is = absurd (both_ways false refl is)
is_step so id (Cut moment) answer is = absurd (both_ways false refl is)
is_step so id (LogFile number) answer is = absurd (both_ways false refl is)
is_step so id ListLogs answer is = absurd (both_ways false refl is)
is_step so id (DropLog number) answer is = absurd (both_ways false refl is)

-- the answer to a command tells its trigger
new_created : (event : Event) (answer : Reply) (id : ℕ) → new_trigger (event, answer) ≡ Some id → created_trigger answer ≡ Some id
new_created (Command spec moment) answer id is = is
new_created (Advance other moment) answer id is = absurd (none-some id is)
new_created (Admit request moment) answer id is = absurd (none-some id is)
new_created (FetchEnd fetch outcome moment) answer id is = absurd (none-some id is)
new_created (Finish delivery status total entity moment) answer id is = absurd (none-some id is)
new_created (RefreshBegin moment) answer id is = absurd (none-some id is)
new_created (RefreshEnd refresh tree moment) answer id is = absurd (none-some id is)
new_created (Cancel ids moment) answer id is = absurd (none-some id is)
new_created (Delete other) answer id is = absurd (none-some id is)
new_created (ReadStatus other) answer id is = absurd (none-some id is)
new_created (Lists filter) answer id is = absurd (none-some id is)
new_created (Cut moment) answer id is = absurd (none-some id is)
new_created (LogFile number) answer id is = absurd (none-some id is)
new_created ListLogs answer id is = absurd (none-some id is)
new_created (DropLog number) answer id is = absurd (none-some id is)

open_number : (answer : Reply) → is_step_open answer ≡ true → (number : ℕ) × (answer ≡ reply.StepOpen number)
open_number (reply.StepOpen number) is = (number, refl)
open_number reply.Started is = absurd (both_ways false refl is)
open_number (reply.Skipped index) is = absurd (both_ways false refl is)
open_number (reply.Fetch fetch plan target) is = absurd (both_ways false refl is)
open_number (reply.Refresh refresh) is = absurd (both_ways false refl is)
open_number (reply.Final status) is = absurd (both_ways false refl is)
open_number (reply.Unknown number) is = absurd (both_ways false refl is)
open_number (reply.Full count) is = absurd (both_ways false refl is)
open_number (reply.Claimed pass) is = absurd (both_ways false refl is)
open_number (reply.Denied delivery rule) is = absurd (both_ways false refl is)
open_number (reply.Hit delivery fetch kind body) is = absurd (both_ways false refl is)
open_number (reply.Miss delivery fetch plan) is = absurd (both_ways false refl is)
open_number (reply.Ended kept) is = absurd (both_ways false refl is)
open_number (reply.NotOpen number) is = absurd (both_ways false refl is)
open_number (reply.Logged row) is = absurd (both_ways false refl is)
open_number (reply.Due refresh) is = absurd (both_ways false refl is)
open_number (reply.NotDue later) is = absurd (both_ways false refl is)
open_number (reply.Installed generation) is = absurd (both_ways false refl is)
open_number (reply.Stale trigger) is = absurd (both_ways false refl is)
open_number (reply.Older refresh) is = absurd (both_ways false refl is)
open_number reply.Failed is = absurd (both_ways false refl is)
open_number (reply.Created number) is = absurd (both_ways false refl is)
open_number (reply.Statuses list) is = absurd (both_ways false refl is)
open_number reply.Deleted is = absurd (both_ways false refl is)
open_number (reply.Resource job) is = absurd (both_ways false refl is)
open_number (reply.Collection filter ids) is = absurd (both_ways false refl is)
open_number (reply.File number) is = absurd (both_ways false refl is)
open_number reply.NothingToCut is = absurd (both_ways false refl is)
open_number (reply.LogText text) is = absurd (both_ways false refl is)
open_number (reply.Numbers list) is = absurd (both_ways false refl is)
open_number reply.Dropped is = absurd (both_ways false refl is)

abbrev pub OpenLaw : Type 0
OpenLaw = (made : Made) (h : History) (pass id moment number : ℕ) → reply_to made h (pass, Advance id moment) ≡ reply.StepOpen number → IsStepOpen made h number pass id

module _ (law : OpenLaw) (who : Who) (id : ℕ) where
  -- where what a step began is ended by the next call, a step does not find it open
  finds_none : (h others : History) (moment number : ℕ) (answer : Reply) (calls : List Called) → AreOthers who.number others → answer ≡ reply_to who.made (h ++ others) (who.number, Advance id moment) → answer ≡ reply.StepOpen number
      → Due begun_fetch ends_fetch who id h ((Advance id moment, answer) ∷ calls) → Due begun_refresh ends_refresh who id h ((Advance id moment, answer) ∷ calls) → ⊥
  finds_none h others moment number answer calls are answered is fetches refreshes = elim (law who.made (h ++ others) who.number id moment number (sym answered ∙ is)) [
    | inl begun ↦ both_ways false refl (fetches number (before_others begun_fetch ends_fetch who id h others number are begun))
    | inr begun ↦ both_ways false refl (refreshes number (before_others begun_refresh ends_refresh who id h others number are begun))
  ]

  step_finds_none : (h others : History) (event : Event) (answer : Reply) (calls : List Called) → AreOthers who.number others → answer ≡ reply_to who.made (h ++ others) (who.number, event)
      → Due begun_fetch ends_fetch who id h ((event, answer) ∷ calls) → Due begun_refresh ends_refresh who id h ((event, answer) ∷ calls) → steps_so is_step_open id (event, answer) ≡ true → ⊥
  step_finds_none h others event answer calls are answered fetches refreshes is =
      let step = is_step is_step_open id event answer is in
      let told = open_number answer step.2 in
      finds_none h others step.0 told.0 answer calls are (subst (λ (x : Event). answer ≡ reply_to who.made (h ++ others) (who.number, x)) step.1 answered) told.1
      (subst (λ (x : Event). Due begun_fetch ends_fetch who id h ((x, answer) ∷ calls)) step.1 fetches) (subst (λ (x : Event). Due begun_refresh ends_refresh who id h ((x, answer) ∷ calls)) step.1 refreshes)

  none_open : (h : History) (calls : List Called) (last : History) → Told who h calls last → AllStepsEnd who.number calls → Due begun_fetch ends_fetch who id h calls → Due begun_refresh ends_refresh who id h calls
      → list_any (steps_so is_step_open id) calls ≡ false
  none_open h [] last told ends fetches refreshes = refl
  none_open h (call ∷ calls) last (others, are, answered, told) ends fetches refreshes =
      or_from (steps_so is_step_open id call) (list_any (steps_so is_step_open id) calls) (false_from_ne_true (steps_so is_step_open id call) (step_finds_none h others call.0 call.1 calls are answered fetches refreshes))
      (none_open ((h ++ others) ++ (who.number, call.0) ∷ []) calls last told ends.1 (due_next begun_fetch ends_fetch who id h others call calls are answered ends.0.0 fetches)
      (due_next begun_refresh ends_refresh who id h others call calls are answered ends.0.1 refreshes))

pub no_step_open : OpenLaw → NumberLaw → (who : Who) (h : History) (calls : List Called) (last : History) → Told who h calls last → AllStepsEnd who.number calls → NoStepStaysOpen calls
no_step_open law numbers who h [] last told ends = tt
no_step_open law numbers who h (call ∷ calls) last (others, are, answered, told) ends = (
  λ id new. none_open law who id ((h ++ others) ++ (who.number, call.0) ∷ []) calls last told ends.1
      (due_first begun_fetch ends_fetch who id numbers refl (h ++ others) call.0 call.1 calls answered new (new_created call.0 call.1 id new))
      (due_first begun_refresh ends_refresh who id numbers refl (h ++ others) call.0 call.1 calls answered new (new_created call.0 call.1 id new)),
  no_step_open law numbers who ((h ++ others) ++ (who.number, call.0) ∷ []) calls last told ends.1,
)
