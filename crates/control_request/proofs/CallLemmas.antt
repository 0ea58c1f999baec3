-- Which calls are made in a request of the upstream CDN.
use Rattle.std.proofs.Common.{◌≡◌, ℕ, Bool, arith, false, List, [], ◌∷◌, ◌++◌, refl, sym, subst, None, Some, Option, inl, inr}
use Rattle.std.proofs.lemmas.Option.{none-some, same_Some}
use Rattle.cdni_base.specs.declared.asked.Asked.{Asked}
use Rattle.control_table.specs.declared.ask.ControlAsk.{ControlAsk}
use Rattle.control_table.specs.declared.ask.ControlAsk.TheVariants as ask
use Rattle.history.specs.After.{begun_fetch, begun_refresh}
use Rattle.history.specs.Event.{Event, Admit, FetchEnd, Finish, RefreshBegin, RefreshEnd, Command, Advance, Cancel, Delete, ReadStatus, Lists, Cut, LogFile, ListLogs, DropLog}
use Rattle.history.specs.declared.reply.Reply.{Reply}
use Rattle.history.specs.declared.reply.Reply.TheVariants as reply
use Rattle.metadata_objects.specs.Tree.{TreeData}
use Rattle.session_base.specs.Doing.{Called as OneCall, Doing, nothing, then}
use Rattle.session_base.specs.GateFaults.{CountsFaults, ends_failed}
use Rattle.session_base.specs.Moment.{capped}
use Rattle.session_base.specs.declared.ending.Next.{Next}
use Rattle.session_base.specs.declared.manner.Manner.{Manner}
use Rattle.session_base.specs.declared.settings.Settings.{Settings}
use Rattle.targets.specs.declared.endpoint.Endpoint.{Endpoint}
use Rattle.targets.specs.declared.target.Target.{Target}
use Rattle.trigger_command.specs.declared.command.Act.{Act}
use Rattle.trigger_command.specs.declared.command.Act.TheVariants as act
use Rattle.upstream_gate.specs.declared.outcome.Outcome.{Outcome}
use Rattle.session_base.proofs.GateFaultLemmas.{counts_as, counts_none, counts_other}
use Rattle.control_request.specs.Advance.{AdvanceStep, Behind, Steps, advanced}
use Rattle.control_request.specs.Control.{Course, NoRoom, Uncalled, Replied, Controls, Acts, Commands, Serves, IsActed, IsRead, IsRefused, course_calls, event_at}
use Rattle.control_request.specs.declared.advance.Step.{Step}
use Rattle.control_request.specs.declared.advance.Step.TheVariants as step

-- the one call of a request
abbrev pub IsControlEvent : Event → Type 0
IsControlEvent (Admit request moment) = ⊥
IsControlEvent (FetchEnd fetch outcome moment) = ⊥
IsControlEvent (Finish delivery status total entity moment) = ⊥
IsControlEvent (RefreshBegin moment) = ⊥
IsControlEvent (RefreshEnd refresh tree moment) = ⊥
IsControlEvent (Command spec moment) = Unit {0}
IsControlEvent (Advance id moment) = ⊥
IsControlEvent (Cancel ids moment) = Unit {0}
IsControlEvent (Delete id) = Unit {0}
IsControlEvent (ReadStatus id) = Unit {0}
IsControlEvent (Lists filter) = Unit {0}
IsControlEvent (Cut moment) = Unit {0}
IsControlEvent (LogFile number) = Unit {0}
IsControlEvent ListLogs = Unit {0}
IsControlEvent (DropLog number) = Unit {0}

pub event_read : (which : ControlAsk) (moment : ℕ) (event : Event) → event_at which moment ≡ Some event → IsControlEvent event
event_read ask.Absent moment event is = absurd (none-some _ is)
event_read ask.WrongMethod moment event is = absurd (none-some _ is)
event_read ask.Command moment event is = absurd (none-some _ is)
event_read (ask.List filter) moment event is = subst IsControlEvent (same_Some _ _ is) tt
event_read (ask.Status id) moment event is = subst IsControlEvent (same_Some _ _ is) tt
event_read (ask.Delete id) moment event is = subst IsControlEvent (same_Some _ _ is) tt
event_read ask.Advertise moment event is = absurd (none-some _ is)
event_read ask.Cut moment event is = subst IsControlEvent (same_Some _ _ is) tt
event_read ask.ListLogs moment event is = subst IsControlEvent (same_Some _ _ is) tt
event_read (ask.ReadLog number) moment event is = subst IsControlEvent (same_Some _ _ is) tt
event_read (ask.DropLog number) moment event is = subst IsControlEvent (same_Some _ _ is) tt

pub event_acted : (given : Act) (moment : ℕ) (event : Event) (line : Reply) (short : Bool) → IsActed given moment (Replied event line short) → IsControlEvent event
event_acted (act.Cancel ids) moment event line short is = subst IsControlEvent (sym is) tt
event_acted (act.Trigger spec) moment event line short (is, count, full) = subst IsControlEvent (sym is) tt

-- it ends no fetch
ends_none : (event : Event) → IsControlEvent event → ends_failed event ≡ false
ends_none (Admit request moment) is = refl
ends_none (FetchEnd fetch outcome moment) is = absurd is
ends_none (Finish delivery status total entity moment) is = refl
ends_none (RefreshBegin moment) is = refl
ends_none (RefreshEnd refresh tree moment) is = refl
ends_none (Command spec moment) is = refl
ends_none (Advance id moment) is = refl
ends_none (Cancel ids moment) is = refl
ends_none (Delete id) is = refl
ends_none (ReadStatus id) is = refl
ends_none (Lists filter) is = refl
ends_none (Cut moment) is = refl
ends_none (LogFile number) is = refl
ends_none ListLogs is = refl
ends_none (DropLog number) is = refl

course_counts : (IsRight : Course → Type 0) → ((event : Event) (line : Reply) (short : Bool) → IsRight (Replied event line short) → IsControlEvent event) → (f : ℕ) (course : Course) → IsRight course → CountsFaults f f (course_calls course)
course_counts IsRight sound f NoRoom right = counts_none f
course_counts IsRight sound f (Uncalled given) right = counts_none f
course_counts IsRight sound f (Replied event line short) right = counts_other f f (event, line) (omega arith) (ends_none event (sound event line short right))

-- a request of one call at most, in which no gate is asked
pub controls_count : (IsRight : Course → Type 0) → ((event : Event) (line : Reply) (short : Bool) → IsRight (Replied event line short) → IsControlEvent event) → (settings : Settings) (manner : Manner) (f : ℕ) (d : Doing) (after : Next) → Controls IsRight settings manner d after
    → CountsFaults f f d.calls
controls_count IsRight sound settings manner f d after c = counts_as f f (course_calls c.course) d.calls c.calls (course_counts IsRight sound f c.course c.right)

-- what holds of no call, of calls after calls, of the one call of a request, of a step that begins nothing, and of one with the end of what it begins, holds of all calls of a request
module _ (P : List OneCall → Type 0) (none : P []) (both : (calls more : List OneCall) → P calls → P more → P (calls ++ more))
    (one : (event : Event) (line : Reply) → IsControlEvent event → P ((event, line) ∷ []))
    (still : (id at : ℕ) (line : Reply) → begun_fetch line ≡ None → begun_refresh line ≡ None → P ((Advance id at, line) ∷ []))
    (fetched : (id at fetch : ℕ) (plan : List Endpoint) (target : Target) (how : Outcome) (end : ℕ) (closed : Reply) → P ((Advance id at, reply.Fetch fetch plan target) ∷ (FetchEnd fetch how end, closed) ∷ []))
    (gathered : (id at refresh : ℕ) (tree : Option TreeData) (end : ℕ) (closed : Reply) → P ((Advance id at, reply.Refresh refresh) ∷ (RefreshEnd refresh tree end, closed) ∷ [])) where
  alone : (id at : ℕ) (line : Reply) (behind : Doing) → begun_fetch line ≡ None → begun_refresh line ≡ None → behind ≡ nothing → P (advanced id at line ∷ behind.calls)
  alone id at line behind f r is = subst (λ (x : Doing). P (advanced id at line ∷ x.calls)) (sym is) (still id (capped at) line f r)

  behind_has : (root : Target) (id at : ℕ) (line : Reply) (behind : Doing) (after : Step) → Behind root line behind after → P (advanced id at line ∷ behind.calls)
  behind_has root id at reply.Started behind after b = alone id at reply.Started behind refl refl b.0
  behind_has root id at (reply.Skipped index) behind after b = alone id at (reply.Skipped index) behind refl refl b.0
  behind_has root id at (reply.Fetch fetch plan target) behind after b =
      subst (λ (x : Doing). P (advanced id at (reply.Fetch fetch plan target) ∷ x.calls)) (sym b.is) (fetched id (capped at) fetch plan target b.how (capped b.ended) b.line)
  behind_has root id at (reply.Refresh refresh) behind after b =
      subst (λ (x : Doing). P (advanced id at (reply.Refresh refresh) ∷ x.calls)) (sym b.is) (gathered id (capped at) refresh b.tree (capped b.ended) b.line)
  behind_has root id at (reply.Final status) behind after b = alone id at (reply.Final status) behind refl refl b.0
  behind_has root id at (reply.Unknown number) behind after b = alone id at (reply.Unknown number) behind refl refl b.0
  behind_has root id at (reply.Full count) behind after b = alone id at (reply.Full count) behind refl refl b.0
  behind_has root id at (reply.Claimed pass) behind after b = alone id at (reply.Claimed pass) behind refl refl b.0
  behind_has root id at (reply.StepOpen number) behind after b = alone id at (reply.StepOpen number) behind refl refl b.0
  behind_has root id at (reply.Denied delivery rule) behind after b = absurd b
  behind_has root id at (reply.Hit delivery fetch kind body) behind after b = absurd b
  behind_has root id at (reply.Miss delivery fetch plan) behind after b = absurd b
  behind_has root id at (reply.Ended kept) behind after b = absurd b
  behind_has root id at (reply.NotOpen number) behind after b = absurd b
  behind_has root id at (reply.Logged row) behind after b = absurd b
  behind_has root id at (reply.Due refresh) behind after b = absurd b
  behind_has root id at (reply.NotDue next) behind after b = absurd b
  behind_has root id at (reply.Installed generation) behind after b = absurd b
  behind_has root id at (reply.Stale trigger) behind after b = absurd b
  behind_has root id at (reply.Older refresh) behind after b = absurd b
  behind_has root id at reply.Failed behind after b = absurd b
  behind_has root id at (reply.Created number) behind after b = absurd b
  behind_has root id at (reply.Statuses list) behind after b = absurd b
  behind_has root id at reply.Deleted behind after b = absurd b
  behind_has root id at (reply.Resource job) behind after b = absurd b
  behind_has root id at (reply.Collection filter ids) behind after b = absurd b
  behind_has root id at (reply.File number) behind after b = absurd b
  behind_has root id at reply.NothingToCut behind after b = absurd b
  behind_has root id at (reply.LogText text) behind after b = absurd b
  behind_has root id at (reply.Numbers list) behind after b = absurd b
  behind_has root id at reply.Dropped behind after b = absurd b

  step_has : (root : Target) (id : ℕ) (d : Doing) (after : Step) → AdvanceStep root id d after → P d.calls
  step_has root id d after (inl lacks) = subst (λ (x : Doing). P x.calls) (sym lacks.is) none
  step_has root id d after (inr moves) = subst (λ (x : Doing). P x.calls) (sym moves.is) (behind_has root id moves.at moves.answer moves.behind after moves.follows)

  steps_have : (root : Target) (id : ℕ) (done : Doing) (ds : List Doing) (last : Step) (all : Doing) → P done.calls → Steps root id done ds last all → P all.calls
  unfolding Steps
  steps_have root id done [] last all has steps = absurd steps
  steps_have root id done (d ∷ ds) last all has (step.Goes, made, rest) = steps_have root id (then done d) ds last all (both done.calls d.calls has (step_has root id d step.Goes made)) rest
  steps_have root id done (d ∷ ds) last all has (step.Rests, made, (over, same, is)) = subst (λ (x : Doing). P x.calls) (sym is) (both done.calls d.calls has (step_has root id d step.Rests made))
  steps_have root id done (d ∷ ds) last all has (step.Memory, made, (over, same, is)) = subst (λ (x : Doing). P x.calls) (sym is) (both done.calls d.calls has (step_has root id d step.Memory made))

  course_has : (IsRight : Course → Type 0) → ((event : Event) (line : Reply) (short : Bool) → IsRight (Replied event line short) → IsControlEvent event) → (course : Course) → IsRight course → P (course_calls course)
  course_has IsRight sound NoRoom right = none
  course_has IsRight sound (Uncalled given) right = none
  course_has IsRight sound (Replied event line short) right = one event line (sound event line short right)

  controls_have : (IsRight : Course → Type 0) → ((event : Event) (line : Reply) (short : Bool) → IsRight (Replied event line short) → IsControlEvent event) → (settings : Settings) (manner : Manner) (d : Doing) (after : Next) → Controls IsRight settings manner d after → P d.calls
  controls_have IsRight sound settings manner d after c = subst P (sym c.calls) (course_has IsRight sound c.course c.right)

  acts_have : (settings : Settings) (given : Act) (manner : Manner) (d : Doing) (after : Next) → Acts settings given manner d after → P d.calls
  acts_have settings given manner d after (inl c) = controls_have (IsActed given manner.moment) (λ event line short is. event_acted given manner.moment event line short is) settings manner d after c
  acts_have settings (act.Trigger spec) manner d after (inr t) =
      subst P (sym t.calls) (both ((Command spec manner.moment, reply.Created t.id) ∷ []) t.steps.calls (one (Command spec manner.moment) (reply.Created t.id) tt)
      (steps_have settings.root t.id nothing t.advances.0 t.last t.steps none t.advances.1))
  acts_have settings (act.Cancel ids) manner d after (inr t) = absurd t

  commands_have : (settings : Settings) (body : List ℕ) (manner : Manner) (d : Doing) (after : Next) → Commands settings body manner d after → P d.calls
  commands_have settings body manner d after (inl c) = controls_have (IsRefused settings body) (λ event line short is. absurd is) settings manner d after c
  commands_have settings body manner d after (inr (command, is, acts)) = acts_have settings command.act manner d after acts

  pub serves_have : (settings : Settings) (asked : Asked) (body : List ℕ) (manner : Manner) (d : Doing) (after : Next) → Serves settings asked body manner d after → P d.calls
  serves_have settings asked body manner d after (which, asks, (inl (is, commands))) = commands_have settings body manner d after commands
  serves_have settings asked body manner d after (which, asks, (inr (other, c))) =
      controls_have (IsRead settings which manner.moment) (λ event line short is. event_read which manner.moment event is) settings manner d after c
