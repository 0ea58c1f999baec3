-- What a history records of the deliveries of a session.
use Rattle.std.proofs.Common.{◌≡◌, ℕ, ◌+◌, ◌==◌, Bool, true, false, not, List, [], ◌∷◌, ◌++◌, length, refl, sym, ◌∙◌, ap, subst, append_assoc, append-nil, Some, IsTrue, ◌↔◌, inl, inr}
use Rattle.std.specs.List.{list_any}
use Rattle.delivery_law.specs.LogRows.{HasRow}
use Rattle.history.specs.After.{begun_delivery}
use Rattle.history.specs.Event.{Entry, Event, History, Admit, FetchEnd, Finish, RefreshBegin, RefreshEnd, Command, Advance, Cancel, Delete, ReadStatus, Lists, Cut, LogFile, ListLogs, DropLog, Request}
use Rattle.history.specs.History.{AnsweredAt, reply_to, world_of}
use Rattle.history.specs.Laws.{HasBegun, IsOpen, ends_delivery}
use Rattle.history.specs.Reply.{finish_reply, reply_in}
use Rattle.history.specs.World.{Made, World, is_open}
use Rattle.history.specs.declared.reply.Reply.{Reply}
use Rattle.history.specs.declared.reply.Reply.TheVariants as reply
use Rattle.location_acl.specs.declared.footprint.Place.{Place}
use Rattle.node_core.specs.Home.{AreOthers, Who}
use Rattle.session_base.specs.Answer.{Answer}
use Rattle.content_request.specs.Course.{Course, NoRoom, Crowded, Full, Barred, Kept, Brought, Short, course_calls, finished}
use Rattle.session_base.specs.Doing.{Called, Doing, then, Told}
use Rattle.session_base.specs.Moment.{capped}
use Rattle.session.specs.Recorded.{AllRecorded, IsRecorded}
use Rattle.content_request.specs.Refresh.{Refreshing, NoBegin, NotDue, Crowded as Thronged, Gathered, Ungathered, refresh_calls}
use Rattle.session.specs.Session.{Runs}
use Rattle.session.specs.Turn.{Turn}
use Rattle.session_base.specs.declared.ending.Ending.{Ending}
use Rattle.session_base.specs.declared.ending.Next.{Next}
use Rattle.session_base.specs.declared.ending.Next.TheVariants as next
use Rattle.session_base.specs.declared.settings.Settings.{Settings}
use Rattle.control_request.proofs.CallLemmas.{IsControlEvent, serves_have}
use Rattle.session_base.proofs.DoingLemmas.{told_none}
use Rattle.session_base.proofs.OpenLemmas.{Spares, is_opened, own_delivery, stays_open}

-- ---- calls one after the other

-- calls that were made one after the other, up to a history and from there on
abbrev pub Parts : Who → History → List Called → List Called → History → Type 0
Parts who h calls more last = (middle : History) × Told who h calls middle × Told who middle more last

one_before : (who : Who) (h : History) (call : Called) (calls more : List Called) (last others : History) → AreOthers who.number others → call.1 ≡ reply_to who.made (h ++ others) (who.number, call.0)
    → Parts who ((h ++ others) ++ (who.number, call.0) ∷ []) calls more last → Parts who h (call ∷ calls) more last
one_before who h call calls more last others are answer (middle, first, second) = (middle, (others, are, answer, first), second)

told_split : (who : Who) (h : History) (calls more : List Called) (last : History) → Told who h (calls ++ more) last → Parts who h calls more last
told_split who h [] more last told = (h, told_none who h, told)
told_split who h (call ∷ calls) more last (others, are, answer, told) =
    one_before who h call calls more last others are answer (told_split who ((h ++ others) ++ (who.number, call.0) ∷ []) calls more last told)

pub told_longer : (who : Who) (h : History) (calls : List Called) (last : History) → Told who h calls last → (more : History) × (last ≡ h ++ more)
told_longer who h [] last (others, are, is) = (others, is)
told_longer who h (call ∷ calls) last (others, are, answer, told) =
    let r = told_longer who ((h ++ others) ++ (who.number, call.0) ∷ []) calls last told in
    (others ++ ((who.number, call.0) ∷ [] ++ r.0), r.1 ∙ append_assoc (h ++ others) ((who.number, call.0) ∷ []) r.0 ∙ append_assoc h others ((who.number, call.0) ∷ [] ++ r.0))

answered_longer : (made : Made) (middle last more : History) (at : ℕ) (entry : Entry) (answer : Reply) → last ≡ middle ++ more → AnsweredAt made middle at entry answer → AnsweredAt made last at entry answer
answered_longer made middle last more at entry answer longer a = record {
  before = a.before;
  since = a.since ++ more;
  whole = longer ∙ ap (λ (h : History). h ++ more) a.whole ∙ append_assoc a.before (entry ∷ a.since) more;
  place = a.place;
  answered = a.answered;
}

-- ---- ends of deliveries

-- the end was answered at its place, and logged
abbrev pub IsLogged : Who → History → Called → Type 0
IsLogged who h (Finish delivery status total entity moment, answer) = (number : ℕ) × (at : ℕ) × (answer ≡ reply.Logged number) × AnsweredAt who.made h at (who.number, Finish delivery status total entity moment) (reply.Logged number)
IsLogged who h call = Unit {0}

abbrev pub AllLogged : Who → History → List Called → Type 0
AllLogged who h [] = Unit {0}
AllLogged who h (call ∷ calls) = IsLogged who h call × AllLogged who h calls

-- these calls, wherever they are made, log the ends of deliveries among them
abbrev pub Logs : Who → List Called → Type 0
Logs who calls = (h last : History) → Told who h calls last → AllLogged who last calls

one_longer : (who : Who) (middle last more : History) (call : Called) → last ≡ middle ++ more → IsLogged who middle call → IsLogged who last call
one_longer who middle last more (Finish delivery status total entity moment, answer) longer (number, at, is, a) =
    (number, at, is, answered_longer who.made middle last more at (who.number, Finish delivery status total entity moment) (reply.Logged number) longer a)
one_longer who middle last more (Admit request moment, answer) longer logged = tt
one_longer who middle last more (FetchEnd fetch outcome moment, answer) longer logged = tt
one_longer who middle last more (RefreshBegin moment, answer) longer logged = tt
one_longer who middle last more (RefreshEnd refresh tree moment, answer) longer logged = tt
one_longer who middle last more (Command spec moment, answer) longer logged = tt
one_longer who middle last more (Advance id moment, answer) longer logged = tt
one_longer who middle last more (Cancel ids moment, answer) longer logged = tt
one_longer who middle last more (Delete id, answer) longer logged = tt
one_longer who middle last more (ReadStatus id, answer) longer logged = tt
one_longer who middle last more (Lists filter, answer) longer logged = tt
one_longer who middle last more (Cut moment, answer) longer logged = tt
one_longer who middle last more (LogFile number, answer) longer logged = tt
one_longer who middle last more (ListLogs, answer) longer logged = tt
one_longer who middle last more (DropLog number, answer) longer logged = tt

all_longer : (who : Who) (middle last more : History) (calls : List Called) → last ≡ middle ++ more → AllLogged who middle calls → AllLogged who last calls
all_longer who middle last more [] longer logged = tt
all_longer who middle last more (call ∷ calls) longer logged = (one_longer who middle last more call longer logged.0, all_longer who middle last more calls longer logged.1)

all_both : (who : Who) (last : History) (calls more : List Called) → AllLogged who last calls → AllLogged who last more → AllLogged who last (calls ++ more)
all_both who last [] more p q = q
all_both who last (call ∷ calls) more p q = (p.0, all_both who last calls more p.1 q)

logs_parts : (who : Who) (calls more : List Called) → Logs who calls → Logs who more → (h last : History) → Parts who h calls more last → AllLogged who last (calls ++ more)
logs_parts who calls more first second h last (middle, before, behind) =
    let longer = told_longer who middle more last behind in
    all_both who last calls more (all_longer who middle last longer.0 calls longer.1 (first h middle before)) (second middle last behind)

logs_then : (who : Who) (calls more : List Called) → Logs who calls → Logs who more → Logs who (calls ++ more)
logs_then who calls more first second h last told = logs_parts who calls more first second h last (told_split who h calls more last told)

-- what is open has begun, and the other way
abbrev pub OpenLaw : Type 0
OpenLaw = (made : Made) (h : History) (number pass : ℕ) → IsOpen number pass (world_of made h).delivering.deliveries ↔ HasBegun made begun_delivery ends_delivery h number pass

finish_answer : (made : Made) (h : History) (pass delivery status total entity moment : ℕ) → IsOpen delivery pass (world_of made h).delivering.deliveries
    → reply_to made h (pass, Finish delivery status total entity moment) ≡ reply.Logged ((world_of made h).counts.logged + 1)
unfolding reply_in
finish_answer made h pass delivery status total entity moment is = ap (finish_reply (world_of made h) delivery) is

module _ (law : OpenLaw) (who : Who) where
  -- an open delivery is logged where it ends
  open_logged : (h last : History) (delivery status total entity moment : ℕ) (answer : Reply) → HasBegun who.made begun_delivery ends_delivery h delivery who.number
      → Told who h ((Finish delivery status total entity moment, answer) ∷ []) last → IsLogged who last (Finish delivery status total entity moment, answer)
  open_logged h last delivery status total entity moment answer begun (others, are, given, (more, are_more, is)) =
      let before : History = h ++ others in
      let end : Event = Finish delivery status total entity moment in
      let still = stays_open begun_delivery ends_delivery own_delivery who delivery [] h before refl begun (others, are, refl) in
      let logged = finish_answer who.made before who.number delivery status total entity moment ((law who.made before delivery who.number).1 still) in (
        (world_of who.made before).counts.logged + 1,
        length before + 1,
        given ∙ logged,
        record {
          before = before;
          since = more;
          whole = is ∙ append_assoc before ((who.number, end) ∷ []) more;
          place = refl;
          answered = logged;
        },
      )

  behind_logged : (h last : History) (between : List Called) (delivery status total entity moment : ℕ) (answer : Reply) → HasBegun who.made begun_delivery ends_delivery h delivery who.number → Spares ends_delivery who delivery between
      → Parts who h between ((Finish delivery status total entity moment, answer) ∷ []) last → IsLogged who last (Finish delivery status total entity moment, answer)
  behind_logged h last between delivery status total entity moment answer begun spares (middle, first, second) =
      open_logged middle last delivery status total entity moment answer (stays_open begun_delivery ends_delivery own_delivery who delivery between h middle spares begun first) second

  -- the delivery that a call has opened is logged where it ends, over calls that do not end it
  end_logged : (h last : History) (admit : Called) (between : List Called) (delivery status total entity moment : ℕ) (answer : Reply) → begun_delivery admit.1 ≡ Some delivery → Spares ends_delivery who delivery between
      → Told who h (admit ∷ (between ++ (Finish delivery status total entity moment, answer) ∷ [])) last → IsLogged who last (Finish delivery status total entity moment, answer)
  end_logged h last admit between delivery status total entity moment answer opens spares (others, are, given, told) =
      let opened : History = (h ++ others) ++ (who.number, admit.0) ∷ [] in
      let begun = is_opened begun_delivery ends_delivery own_delivery who delivery admit h opened opens (others, are, given, told_none who opened) in
      behind_logged opened last between delivery status total entity moment answer begun spares
      (told_split who opened between ((Finish delivery status total entity moment, answer) ∷ []) last told)

  refresh_logs : (moment : ℕ) (how : Refreshing) → Logs who (refresh_calls moment how)
  refresh_logs moment NoBegin h last told = tt
  refresh_logs moment (NotDue next) h last told = (tt, tt)
  refresh_logs moment (Thronged count) h last told = (tt, tt)
  refresh_logs moment (Gathered refresh made tree at line) h last told = (tt, (tt, tt))
  refresh_logs moment (Ungathered refresh made at line) h last told = (tt, (tt, tt))

  course_logs : (request : Request) (moment : ℕ) (answer : Answer) (taken : ℕ) (course : Course) → Logs who (course_calls (Admit request moment) answer taken course)
  course_logs request moment answer taken NoRoom h last told = tt
  course_logs request moment answer taken (Crowded count) h last told = tt
  course_logs request moment answer taken (Full count) h last told = (tt, tt)
  course_logs request moment answer taken (Barred delivery rule at line) h last told =
      (tt, (end_logged h last (Admit request moment, reply.Denied delivery rule) [] delivery _ _ _ _ line refl refl told, tt))
  course_logs request moment answer taken (Kept delivery fetch kind body at line) h last told =
      (tt, (end_logged h last (Admit request moment, reply.Hit delivery fetch kind body) [] delivery _ _ _ _ line refl refl told, tt))
  course_logs request moment answer taken (Brought delivery fetch plan made how ended closed at line) h last told =
      (tt, (tt, (end_logged h last (Admit request moment, reply.Miss delivery fetch plan) ((FetchEnd fetch how (capped ended), closed) ∷ []) delivery _ _ _ _ line refl refl told, tt)))
  course_logs request moment answer taken (Short delivery fetch plan made how ended closed at line) h last told =
      (tt, (tt, (end_logged h last (Admit request moment, reply.Miss delivery fetch plan) ((FetchEnd fetch how (capped ended), closed) ∷ []) delivery _ _ _ _ line refl refl told, tt)))

  -- the calls of the upstream CDN's requests end no delivery
  control_logs : (event : Event) (line : Reply) → IsControlEvent event → Logs who ((event, line) ∷ [])
  control_logs (Admit request moment) line is h last told = absurd is
  control_logs (FetchEnd fetch outcome moment) line is h last told = absurd is
  control_logs (Finish delivery status total entity moment) line is h last told = absurd is
  control_logs (RefreshBegin moment) line is h last told = absurd is
  control_logs (RefreshEnd refresh tree moment) line is h last told = absurd is
  control_logs (Command spec moment) line is h last told = (tt, tt)
  control_logs (Advance id moment) line is h last told = absurd is
  control_logs (Cancel ids moment) line is h last told = (tt, tt)
  control_logs (Delete id) line is h last told = (tt, tt)
  control_logs (ReadStatus id) line is h last told = (tt, tt)
  control_logs (Lists filter) line is h last told = (tt, tt)
  control_logs (Cut moment) line is h last told = (tt, tt)
  control_logs (LogFile number) line is h last told = (tt, tt)
  control_logs ListLogs line is h last told = (tt, tt)
  control_logs (DropLog number) line is h last told = (tt, tt)

  none_logs : Logs who []
  none_logs h last told = tt

  turn_logs : (settings : Settings) (place : Place) (last : Bool) (d : Doing) (after : Next) → Turn settings place last d after → Logs who d.calls
  turn_logs settings place last d after (inl (end, is, none)) = subst (Logs who) (sym none.calls) none_logs
  turn_logs settings place last d after (inr (inl refusal)) = subst (Logs who) (sym refusal.only.calls) none_logs
  turn_logs settings place last d after (inr (inr (inl broken))) = subst (Logs who) (sym broken.only.calls) none_logs
  turn_logs settings place last d after (inr (inr (inr served))) =
      subst (λ (x : Doing). Logs who x.calls) (sym served.whole.is) (elim served.answers [
        | inl control ↦ serves_have (Logs who) none_logs (logs_then who) control_logs (λ id at line f r h x told. (tt, tt)) (λ id at fetch plan target how end closed h x told. (tt, (tt, tt)))
            (λ id at refresh tree end closed h x told. (tt, (tt, tt))) settings served.asked served.whole.content _ served.inner after control.1
        | inr content ↦ let k = content.1 in
            subst (Logs who) (sym k.calls) (logs_then who (refresh_calls _ k.how) (course_calls _ k.answer _ k.course) (refresh_logs _ k.how) (course_logs _ _ k.answer _ k.course))
      ])

  pub runs_logs : (settings : Settings) (place : Place) (n : ℕ) (done : Doing) (turns : List Doing) (end : Ending) (all : Doing) → Logs who done.calls → Runs settings place n done turns end all → Logs who all.calls
  unfolding Runs
  runs_logs settings place n done [] end all logs runs = subst (λ (x : Doing). Logs who x.calls) (sym runs.2) logs
  runs_logs settings place n done (d ∷ ds) end all logs (within, next.GoesOn, turn, rest) =
      runs_logs settings place (n + 1) (then done d) ds end all (logs_then who done.calls d.calls logs (turn_logs settings place _ d next.GoesOn turn)) rest
  runs_logs settings place n done (d ∷ ds) end all logs (within, next.Stops e, turn, (last, same, is)) =
      subst (λ (x : Doing). Logs who x.calls) (sym is) (logs_then who done.calls d.calls logs (turn_logs settings place _ d (next.Stops e) turn))

-- ---- their rows

abbrev pub RowLaw : Type 0
RowLaw = (made : Made) (h : History) (number at pass delivery status total entity end : ℕ) → AnsweredAt made h at (pass, Finish delivery status total entity end) (reply.Logged number)
    → HasRow (world_of made h).delivering.rows number at delivery status total entity end

one_recorded : RowLaw → (who : Who) (h : History) (call : Called) → IsLogged who h call → IsRecorded who.made h call
one_recorded law who h (Finish delivery status total entity moment, answer) (number, at, is, a) = (number, at, is, law who.made h number at who.number delivery status total entity moment a)
one_recorded law who h (Admit request moment, answer) logged = tt
one_recorded law who h (FetchEnd fetch outcome moment, answer) logged = tt
one_recorded law who h (RefreshBegin moment, answer) logged = tt
one_recorded law who h (RefreshEnd refresh tree moment, answer) logged = tt
one_recorded law who h (Command spec moment, answer) logged = tt
one_recorded law who h (Advance id moment, answer) logged = tt
one_recorded law who h (Cancel ids moment, answer) logged = tt
one_recorded law who h (Delete id, answer) logged = tt
one_recorded law who h (ReadStatus id, answer) logged = tt
one_recorded law who h (Lists filter, answer) logged = tt
one_recorded law who h (Cut moment, answer) logged = tt
one_recorded law who h (LogFile number, answer) logged = tt
one_recorded law who h (ListLogs, answer) logged = tt
one_recorded law who h (DropLog number, answer) logged = tt

pub all_recorded : RowLaw → (who : Who) (h : History) (calls : List Called) → AllLogged who h calls → AllRecorded who.made h calls
all_recorded law who h [] logged = tt
all_recorded law who h (call ∷ calls) logged = (one_recorded law who h call logged.0, all_recorded law who h calls logged.1)
