-- What is opened in a session is ended in it.
use Rattle.std.proofs.Common.{◌≡◌, ℕ, ◌+◌, ◌==◌, Bool, true, ◌&&◌, List, [], ◌∷◌, ◌++◌, refl, sym, ◌∙◌, subst, None, Some, inl, inr}
use Rattle.std.proofs.lemmas.Bool.{eq-eqb, and_from, or_left, or_right}
use Rattle.std.proofs.lemmas.List.Folds.{list_any-append}
use Rattle.std.proofs.lemmas.Option.{none-some, same_Some}
use Rattle.std.specs.declared.option.Option.{Option}
use Rattle.control_request.proofs.CallLemmas.{IsControlEvent, serves_have}
use Rattle.history.specs.After.{begun_fetch, begun_refresh}
use Rattle.history.specs.Event.{Entry, Event, Admit, FetchEnd, Finish, RefreshBegin, RefreshEnd, Command, Advance, Cancel, Delete, ReadStatus, Lists, Cut, LogFile, ListLogs, DropLog, Request}
use Rattle.history.specs.Laws.{ends_delivery, ends_fetch, ends_refresh}
use Rattle.history.specs.declared.reply.Reply.{Reply}
use Rattle.history.specs.declared.reply.Reply.TheVariants as reply
use Rattle.location_acl.specs.declared.footprint.Place.{Place}
use Rattle.metadata_objects.specs.Tree.{TreeData}
use Rattle.targets.specs.declared.endpoint.Endpoint.{Endpoint}
use Rattle.targets.specs.declared.target.Target.{Target}
use Rattle.upstream_gate.specs.declared.outcome.Outcome.{Outcome}
use Rattle.session_base.specs.Answer.{Answer}
use Rattle.content_request.specs.Course.{Course, NoRoom, Crowded, Full, Barred, Kept, Brought, Short, course_calls, finished}
use Rattle.session_base.specs.Doing.{Called, Doing, then}
use Rattle.session.specs.Ended.{AllEnded, EndsLater, IsEndedIn, opened_delivery, opened_fetch, opened_refresh}
use Rattle.session_base.specs.Moment.{capped}
use Rattle.content_request.specs.Refresh.{Refreshing, NoBegin, NotDue, Crowded as Thronged, Gathered, Ungathered, refresh_calls}
use Rattle.session.specs.Session.{Runs}
use Rattle.session.specs.Turn.{Turn}
use Rattle.session_base.specs.declared.ending.Ending.{Ending}
use Rattle.session_base.specs.declared.ending.Next.{Next}
use Rattle.session_base.specs.declared.ending.Next.TheVariants as next
use Rattle.session_base.specs.declared.settings.Settings.{Settings}

later_too : (ends : ℕ → ℕ → Entry → Bool) (number : ℕ) (calls more : List Called) → IsEndedIn ends number calls → IsEndedIn ends number (calls ++ more)
later_too ends number calls more is = list_any-append (λ call. ends number 0 (0, call.0)) calls more ∙ or_left _ _ is

-- calls after calls
all_then : (calls more : List Called) → AllEnded calls → AllEnded more → AllEnded (calls ++ more)
all_then [] more p q = q
all_then (call ∷ calls) more p q = (
  record {
    delivery = λ number opens. later_too ends_delivery number calls more (p.0.delivery number opens);
    fetch = λ number opens. later_too ends_fetch number calls more (p.0.fetch number opens);
    refresh = λ number opens. later_too ends_refresh number calls more (p.0.refresh number opens);
  },
  all_then calls more p.1 q,
)

-- a call that opens nothing
opens_none : (call : Called) (later : List Called) → opened_delivery call ≡ None → opened_fetch call ≡ None → opened_refresh call ≡ None → EndsLater call later
opens_none call later d f r = record {
  delivery = λ number opens. absurd (none-some _ (sym d ∙ opens));
  fetch = λ number opens. absurd (none-some _ (sym f ∙ opens));
  refresh = λ number opens. absurd (none-some _ (sym r ∙ opens));
}

same_number : (n m : ℕ) → Some n ≡ Some m → (n == m && 0 == 0) ≡ true
same_number n m e = and_from (n == m) true (eq-eqb n m (same_Some n m e)) refl

-- the delivery is finished at once
finished_next : (admit : Called) (delivery : ℕ) (answer : Answer) (taken at : ℕ) (line : Reply) → opened_delivery admit ≡ Some delivery → opened_fetch admit ≡ None → opened_refresh admit ≡ None
    → AllEnded (admit ∷ finished delivery answer taken at line ∷ [])
finished_next admit delivery answer taken at line opens f r = (
  record {
    delivery = λ number is. or_left _ _ (same_number delivery number (sym opens ∙ is));
    fetch = λ number is. absurd (none-some _ (sym f ∙ is));
    refresh = λ number is. absurd (none-some _ (sym r ∙ is));
  },
  (opens_none (finished delivery answer taken at line) [] refl refl refl, tt),
)

-- the fetch is ended, and then the delivery
ended_next : (event : Event) (admit : Called) (delivery fetch : ℕ) (answer : Answer) (taken at : ℕ) (line : Reply) (end : Called) → opened_delivery admit ≡ Some delivery → opened_fetch admit ≡ Some fetch → opened_refresh admit ≡ None
    → opened_delivery end ≡ None → opened_fetch end ≡ None → opened_refresh end ≡ None → ((number : ℕ) → ends_fetch number 0 (0, end.0) ≡ (fetch == number && 0 == 0)) → AllEnded (admit ∷ end ∷ finished delivery answer taken at line ∷ [])
ended_next event admit delivery fetch answer taken at line end d f r e1 e2 e3 ends = (
  record {
    delivery = λ number is. or_right _ _ (or_left _ _ (same_number delivery number (sym d ∙ is)));
    fetch = λ number is. or_left _ _ (ends number ∙ same_number fetch number (sym f ∙ is));
    refresh = λ number is. absurd (none-some _ (sym r ∙ is));
  },
  (opens_none end (finished delivery answer taken at line ∷ []) e1 e2 e3, (opens_none (finished delivery answer taken at line) [] refl refl refl, tt)),
)

refresh_ended : (moment : ℕ) (how : Refreshing) → AllEnded (refresh_calls moment how)
refresh_ended moment NoBegin = tt
refresh_ended moment (NotDue next) = (opens_none (RefreshBegin moment, reply.NotDue next) [] refl refl refl, tt)
refresh_ended moment (Thronged count) = (opens_none (RefreshBegin moment, reply.Full count) [] refl refl refl, tt)
refresh_ended moment (Gathered refresh made tree at line) = (
  record { delivery = λ number is. absurd (none-some _ is); fetch = λ number is. absurd (none-some _ is); refresh = λ number is. or_left _ _ (same_number refresh number is) },
  (opens_none (RefreshEnd refresh tree (capped at), line) [] refl refl refl, tt),
)
refresh_ended moment (Ungathered refresh made at line) = (
  record { delivery = λ number is. absurd (none-some _ is); fetch = λ number is. absurd (none-some _ is); refresh = λ number is. or_left _ _ (same_number refresh number is) },
  (opens_none (RefreshEnd refresh None (capped at), line) [] refl refl refl, tt),
)

course_ended : (request : Request) (moment : ℕ) (answer : Answer) (taken : ℕ) (course : Course) → AllEnded (course_calls (Admit request moment) answer taken course)
course_ended request moment answer taken NoRoom = tt
course_ended request moment answer taken (Crowded count) = tt
course_ended request moment answer taken (Full count) = (opens_none (Admit request moment, reply.Full count) [] refl refl refl, tt)
course_ended request moment answer taken (Barred delivery rule at line) = finished_next (Admit request moment, reply.Denied delivery rule) delivery answer taken at line refl refl refl
course_ended request moment answer taken (Kept delivery fetch kind body at line) = finished_next (Admit request moment, reply.Hit delivery fetch kind body) delivery answer taken at line refl refl refl
course_ended request moment answer taken (Brought delivery fetch plan made how ended closed at line) =
    ended_next (Admit request moment) (Admit request moment, reply.Miss delivery fetch plan) delivery fetch answer taken at line (FetchEnd fetch how (capped ended), closed) refl refl refl refl refl refl (λ number. refl)
course_ended request moment answer taken (Short delivery fetch plan made how ended closed at line) =
    ended_next (Admit request moment) (Admit request moment, reply.Miss delivery fetch plan) delivery fetch answer taken at line (FetchEnd fetch how (capped ended), closed) refl refl refl refl refl refl (λ number. refl)

-- a call of the upstream CDN's requests opens nothing
control_ended : (event : Event) (line : Reply) → IsControlEvent event → AllEnded ((event, line) ∷ [])
control_ended (Admit request moment) line is = absurd is
control_ended (FetchEnd fetch outcome moment) line is = absurd is
control_ended (Finish delivery status total entity moment) line is = absurd is
control_ended (RefreshBegin moment) line is = absurd is
control_ended (RefreshEnd refresh tree moment) line is = absurd is
control_ended (Command spec moment) line is = (opens_none (Command spec moment, line) [] refl refl refl, tt)
control_ended (Advance id moment) line is = absurd is
control_ended (Cancel ids moment) line is = (opens_none (Cancel ids moment, line) [] refl refl refl, tt)
control_ended (Delete id) line is = (opens_none (Delete id, line) [] refl refl refl, tt)
control_ended (ReadStatus id) line is = (opens_none (ReadStatus id, line) [] refl refl refl, tt)
control_ended (Lists filter) line is = (opens_none (Lists filter, line) [] refl refl refl, tt)
control_ended (Cut moment) line is = (opens_none (Cut moment, line) [] refl refl refl, tt)
control_ended (LogFile number) line is = (opens_none (LogFile number, line) [] refl refl refl, tt)
control_ended ListLogs line is = (opens_none (ListLogs, line) [] refl refl refl, tt)
control_ended (DropLog number) line is = (opens_none (DropLog number, line) [] refl refl refl, tt)

-- a step that begins nothing, and one with the end of what it begins
still_ended : (id at : ℕ) (line : Reply) → begun_fetch line ≡ None → begun_refresh line ≡ None → AllEnded ((Advance id at, line) ∷ [])
still_ended id at line f r = (opens_none (Advance id at, line) [] refl f r, tt)

fetched_ended : (id at fetch : ℕ) (plan : List Endpoint) (target : Target) (how : Outcome) (end : ℕ) (closed : Reply) → AllEnded ((Advance id at, reply.Fetch fetch plan target) ∷ (FetchEnd fetch how end, closed) ∷ [])
fetched_ended id at fetch plan target how end closed = (
  record { delivery = λ number is. absurd (none-some _ is); fetch = λ number is. or_left _ _ (same_number fetch number is); refresh = λ number is. absurd (none-some _ is) },
  (opens_none (FetchEnd fetch how end, closed) [] refl refl refl, tt),
)

gathered_ended : (id at refresh : ℕ) (tree : Option TreeData) (end : ℕ) (closed : Reply) → AllEnded ((Advance id at, reply.Refresh refresh) ∷ (RefreshEnd refresh tree end, closed) ∷ [])
gathered_ended id at refresh tree end closed = (
  record { delivery = λ number is. absurd (none-some _ is); fetch = λ number is. absurd (none-some _ is); refresh = λ number is. or_left _ _ (same_number refresh number is) },
  (opens_none (RefreshEnd refresh tree end, closed) [] refl refl refl, tt),
)

turn_ended : (settings : Settings) (place : Place) (last : Bool) (d : Doing) (after : Next) → Turn settings place last d after → AllEnded d.calls
turn_ended settings place last d after (inl (end, is, none)) = subst AllEnded (sym none.calls) tt
turn_ended settings place last d after (inr (inl refusal)) = subst AllEnded (sym refusal.only.calls) tt
turn_ended settings place last d after (inr (inr (inl broken))) = subst AllEnded (sym broken.only.calls) tt
turn_ended settings place last d after (inr (inr (inr served))) =
    subst (λ (x : Doing). AllEnded x.calls) (sym served.whole.is) (elim served.answers [
      | inl control ↦ serves_have AllEnded tt all_then control_ended still_ended fetched_ended gathered_ended settings served.asked served.whole.content _ served.inner after control.1
      | inr content ↦ let k = content.1 in
          subst AllEnded (sym k.calls) (all_then (refresh_calls _ k.how) (course_calls _ k.answer _ k.course) (refresh_ended _ k.how) (course_ended _ _ k.answer _ k.course))
    ])

pub runs_ended : (settings : Settings) (place : Place) (n : ℕ) (done : Doing) (turns : List Doing) (end : Ending) (all : Doing) → AllEnded done.calls → Runs settings place n done turns end all → AllEnded all.calls
unfolding Runs
runs_ended settings place n done [] end all ended runs = subst (λ (x : Doing). AllEnded x.calls) (sym runs.2) ended
runs_ended settings place n done (d ∷ ds) end all ended (within, next.GoesOn, turn, rest) =
    runs_ended settings place (n + 1) (then done d) ds end all (all_then done.calls d.calls ended (turn_ended settings place _ d next.GoesOn turn)) rest
runs_ended settings place n done (d ∷ ds) end all ended (within, next.Stops e, turn, (last, same, is)) =
    subst (λ (x : Doing). AllEnded x.calls) (sym is) (all_then done.calls d.calls ended (turn_ended settings place _ d (next.Stops e) turn))
