-- A trigger that has its last status keeps it.
use Rattle.std.proofs.Common.{◌≡◌, ◌⊎◌, ℕ, ◌==◌, Bool, true, false, not, cond, nat_lt, List, [], ◌∷◌, ◌++◌, map, refl, sym, ap, ◌∙◌, subst, append_assoc, append-nil, inl, inr, None, Some, Option}
use Rattle.std.specs.List.{filter, list_any, slice_get}
use Rattle.std.proofs.lemmas.Bool.{both_ways, cases_Bool, eq-eqb, eqb-true, or_left, or_right}
use Rattle.std.proofs.lemmas.Option.{none-some, same_Some}
use Rattle.metadata_objects.specs.Tree.{TreeData}
use Rattle.upstream_gate.specs.declared.outcome.Outcome.{Outcome}
use Rattle.targets.specs.declared.target.Target.{Target}
use Rattle.trigger_command.specs.declared.selection.UrlItem.{UrlItem}
use Rattle.trigger_command.specs.declared.spec.TriggerKind.{TriggerKind}
use Rattle.trigger_command.specs.declared.spec.TriggerKind.TheVariants.{Preposition, Invalidate, Purge}
use Rattle.trigger_status.specs.declared.job.JobStatus.{JobStatus}
use Rattle.trigger_status.specs.declared.job.JobStatus.TheVariants.{Pending, Active, Complete, Failed, Cancelling, Cancelled}
use Rattle.history.proofs.Cases.{either, opening_cases, advance_cases, cancel_cases, command_cases, fetch_end_cases, refresh_end_cases}
use Rattle.history.proofs.Words.{world_push}
use Rattle.history.specs.After.{after, after_reply, ended_refresh, triggers_after}
use Rattle.history.specs.Event.{Entry, Event, History, Admit, FetchEnd, Finish, RefreshBegin, RefreshEnd, Command, Advance, Cancel, Delete, ReadStatus, Lists, Cut, LogFile, ListLogs, DropLog}
use Rattle.history.specs.History.{reply_to, world_of}
use Rattle.history.specs.Metadata.{is_skipped}
use Rattle.history.specs.Reply.{advance_reply, opening, reply_in, step_reply, url_reply}
use Rattle.history.specs.Steps.{Step, Ended, Claimed, Waits, Starts, Refreshes, Fetches, Ends, active_step, claimed_step, ends_as, free_step, index_of, invalid_of, metadata_steps, own_step, url_place, url_step, awaits_fetch, awaits_refresh, cancelled_from, changed, ended, ended_as, fetched, is_trigger, refreshed, skipped, started, status_step, step_of, trigger_of, waiting}
use Rattle.history.specs.World.{Awaited, OneFetch, OneRefresh, Made, Trigger, World}
use Rattle.history.specs.declared.reply.Reply.{Reply}
use Rattle.history.specs.declared.reply.Reply.TheVariants as reply
use Rattle.trigger_law.specs.FinalTriggers.{IsFinalAmong, IsFinalIn, deletes, is_final}

-- ---- finding a trigger

pub first_found : (x : Trigger) (rest : Option Trigger) (t : Trigger) (b : Bool) → b ≡ true → cond b (Some x) rest ≡ Some t → x ≡ t
first_found x rest t true is found = same_Some x t found
first_found x rest t false is found = absurd (both_ways false refl is)

later_found : (x : Trigger) (rest : Option Trigger) (t : Trigger) (b : Bool) → b ≡ false → cond b (Some x) rest ≡ Some t → rest ≡ Some t
later_found x rest t true is found = absurd (both_ways true is refl)
later_found x rest t false is found = found

finds_first : (x : Trigger) (rest : Option Trigger) (b : Bool) → b ≡ true → cond b (Some x) rest ≡ Some x
finds_first x rest true is = refl
finds_first x rest false is = absurd (both_ways false refl is)

finds_later : (x : Trigger) (rest : Option Trigger) (t : Trigger) (b : Bool) → b ≡ false → rest ≡ Some t → cond b (Some x) rest ≡ Some t
finds_later x rest t true is found = absurd (both_ways true is refl)
finds_later x rest t false is found = found

-- what is found has the number
pub found_is : (id : ℕ) (triggers : List Trigger) (t : Trigger) → trigger_of id triggers ≡ Some t → is_trigger id t ≡ true
found_is id [] t found = absurd (none-some t found)
found_is id (x ∷ xs) t found = elim (cases_Bool (is_trigger id x)) [
  | inl holds ↦ subst (λ (y : Trigger). is_trigger id y ≡ true) (first_found x (trigger_of id xs) t (is_trigger id x) holds found) holds
  | inr fails ↦ found_is id xs t (later_found x (trigger_of id xs) t (is_trigger id x) fails found)
]

-- where each trigger is changed and keeps its number, the changed one is found
pub mapped : (id : ℕ) (f : Trigger → Trigger) → ((t : Trigger) → is_trigger id (f t) ≡ is_trigger id t) → (triggers : List Trigger) (t : Trigger) → trigger_of id triggers ≡ Some t → trigger_of id (map f triggers) ≡ Some (f t)
mapped id f same [] t found = absurd (none-some t found)
mapped id f same (x ∷ xs) t found = elim (cases_Bool (is_trigger id x)) [
  | inl holds ↦ finds_first (f x) (trigger_of id (map f xs)) (is_trigger id (f x)) (same x ∙ holds) ∙ ap (λ (y : Trigger). Some (f y)) (first_found x (trigger_of id xs) t (is_trigger id x) holds found)
  | inr fails ↦ finds_later (f x) (trigger_of id (map f xs)) (f t) (is_trigger id (f x)) (same x ∙ fails) (mapped id f same xs t (later_found x (trigger_of id xs) t (is_trigger id x) fails found))
]

mapped_final : (id : ℕ) (f : Trigger → Trigger) → ((t : Trigger) → is_trigger id (f t) ≡ is_trigger id t) → ((t : Trigger) → is_trigger id t ≡ true → is_final t.job.status ≡ true → is_final (f t).job.status ≡ true)
    → (triggers : List Trigger) → IsFinalAmong id triggers → IsFinalAmong id (map f triggers)
mapped_final id f same keeps triggers (t, found, last) = (f t, mapped id f same triggers t found, keeps t (found_is id triggers t found) last)

-- others behind it change nothing
with_more : (id : ℕ) (triggers more : List Trigger) (t : Trigger) → trigger_of id triggers ≡ Some t → trigger_of id (triggers ++ more) ≡ Some t
with_more id [] more t found = absurd (none-some t found)
with_more id (x ∷ xs) more t found = elim (cases_Bool (is_trigger id x)) [
  | inl holds ↦ finds_first x (trigger_of id (xs ++ more)) (is_trigger id x) holds ∙ ap Some (first_found x (trigger_of id xs) t (is_trigger id x) holds found)
  | inr fails ↦ finds_later x (trigger_of id (xs ++ more)) t (is_trigger id x) fails (with_more id xs more t (later_found x (trigger_of id xs) t (is_trigger id x) fails found))
]

-- a trigger has one number
pub other_number : (id other : ℕ) (t : Trigger) → (other == id) ≡ false → is_trigger id t ≡ true → is_trigger other t ≡ false
other_number id other t differs is = elim (cases_Bool (is_trigger other t)) [
  | inl holds ↦ absurd (both_ways (other == id) differs (eq-eqb other id (sym (eqb-true t.job.id other holds) ∙ eqb-true t.job.id id is)))
  | inr fails ↦ fails
]

-- another one is taken away
abbrev pub left_without : ℕ → List Trigger → List Trigger
left_without other triggers = filter (λ trigger. not (is_trigger other trigger)) triggers

without_one : (id other : ℕ) (x : Trigger) (xs : List Trigger) (t : Trigger) → is_trigger id x ≡ false → trigger_of id (left_without other xs) ≡ Some t → (b : Bool)
    → trigger_of id (cond (not b) (x ∷ left_without other xs) (left_without other xs)) ≡ Some t
without_one id other x xs t fails found true = found
without_one id other x xs t fails found false = finds_later x (trigger_of id (left_without other xs)) t (is_trigger id x) fails found

without : (id other : ℕ) → (other == id) ≡ false → (triggers : List Trigger) (t : Trigger) → trigger_of id triggers ≡ Some t → trigger_of id (left_without other triggers) ≡ Some t
without id other differs [] t found = absurd (none-some t found)
without id other differs (x ∷ xs) t found = elim (cases_Bool (is_trigger id x)) [
  | inl holds ↦ subst (λ (b : Bool). trigger_of id (cond (not b) (x ∷ left_without other xs) (left_without other xs)) ≡ Some t) (sym (other_number id other x differs holds))
      (finds_first x (trigger_of id (left_without other xs)) (is_trigger id x) holds ∙ ap Some (first_found x (trigger_of id xs) t (is_trigger id x) holds found))
  | inr fails ↦ without_one id other x xs t fails (without id other differs xs t (later_found x (trigger_of id xs) t (is_trigger id x) fails found)) (is_trigger other x)
]

-- ---- what changes a trigger

-- a change that keeps the number and the last status, made or not
pub chosen_number : (id : ℕ) (t u : Trigger) (b : Bool) → u.job.id ≡ t.job.id → is_trigger id (cond b u t) ≡ is_trigger id t
chosen_number id t u true same = ap (λ (n : ℕ). n == id) same
chosen_number id t u false same = refl

chosen_final : (t u : Trigger) (b : Bool) → is_final t.job.status ≡ true → is_final u.job.status ≡ true → is_final (cond b u t).job.status ≡ true
chosen_final t u true last next = next
chosen_final t u false last next = last

pub fetched_number : (good : Bool) (t : Trigger) → (fetched good t).job.id ≡ t.job.id
fetched_number true t = refl
fetched_number false t = refl

fetched_final : (good : Bool) (t : Trigger) → is_final t.job.status ≡ true → is_final (fetched good t).job.status ≡ true
fetched_final true t last = last
fetched_final false t last = last

pub refreshed_number : (good : Bool) (t : Trigger) → (refreshed good t).job.id ≡ t.job.id
refreshed_number true t = refl
refreshed_number false t = refl

refreshed_final : (good : Bool) (t : Trigger) → is_final t.job.status ≡ true → is_final (refreshed good t).job.status ≡ true
refreshed_final true t last = last
refreshed_final false t last = last

pub ended_number : (moment : ℕ) (status before : JobStatus) (t : Trigger) → (ended_as moment status before t).job.id ≡ t.job.id
ended_number moment status Pending t = refl
ended_number moment status Active t = refl
ended_number moment status Complete t = refl
ended_number moment status Failed t = refl
ended_number moment status Cancelling t = refl
ended_number moment status Cancelled t = refl

ended_final : (moment : ℕ) (status before : JobStatus) (t : Trigger) → is_final before ≡ true → is_final t.job.status ≡ true → is_final (ended_as moment status before t).job.status ≡ true
ended_final moment status Pending t is last = absurd (both_ways false refl is)
ended_final moment status Active t is last = absurd (both_ways false refl is)
ended_final moment status Complete t is last = last
ended_final moment status Failed t is last = last
ended_final moment status Cancelling t is last = absurd (both_ways false refl is)
ended_final moment status Cancelled t is last = last

pub cancelled_number : (moment : ℕ) (before : JobStatus) (t : Trigger) → (cancelled_from moment before t).job.id ≡ t.job.id
cancelled_number moment Pending t = refl
cancelled_number moment Active t = refl
cancelled_number moment Complete t = refl
cancelled_number moment Failed t = refl
cancelled_number moment Cancelling t = refl
cancelled_number moment Cancelled t = refl

cancelled_final : (moment : ℕ) (before : JobStatus) (t : Trigger) → is_final before ≡ true → is_final t.job.status ≡ true → is_final (cancelled_from moment before t).job.status ≡ true
cancelled_final moment Pending t is last = absurd (both_ways false refl is)
cancelled_final moment Active t is last = absurd (both_ways false refl is)
cancelled_final moment Complete t is last = last
cancelled_final moment Failed t is last = last
cancelled_final moment Cancelling t is last = absurd (both_ways false refl is)
cancelled_final moment Cancelled t is last = last

-- another trigger is changed
changed_other : (id other : ℕ) → (other == id) ≡ false → (f : Trigger → Trigger) → ((t : Trigger) → (f t).job.id ≡ t.job.id) → (triggers : List Trigger) → IsFinalAmong id triggers → IsFinalAmong id (changed other f triggers)
changed_other id other differs f same triggers among = mapped_final id (λ t. cond (is_trigger other t) (f t) t) (λ t. chosen_number id t (f t) (is_trigger other t) (same t))
    (λ t is last. subst (λ (b : Bool). is_final (cond b (f t) t).job.status ≡ true) (sym (other_number id other t differs is)) last) triggers among

-- its own step is answered with its status
final_step : (w : World) (pass : ℕ) (t : Trigger) (status : JobStatus) → is_final status ≡ true → step_reply w (status_step pass t status) ≡ reply.Final status
final_step w pass t Pending is = absurd (both_ways false refl is)
final_step w pass t Active is = absurd (both_ways false refl is)
final_step w pass t Complete is = refl
final_step w pass t Failed is = refl
final_step w pass t Cancelling is = absurd (both_ways false refl is)
final_step w pass t Cancelled is = refl

own_step_reply : (w : World) (pass id moment : ℕ) (t : Trigger) → trigger_of id w.controlling.triggers ≡ Some t → is_final t.job.status ≡ true → reply_in w (pass, Advance id moment) ≡ reply.Final t.job.status
unfolding reply_in
own_step_reply w pass id moment t found last = ap (advance_reply w pass id) found ∙ final_step w pass t t.job.status last

-- ---- an entry

abbrev Kept : World → ℕ → Entry → Type 0
Kept w id entry = IsFinalAmong id (triggers_after w entry (reply_in w entry))

own_advance : (w : World) (pass id moment : ℕ) → IsFinalIn w id → Kept w id (pass, Advance id moment)
own_advance w pass id moment (t, found, last) =
    subst (λ (r : Reply). IsFinalAmong id (triggers_after w (pass, Advance id moment) r)) (sym (own_step_reply w pass id moment t found last))
    (mapped_final id (λ u. cond (is_trigger id u) (ended moment t.job.status u) u) (λ u. chosen_number id u (ended moment t.job.status u) (is_trigger id u) (ended_number moment t.job.status u.job.status u))
    (λ u is final. chosen_final u (ended moment t.job.status u) (is_trigger id u) final (ended_final moment t.job.status u.job.status u final final)) w.controlling.triggers (t, found, last))

other_advance : (w : World) (pass id other moment : ℕ) → (other == id) ≡ false → IsFinalIn w id → Kept w id (pass, Advance other moment)
other_advance w pass id other moment differs among =
    advance_cases w pass (λ r. IsFinalAmong id (triggers_after w (pass, Advance other moment) r)) (λ n. among)
    (λ status. changed_other id other differs (ended moment status) (λ t. ended_number moment status t.job.status t) w.controlling.triggers among)
    (λ by. among) (λ n. among)
    (changed_other id other differs (started pass moment) (λ t. refl) w.controlling.triggers among)
    (changed_other id other differs (waiting (OneRefresh _)) (λ t. refl) w.controlling.triggers among)
    (λ n. changed_other id other differs (skipped n) (λ t. refl) w.controlling.triggers among)
    (λ target. changed_other id other differs (waiting (OneFetch _)) (λ t. refl) w.controlling.triggers among)
    other moment among

kept_by_fetch : (w : World) (pass id fetch : ℕ) (outcome : Outcome) (moment : ℕ) → IsFinalIn w id → Kept w id (pass, FetchEnd fetch outcome moment)
kept_by_fetch w pass id fetch outcome moment among =
    fetch_end_cases w pass (λ r. IsFinalAmong id (triggers_after w (pass, FetchEnd fetch outcome moment) r)) fetch outcome moment among
    (λ begun is. mapped_final id (λ t. cond (awaits_fetch fetch t.awaited) (fetched _ t) t) (λ t. chosen_number id t (fetched _ t) (awaits_fetch fetch t.awaited) (fetched_number _ t))
    (λ t is last. chosen_final t (fetched _ t) (awaits_fetch fetch t.awaited) last (fetched_final _ t last)) w.controlling.triggers among)

ended_refresh_final : (id refresh : ℕ) (good : Bool) (triggers : List Trigger) → IsFinalAmong id triggers → IsFinalAmong id (ended_refresh refresh good triggers)
ended_refresh_final id refresh good triggers among =
    mapped_final id (λ t. cond (awaits_refresh refresh t.awaited) (refreshed good t) t) (λ t. chosen_number id t (refreshed good t) (awaits_refresh refresh t.awaited) (refreshed_number good t))
    (λ t is last. chosen_final t (refreshed good t) (awaits_refresh refresh t.awaited) last (refreshed_final good t last)) triggers among

kept_by_refresh : (w : World) (pass id refresh : ℕ) (tree : Option TreeData) (moment : ℕ) → IsFinalIn w id → Kept w id (pass, RefreshEnd refresh tree moment)
kept_by_refresh w pass id refresh tree moment among =
    refresh_end_cases w pass (λ r. IsFinalAmong id (triggers_after w (pass, RefreshEnd refresh tree moment) r)) refresh
    (ended_refresh_final id refresh false w.controlling.triggers among) (λ n. ended_refresh_final id refresh false w.controlling.triggers among)
    (λ n. ended_refresh_final id refresh false w.controlling.triggers among) (λ is. ended_refresh_final id refresh true w.controlling.triggers among) tree moment among

kept_by_command : (w : World) (pass id : ℕ) (spec : _) (moment : ℕ) → IsFinalIn w id → Kept w id (pass, Command spec moment)
kept_by_command w pass id spec moment (t, found, last) =
    command_cases w pass (λ r. IsFinalAmong id (triggers_after w (pass, Command spec moment) r)) spec moment (λ n. (t, found, last))
    (t, with_more id w.controlling.triggers _ t found, last)

kept_by_cancel : (w : World) (pass id : ℕ) (ids : List ℕ) (moment : ℕ) → IsFinalIn w id → Kept w id (pass, Cancel ids moment)
kept_by_cancel w pass id ids moment among =
    cancel_cases w pass (λ r. IsFinalAmong id (triggers_after w (pass, Cancel ids moment) r)) ids moment (λ n. among)
    (λ list. mapped_final id (λ t. cond (list_any (λ one. is_trigger one t) ids) (cancelled_from moment t.job.status t) t)
    (λ t. chosen_number id t (cancelled_from moment t.job.status t) (list_any (λ one. is_trigger one t) ids) (cancelled_number moment t.job.status t))
    (λ t is last. chosen_final t (cancelled_from moment t.job.status t) (list_any (λ one. is_trigger one t) ids) last (cancelled_final moment t.job.status t last last)) w.controlling.triggers among)

kept_by_delete : (w : World) (pass id other : ℕ) → (other == id) ≡ false → IsFinalIn w id → Kept w id (pass, Delete other)
kept_by_delete w pass id other differs (t, found, last) = (t, without id other differs w.controlling.triggers t found, last)

-- each entry keeps it, or deletes it
kept_by : (w : World) (pass : ℕ) (event : Event) (id : ℕ) → IsFinalIn w id → Kept w id (pass, event) ⊎ (deletes id (pass, event) ≡ true)
kept_by w pass (Admit request moment) id among = inl among
kept_by w pass (FetchEnd fetch outcome moment) id among = inl (kept_by_fetch w pass id fetch outcome moment among)
kept_by w pass (Finish delivery status total entity moment) id among = inl among
kept_by w pass (RefreshBegin moment) id among = inl among
kept_by w pass (RefreshEnd refresh tree moment) id among = inl (kept_by_refresh w pass id refresh tree moment among)
kept_by w pass (Command spec moment) id among = inl (kept_by_command w pass id spec moment among)
kept_by w pass (Advance other moment) id among = elim (cases_Bool (other == id)) [
  | inl same ↦ inl (subst (λ (n : ℕ). Kept w id (pass, Advance n moment)) (sym (eqb-true other id same)) (own_advance w pass id moment among))
  | inr differs ↦ inl (other_advance w pass id other moment differs among)
]
kept_by w pass (Cancel ids moment) id among = inl (kept_by_cancel w pass id ids moment among)
kept_by w pass (Delete other) id among = elim (cases_Bool (other == id)) [
  | inl same ↦ inr same
  | inr differs ↦ inl (kept_by_delete w pass id other differs among)
]
kept_by w pass (ReadStatus other) id among = inl among
kept_by w pass (Lists filter) id among = inl among
kept_by w pass (Cut moment) id among = inl among
kept_by w pass (LogFile number) id among = inl among
kept_by w pass ListLogs id among = inl among
kept_by w pass (DropLog number) id among = inl among

kept_after : (w : World) (entry : Entry) (id : ℕ) → Kept w id entry → IsFinalIn (after w entry) id
unfolding after after_reply
kept_after w entry id kept = kept

one_more : (made : Made) (h : History) (entry : Entry) (id : ℕ) → IsFinalIn (world_of made h) id → IsFinalIn (world_of made (h ++ entry ∷ [])) id ⊎ (deletes id entry ≡ true)
one_more made h (pass, event) id among = elim (kept_by (world_of made h) pass event id among) [
  | inl kept ↦ inl (subst (λ (w : World). IsFinalIn w id) (sym (world_push made h (pass, event))) (kept_after (world_of made h) (pass, event) id kept))
  | inr gone ↦ inr gone
]

-- ---- many entries

stays_final : (made : Made) (h more : History) (id : ℕ) → IsFinalIn (world_of made h) id → IsFinalIn (world_of made (h ++ more)) id ⊎ (list_any (deletes id) more ≡ true)
stays_final made h [] id among = inl (subst (λ (x : History). IsFinalIn (world_of made x) id) (sym (append-nil h)) among)
stays_final made h (entry ∷ more) id among = elim (one_more made h entry id among) [
  | inl kept ↦ elim (stays_final made (h ++ entry ∷ []) more id kept) [
    | inl last ↦ inl (subst (λ (x : History). IsFinalIn (world_of made x) id) (append_assoc h (entry ∷ []) more) last)
    | inr gone ↦ inr (or_right (deletes id entry) (list_any (deletes id) more) gone)
  ]
  | inr gone ↦ inr (or_left (deletes id entry) (list_any (deletes id) more) gone)
]

-- ---- the first answer that says so

-- where the step ends the trigger, or it has ended, the status is a last one
abbrev Lasts : Step → Type 0
Lasts (Ended status) = is_final status ≡ true
Lasts (Claimed pass) = Unit {0}
Lasts (Waits number) = Unit {0}
Lasts Starts = Unit {0}
Lasts Refreshes = Unit {0}
Lasts (Fetches place item) = Unit {0}
Lasts (Ends status) = is_final status ≡ true

either_lasts : (b : Bool) (one two : Step) → Lasts one → Lasts two → Lasts (cond b one two)
either_lasts true one two first second = first
either_lasts false one two first second = second

pub ends_last : (emeta : Bool) (places : List ℕ) → is_final (ends_as emeta places) ≡ true
ends_last true places = refl
ends_last false [] = refl
ends_last false (place ∷ places) = refl

url_lasts : (t : Trigger) (item : Option UrlItem) → Lasts (url_step t item)
url_lasts t None = ends_last t.job.emeta t.job.econtent
url_lasts t (Some item) = tt

active_lasts : (kind : TriggerKind) (t : Trigger) → Lasts (active_step kind t)
active_lasts Invalidate t = refl
active_lasts Purge t = refl
active_lasts Preposition t = either_lasts (nat_lt t.steps (metadata_steps t.job.spec.selection.metadata_urls)) Refreshes _ tt (url_lasts t (slice_get t.job.spec.selection.content_urls (url_place t)))

free_lasts : (status : JobStatus) (t : Trigger) → Lasts (free_step status t)
free_lasts Pending t = tt
free_lasts Active t = active_lasts t.job.spec.kind t
free_lasts Complete t = refl
free_lasts Failed t = refl
free_lasts Cancelling t = refl
free_lasts Cancelled t = refl

own_lasts : (t : Trigger) (awaited : Option Awaited) → Lasts (own_step t awaited)
own_lasts t (Some awaited) = tt
own_lasts t None = free_lasts t.job.status t

claimed_lasts : (pass : ℕ) (t : Trigger) (claimant : Option ℕ) → Lasts (claimed_step pass t claimant)
claimed_lasts pass t None = own_lasts t t.awaited
claimed_lasts pass t (Some claimant) = either_lasts (claimant == pass) (own_step t t.awaited) (Claimed claimant) (own_lasts t t.awaited) tt

status_lasts : (pass : ℕ) (t : Trigger) (status : JobStatus) → Lasts (status_step pass t status)
status_lasts pass t Complete = refl
status_lasts pass t Failed = refl
status_lasts pass t Cancelled = refl
status_lasts pass t Pending = claimed_lasts pass t t.claimant
status_lasts pass t Active = claimed_lasts pass t t.claimant
status_lasts pass t Cancelling = claimed_lasts pass t t.claimant

-- the status that an answer tells
abbrev told_status : Reply → Option JobStatus
told_status (reply.Final status) = Some status
told_status answer = None

opened_untold : (w : World) (r : Reply) → told_status r ≡ None → told_status (opening w r) ≡ None
opened_untold w r untold = opening_cases w (λ x. told_status x ≡ None) r (λ n. refl) untold

is_told : (r : Reply) (status : JobStatus) → r ≡ reply.Final status → told_status r ≡ Some status
is_told r status is = ap told_status is

untold : {A : Type 0} (r : Reply) (status : JobStatus) → r ≡ reply.Final status → told_status r ≡ None → A
untold r status is none = absurd (none-some status (sym none ∙ is_told r status is))

url_untold : (w : World) (place : ℕ) (target : Target) → told_status (url_reply w place target) ≡ None
url_untold w place target = either (λ x. told_status x ≡ None) (is_skipped (index_of w.delivering) (invalid_of w.delivering) target) _ _ refl (opened_untold w _ refl)

step_lasts : (w : World) (step : Step) (status : JobStatus) → step_reply w step ≡ reply.Final status → Lasts step → is_final status ≡ true
step_lasts w (Ended before) status is lasts = subst (λ (s : JobStatus). is_final s ≡ true) (same_Some before status (is_told _ status is)) lasts
step_lasts w (Claimed pass) status is lasts = untold _ status is refl
step_lasts w (Waits number) status is lasts = untold _ status is refl
step_lasts w Starts status is lasts = untold _ status is (opened_untold w _ refl)
step_lasts w Refreshes status is lasts = untold _ status is (opened_untold w _ refl)
step_lasts w (Fetches place item) status is lasts = untold _ status is (url_untold w place item.target)
step_lasts w (Ends last) status is lasts = subst (λ (s : JobStatus). is_final s ≡ true) (same_Some last status (is_told _ status is)) lasts

ended_last : (moment : ℕ) (status before : JobStatus) (t : Trigger) → is_final status ≡ true → before ≡ t.job.status → is_final (ended_as moment status before t).job.status ≡ true
ended_last moment status Pending t last is = last
ended_last moment status Active t last is = last
ended_last moment status Cancelling t last is = last
ended_last moment status Complete t last is = subst (λ (s : JobStatus). is_final s ≡ true) is refl
ended_last moment status Failed t last is = subst (λ (s : JobStatus). is_final s ≡ true) is refl
ended_last moment status Cancelled t last is = subst (λ (s : JobStatus). is_final s ≡ true) is refl

chosen_last : (t u : Trigger) (b : Bool) → b ≡ true → is_final u.job.status ≡ true → is_final (cond b u t).job.status ≡ true
chosen_last t u true is last = last
chosen_last t u false is last = absurd (both_ways false refl is)

first_by : (w : World) (pass id moment : ℕ) (status : JobStatus) (found : Option Trigger) → trigger_of id w.controlling.triggers ≡ found → advance_reply w pass id found ≡ reply.Final status
    → IsFinalAmong id (changed id (ended moment status) w.controlling.triggers)
first_by w pass id moment status None found is = untold _ status is refl
first_by w pass id moment status (Some t) found is =
    let last = step_lasts w (step_of pass t) status is (status_lasts pass t t.job.status) in (
      cond (is_trigger id t) (ended moment status t) t,
      mapped id (λ u. cond (is_trigger id u) (ended moment status u) u) (λ u. chosen_number id u (ended moment status u) (is_trigger id u) (ended_number moment status u.job.status u)) w.controlling.triggers t found,
      chosen_last t (ended moment status t) (is_trigger id t) (found_is id w.controlling.triggers t found) (ended_last moment status t.job.status t last refl),
    )

told_so : (w : World) (pass id moment : ℕ) (status : JobStatus) → reply_in w (pass, Advance id moment) ≡ reply.Final status → advance_reply w pass id (trigger_of id w.controlling.triggers) ≡ reply.Final status
unfolding reply_in
told_so w pass id moment status is = is

first_final : (w : World) (pass id moment : ℕ) (status : JobStatus) → reply_in w (pass, Advance id moment) ≡ reply.Final status → Kept w id (pass, Advance id moment)
first_final w pass id moment status is = subst (λ (r : Reply). IsFinalAmong id (triggers_after w (pass, Advance id moment) r)) (sym is) (first_by w pass id moment status (trigger_of id w.controlling.triggers) refl (told_so w pass id moment status is))

pub final_since : (made : Made) (before since : History) (pass id moment : ℕ) (status : JobStatus) → reply_to made before (pass, Advance id moment) ≡ reply.Final status
    → IsFinalIn (world_of made ((before ++ (pass, Advance id moment) ∷ []) ++ since)) id ⊎ (list_any (deletes id) since ≡ true)
final_since made before since pass id moment status is =
    stays_final made (before ++ (pass, Advance id moment) ∷ []) since id
    (subst (λ (w : World). IsFinalIn w id) (sym (world_push made before (pass, Advance id moment))) (kept_after (world_of made before) (pass, Advance id moment) id (first_final (world_of made before) pass id moment status is)))
