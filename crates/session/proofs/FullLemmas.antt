-- Reached limits, and what is answered.
use Rattle.std.proofs.Common.{◌≡◌, ◌⊎◌, inl, inr, ℕ, Bool, true, false, ◌==◌, cond, List, [], ◌∷◌, ◌++◌, length, refl, sym, ◌∙◌, ap, subst, arith, None, Some, Option, IsTrue}
use Rattle.std.specs.Option.{option_map_or}
use Rattle.std.proofs.lemmas.Bool.{both_ways}
use Rattle.std.proofs.lemmas.Option.{none-some, same_Some}
use Rattle.byte_range.specs.Span.{span_of}
use Rattle.byte_range.specs.declared.span.Span.{Span}
use Rattle.byte_range.specs.declared.span.Span.TheVariants as span
use Rattle.cdni_base.specs.Rule.{rule_status}
use Rattle.cdni_base.specs.declared.asked.Asked.{Asked}
use Rattle.history.specs.Event.{Event, Admit, FetchEnd, Finish, RefreshBegin, RefreshEnd, Command, Advance, Cancel, Delete, ReadStatus, Lists, Cut, LogFile, ListLogs, DropLog, Request, request_of}
use Rattle.history.specs.declared.reply.Reply.{Reply}
use Rattle.history.specs.declared.reply.Reply.TheVariants as reply
use Rattle.location_acl.specs.declared.footprint.Place.{Place}
use Rattle.targets.specs.declared.target.Target.{Target}
use Rattle.upstream_gate.specs.Got.{GotParts, IsGot, is_got_status}
use Rattle.upstream_gate.specs.declared.outcome.Outcome.{Outcome}
use Rattle.upstream_gate.specs.declared.outcome.Outcome.TheVariants as outcome
use Rattle.session_base.specs.Answer.{Answer, IsConstant}
use Rattle.session_base.specs.Content.{IsBounded, Shown, IsShown, brought_shown, content_shown, control_shown, denied_shown, full_shown, part_shown, saying, whole_shown}
use Rattle.session_base.specs.Doing.{Called, Doing}
use Rattle.session_base.specs.declared.constant.Constant.TheVariants as constant
use Rattle.session_base.specs.declared.ending.Next.{Next}
use Rattle.session_base.specs.declared.manner.Manner.{Manner}
use Rattle.session_base.specs.declared.settings.Settings.{Settings}
use Rattle.content_request.specs.Course.{Course, NoRoom, Crowded, Full, Barred, Kept, Brought, Short, Content, Follows, IsAnswerOf, IsPlanned, course_calls, finished}
use Rattle.content_request.specs.Refresh.{Refreshing, NoBegin, NotDue, Crowded as Thronged, Gathered, Ungathered, refresh_calls, refreshed_by}
use Rattle.control_request.specs.Answer.{answer_to}
use Rattle.control_request.specs.Control.{Course as ControlCourse, NoRoom as Nothing, Uncalled, Replied, IsReplied, IsAnswerOf as IsControlAnswer, course_calls as control_calls, full_count, reply_shown}
use Rattle.session.specs.Full.{IsFullIn, IsUnavailable, IsUnavailableControl, reached_limit}

-- ---- what was answered Full is told

full_parts : (calls more : List Called) (count : ℕ) → IsFullIn (calls ++ more) count → IsFullIn calls count ⊎ IsFullIn more count
full_parts [] more count full = inr full
full_parts (call ∷ calls) more count (inl here) = inl (inl here)
full_parts (call ∷ calls) more count (inr later) = elim (full_parts calls more count later) [
  | inl front ↦ inl (inr front)
  | inr back ↦ inr back
]

full_before : (calls more : List Called) (count : ℕ) → IsFullIn calls count → IsFullIn (calls ++ more) count
full_before [] more count full = absurd full
full_before (call ∷ calls) more count (inl here) = inl here
full_before (call ∷ calls) more count (inr later) = inr (full_before calls more count later)

full_behind : (calls more : List Called) (count : ℕ) → IsFullIn more count → IsFullIn (calls ++ more) count
full_behind [] more count full = full
full_behind (call ∷ calls) more count full = inr (full_behind calls more count full)

none_here : {A : Type 0} (n : A) → None ≡ Some n → ⊥
none_here n e = none-some n e

full_as : (manner : Manner) (answer : Answer) (n count : ℕ) → Some n ≡ Some count → IsShown (full_shown manner n) answer → IsShown (full_shown manner count) answer
full_as manner answer n count same shown = subst (λ (x : ℕ). IsShown (full_shown manner x) answer) (same_Some n count same) shown

-- a limit in the refresh
full_refresh : (manner : Manner) (moment : ℕ) (how : Refreshing) (course : Course) (answer : Answer) (count : ℕ) → Follows (refreshed_by how) course → IsAnswerOf manner course answer → IsFullIn (refresh_calls moment how) count → IsShown (full_shown manner count) answer
full_refresh manner moment NoBegin course answer count follows answered full = absurd full
full_refresh manner moment (NotDue next) course answer count follows answered (inl here) = absurd (none_here count here)
full_refresh manner moment (NotDue next) course answer count follows answered (inr later) = absurd later
full_refresh manner moment (Thronged n) course answer count follows answered (inl here) = full_as manner answer n count here (subst (λ (x : Course). IsAnswerOf manner x answer) follows answered)
full_refresh manner moment (Thronged n) course answer count follows answered (inr later) = absurd later
full_refresh manner moment (Gathered refresh made tree at line) course answer count follows answered (inl here) = absurd (none_here count here)
full_refresh manner moment (Gathered refresh made tree at line) course answer count follows answered (inr (inl here)) = absurd (none_here count here)
full_refresh manner moment (Gathered refresh made tree at line) course answer count follows answered (inr (inr later)) = absurd later
full_refresh manner moment (Ungathered refresh made at line) course answer count follows answered (inl here) = absurd (none_here count here)
full_refresh manner moment (Ungathered refresh made at line) course answer count follows answered (inr (inl here)) = absurd (none_here count here)
full_refresh manner moment (Ungathered refresh made at line) course answer count follows answered (inr (inr later)) = absurd later

-- a limit in the admission
full_course : (manner : Manner) (request : Request) (moment taken : ℕ) (course : Course) (answer : Answer) (count : ℕ) → IsAnswerOf manner course answer → IsFullIn (course_calls (Admit request moment) answer taken course) count → IsShown (full_shown manner count) answer
full_course manner request moment taken NoRoom answer count answered full = absurd full
full_course manner request moment taken (Crowded n) answer count answered full = absurd full
full_course manner request moment taken (Full n) answer count answered (inl here) = full_as manner answer n count here answered
full_course manner request moment taken (Full n) answer count answered (inr later) = absurd later
full_course manner request moment taken (Barred delivery rule at line) answer count answered (inl here) = absurd (none_here count here)
full_course manner request moment taken (Barred delivery rule at line) answer count answered (inr (inl here)) = absurd (none_here count here)
full_course manner request moment taken (Barred delivery rule at line) answer count answered (inr (inr later)) = absurd later
full_course manner request moment taken (Kept delivery fetch kind body at line) answer count answered (inl here) = absurd (none_here count here)
full_course manner request moment taken (Kept delivery fetch kind body at line) answer count answered (inr (inl here)) = absurd (none_here count here)
full_course manner request moment taken (Kept delivery fetch kind body at line) answer count answered (inr (inr later)) = absurd later
full_course manner request moment taken (Brought delivery fetch plan made how ended closed at line) answer count answered (inl here) = absurd (none_here count here)
full_course manner request moment taken (Brought delivery fetch plan made how ended closed at line) answer count answered (inr (inl here)) = absurd (none_here count here)
full_course manner request moment taken (Brought delivery fetch plan made how ended closed at line) answer count answered (inr (inr (inl here))) = absurd (none_here count here)
full_course manner request moment taken (Brought delivery fetch plan made how ended closed at line) answer count answered (inr (inr (inr later))) = absurd later
full_course manner request moment taken (Short delivery fetch plan made how ended closed at line) answer count answered (inl here) = absurd (none_here count here)
full_course manner request moment taken (Short delivery fetch plan made how ended closed at line) answer count answered (inr (inl here)) = absurd (none_here count here)
full_course manner request moment taken (Short delivery fetch plan made how ended closed at line) answer count answered (inr (inr (inl here))) = absurd (none_here count here)
full_course manner request moment taken (Short delivery fetch plan made how ended closed at line) answer count answered (inr (inr (inr later))) = absurd later

pub content_full : (root : Target) (asked : Asked) (place : Place) (manner : Manner) (d : Doing) (after : Next) → (content : Content root asked place manner d after) → (count : ℕ) → IsFullIn d.calls count → IsShown (full_shown manner count) content.answer
content_full root asked place manner d after content count full =
    let front = refresh_calls manner.moment content.how in
    let back = course_calls (Admit (request_of asked place manner.extra) manner.moment) content.answer (length d.written) content.course in
    elim (full_parts front back count (subst (λ (x : List Called). IsFullIn x count) content.calls full)) [
      | inl here ↦ full_refresh manner manner.moment content.how content.course content.answer count content.follows content.answered here
      | inr there ↦ full_course manner (request_of asked place manner.extra) manner.moment (length d.written) content.course content.answer count content.answered there
    ]

-- ---- and nothing else has the status 503 but a denial and want of memory

other_part : (manner : Manner) (kind body : List ℕ) (part : Span) → (part_shown manner kind body part).0.status ≡ 503 → ⊥
other_part manner kind body span.Whole e = omega (arith, e)
other_part manner kind body (span.Part first last) e = omega (arith, e)
other_part manner kind body span.Unsatisfiable e = omega (arith, e)

other_content : (manner : Manner) (kind body : List ℕ) → (content_shown manner kind body).0.status ≡ 503 → ⊥
unfolding content_shown
other_content manner kind body = elim (manner.is_head) as (λ (b : Bool). (cond b (record (saying manner 200 kind (length body)) { ranges = true }, []) (part_shown manner kind body (span_of manner.want (length body)))).0.status ≡ 503 → ⊥) [
  | true ↦ λ e. omega (arith, e)
  | false ↦ other_part manner kind body (span_of manner.want (length body))
]

shown_status : (shown : Shown) (answer : Answer) → IsShown shown answer → answer.status ≡ 503 → shown.0.status ≡ 503
shown_status shown answer is e = sym (ap (λ (a : Answer). a.status) is.is) ∙ e

got_status : (status : ℕ) → IsTrue (is_got_status status) → status ≡ 503 → ⊥
got_status status is e = both_ways _ (subst (λ (n : ℕ). is_got_status n ≡ false) (sym e) refl) is

got_other : (manner : Manner) (got : GotParts) → IsGot got → (brought_shown manner (outcome.Got got)).0.status ≡ 503 → ⊥
got_other manner got is = elim (got.status == 200) as (λ (b : Bool). (cond b (content_shown manner got.kind got.body) (whole_shown manner got.status got.kind got.body)).0.status ≡ 503 → ⊥) [
  | true ↦ other_content manner got.kind got.body
  | false ↦ got_status got.status is.0
]

other_brought : (manner : Manner) (how : Outcome) → IsBounded how → (brought_shown manner how).0.status ≡ 503 → ⊥
other_brought manner (outcome.Got got) bounded e = got_other manner got bounded e
other_brought manner (outcome.Refused status) bounded e = omega (arith, e)
other_brought manner (outcome.TooLong size) bounded e = omega (arith, e)
other_brought manner (outcome.Malformed taken) bounded e = omega (arith, e)
other_brought manner (outcome.Cut taken) bounded e = omega (arith, e)
other_brought manner outcome.Failed bounded e = omega (arith, e)
other_brought manner outcome.Memory bounded e = omega (arith, e)

crowded_no : (n : ℕ) → Crowded n ≡ NoRoom → ⊥
crowded_no n e = cc

-- a limit in the refresh was answered by its call
crowded_by : (moment n : ℕ) (how : Refreshing) → Follows (refreshed_by how) (Crowded n) → (count : ℕ) × IsFullIn (refresh_calls moment how) count
crowded_by moment n NoBegin follows = absurd (crowded_no n follows)
crowded_by moment n (NotDue next) follows = absurd follows
crowded_by moment n (Thronged m) follows = (m, inl refl)
crowded_by moment n (Gathered refresh made tree at line) follows = absurd follows
crowded_by moment n (Ungathered refresh made at line) follows = absurd (crowded_no n follows)

only_course : (manner : Manner) (asked : Asked) (place : Place) (taken : ℕ) (how : Refreshing) (course : Course) (answer : Answer) → Follows (refreshed_by how) course → IsPlanned asked.target course → IsAnswerOf manner course answer → answer.status ≡ 503
    → IsUnavailable manner (refresh_calls manner.moment how ++ course_calls (Admit (request_of asked place manner.extra) manner.moment) answer taken course) answer
only_course manner asked place taken how NoRoom answer follows planned is e = inr (inr is)
only_course manner asked place taken how (Crowded n) answer follows planned is e = let by = crowded_by manner.moment n how follows in inl (by.0, full_before (refresh_calls manner.moment how) [] by.0 by.1)
only_course manner asked place taken how (Full n) answer follows planned is e = inl (n, full_behind (refresh_calls manner.moment how) ((Admit (request_of asked place manner.extra) manner.moment, reply.Full n) ∷ []) n (inl refl))
only_course manner asked place taken how (Barred delivery rule at line) answer follows planned is e = inr (inl (rule, shown_status (denied_shown manner rule) answer is e, is))
only_course manner asked place taken how (Kept delivery fetch kind body at line) answer follows planned is e = absurd (other_content manner kind body (shown_status (content_shown manner kind body) answer is e))
only_course manner asked place taken how (Brought delivery fetch plan made ended at closed written line) answer follows planned is e = absurd (other_brought manner ended planned.2 (shown_status (brought_shown manner ended) answer is e))
only_course manner asked place taken how (Short delivery fetch plan made ended at closed written line) answer follows planned is e = inr (inr is)

pub content_only : (root : Target) (asked : Asked) (place : Place) (manner : Manner) (d : Doing) (after : Next) → (content : Content root asked place manner d after) → content.answer.status ≡ 503 → IsUnavailable manner d.calls content.answer
content_only root asked place manner d after content e = subst (λ (x : List Called). IsUnavailable manner x content.answer) (sym content.calls)
    (only_course manner asked place (length d.written) content.how content.course content.answer content.follows content.planned content.answered e)

-- ---- requests of the upstream CDN

reached_full : (event : Event) (line : Reply) (count : ℕ) → reached_limit (event, line) ≡ Some count → full_count line ≡ Some count
reached_full (Admit request moment) line count is = is
reached_full (FetchEnd fetch outcome moment) line count is = absurd (none_here count is)
reached_full (Finish delivery status total entity moment) line count is = absurd (none_here count is)
reached_full (RefreshBegin moment) line count is = is
reached_full (RefreshEnd refresh tree moment) line count is = absurd (none_here count is)
reached_full (Command spec moment) line count is = is
reached_full (Advance id moment) line count is = absurd (none_here count is)
reached_full (Cancel ids moment) line count is = absurd (none_here count is)
reached_full (Delete id) line count is = absurd (none_here count is)
reached_full (ReadStatus id) line count is = absurd (none_here count is)
reached_full (Lists filter) line count is = absurd (none_here count is)
reached_full (Cut moment) line count is = is
reached_full (LogFile number) line count is = absurd (none_here count is)
reached_full ListLogs line count is = absurd (none_here count is)
reached_full (DropLog number) line count is = absurd (none_here count is)

replied_full : (settings : Settings) (manner : Manner) (line : Reply) (short : Bool) (answer : Answer) (count : ℕ) → full_count line ≡ Some count → IsReplied settings manner line short answer → IsShown (full_shown manner count) answer
replied_full settings manner line true answer count is (constant, none) = absurd (none_here count (sym none ∙ is))
replied_full settings manner line false answer count is shown =
    subst (λ (x : Option ℕ). IsShown (option_map_or (λ n. full_shown manner n) x (control_shown manner settings.control (answer_to settings line))) answer) is shown

pub full_control : (settings : Settings) (manner : Manner) (course : ControlCourse) (answer : Answer) → IsControlAnswer settings manner course answer → (count : ℕ) → IsFullIn (control_calls course) count → IsShown (full_shown manner count) answer
full_control settings manner Nothing answer answered count full = absurd full
full_control settings manner (Uncalled given) answer answered count full = absurd full
full_control settings manner (Replied event line short) answer answered count (inl here) = replied_full settings manner line short answer count (reached_full event line count here) answered
full_control settings manner (Replied event line short) answer answered count (inr later) = absurd later

-- no other reply has the status 503
other_reply : (settings : Settings) (line : Reply) → (answer_to settings line).status ≡ 503 → ⊥
other_reply settings (reply.Denied a0 a1) e = omega (arith, e)
other_reply settings (reply.Hit a0 a1 a2 a3) e = omega (arith, e)
other_reply settings (reply.Miss a0 a1 a2) e = omega (arith, e)
other_reply settings (reply.Full a0) e = omega (arith, e)
other_reply settings (reply.Ended a0) e = omega (arith, e)
other_reply settings (reply.NotOpen a0) e = omega (arith, e)
other_reply settings (reply.Logged a0) e = omega (arith, e)
other_reply settings (reply.Due a0) e = omega (arith, e)
other_reply settings (reply.NotDue a0) e = omega (arith, e)
other_reply settings (reply.Installed a0) e = omega (arith, e)
other_reply settings (reply.Stale a0) e = omega (arith, e)
other_reply settings (reply.Older a0) e = omega (arith, e)
other_reply settings reply.Failed e = omega (arith, e)
other_reply settings (reply.Created a0) e = omega (arith, e)
other_reply settings reply.Started e = omega (arith, e)
other_reply settings (reply.Fetch a0 a1 a2) e = omega (arith, e)
other_reply settings (reply.Refresh a0) e = omega (arith, e)
other_reply settings (reply.Skipped a0) e = omega (arith, e)
other_reply settings (reply.Final a0) e = omega (arith, e)
other_reply settings (reply.Claimed a0) e = omega (arith, e)
other_reply settings (reply.StepOpen a0) e = omega (arith, e)
other_reply settings (reply.Unknown a0) e = omega (arith, e)
other_reply settings (reply.Statuses a0) e = omega (arith, e)
other_reply settings reply.Deleted e = omega (arith, e)
other_reply settings (reply.Resource a0) e = omega (arith, e)
other_reply settings (reply.Collection a0 a1) e = omega (arith, e)
other_reply settings (reply.File a0) e = omega (arith, e)
other_reply settings reply.NothingToCut e = omega (arith, e)
other_reply settings (reply.LogText a0) e = omega (arith, e)
other_reply settings (reply.Numbers a0) e = omega (arith, e)
other_reply settings reply.Dropped e = omega (arith, e)

only_replied : (settings : Settings) (manner : Manner) (line : Reply) (answer : Answer) (limit : Option ℕ) → full_count line ≡ limit → IsShown (reply_shown settings manner line) answer → answer.status ≡ 503 → (count : ℕ) × (full_count line ≡ Some count)
only_replied settings manner line answer (Some count) is shown e = (count, is)
only_replied settings manner line answer None is shown e =
    let other = subst (λ (x : Option ℕ). IsShown (option_map_or (λ n. full_shown manner n) x (control_shown manner settings.control (answer_to settings line))) answer) is shown in
    absurd (other_reply settings line (shown_status (control_shown manner settings.control (answer_to settings line)) answer other e))

pub only_control : (settings : Settings) (manner : Manner) (course : ControlCourse) (answer : Answer) → IsControlAnswer settings manner course answer → answer.status ≡ 503 → IsUnavailableControl course answer
only_control settings manner Nothing answer answered e = answered
only_control settings manner (Uncalled given) answer answered e = shown_status (control_shown manner settings.control given) answer answered e
only_control settings manner (Replied event line true) answer answered e = inr answered.0
only_control settings manner (Replied event line false) answer answered e = inl (only_replied settings manner line answer (full_count line) refl answered e)
