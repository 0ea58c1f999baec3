-- The count of the gate's faults over the calls of a request for content.
use Rattle.std.proofs.Common.{◌≡◌, ◌≢◌, ◌≤◌, ℕ, false, List, [], ◌∷◌, ◌++◌, length, arith, refl, None}
use Rattle.cdni_base.specs.declared.asked.Asked.{Asked}
use Rattle.edge_base.specs.Causes.{Rose}
use Rattle.history.specs.Event.{Admit, FetchEnd, RefreshBegin, RefreshEnd, Request, request_of}
use Rattle.history.specs.declared.reply.Reply.{Reply}
use Rattle.history.specs.declared.reply.Reply.TheVariants as reply
use Rattle.location_acl.specs.declared.footprint.Place.{Place}
use Rattle.targets.specs.declared.target.Target.{Target}
use Rattle.upstream_gate.specs.declared.outcome.Outcome.{Outcome}
use Rattle.upstream_gate.specs.declared.outcome.Outcome.TheVariants as outcome
use Rattle.session_base.specs.Answer.{Answer}
use Rattle.session_base.specs.Doing.{Called, Doing}
use Rattle.session_base.specs.GateFaults.{CountsFaults, ends_failed}
use Rattle.session_base.specs.Moment.{capped}
use Rattle.session_base.specs.declared.ending.Next.{Next}
use Rattle.session_base.specs.declared.manner.Manner.{Manner}
use Rattle.session_base.proofs.GateFaultLemmas.{counts_as, counts_fetch, counts_none, counts_other, counts_then, counts_wider}
use Rattle.content_request.specs.Course.{Barred, Brought, Content, Course, Crowded, Full, HasGateFault, IsPlanned, Kept, MayFallShort, NoRoom, Short, course_calls, finished}
use Rattle.content_request.specs.Refresh.{Gathered, NoBegin, NotDue, Refreshing, Ungathered, refresh_calls}
use Rattle.content_request.specs.Refresh.{Crowded as CrowdedRefresh}

-- two calls that end no fetch
two : (n : ℕ) (first last : Called) → ends_failed first.0 ≡ false → ends_failed last.0 ≡ false → CountsFaults n n (first ∷ last ∷ [])
two n first last one other = counts_then n n n (first ∷ []) (last ∷ []) (counts_other n n first (omega arith) one) (counts_other n n last (omega arith) other)

refreshing_counts : (n moment : ℕ) (how : Refreshing) → CountsFaults n n (refresh_calls moment how)
refreshing_counts n moment NoBegin = counts_none n
refreshing_counts n moment (NotDue next) = counts_other n n (RefreshBegin moment, reply.NotDue next) (omega arith) refl
refreshing_counts n moment (CrowdedRefresh count) = counts_other n n (RefreshBegin moment, reply.Full count) (omega arith) refl
refreshing_counts n moment (Gathered refresh made tree at line) = two n (RefreshBegin moment, reply.Due refresh) (RefreshEnd refresh tree (capped at), line) refl refl
refreshing_counts n moment (Ungathered refresh made at line) = two n (RefreshBegin moment, reply.Due refresh) (RefreshEnd refresh None (capped at), line) refl refl

-- one with the end of a fetch between two others
three : (before now : ℕ) (first last : Called) (fetch : ℕ) (how : Outcome) (moment : ℕ) (closed : Reply) → before ≤ now → ends_failed first.0 ≡ false → ends_failed last.0 ≡ false → (how ≡ outcome.Failed → Rose before now)
    → CountsFaults before now (first ∷ (FetchEnd fetch how moment, closed) ∷ last ∷ [])
three before now first last fetch how moment closed later one other failed =
    counts_then before before now (first ∷ []) ((FetchEnd fetch how moment, closed) ∷ last ∷ []) (counts_other before before first (omega arith) one)
    (counts_then before now now ((FetchEnd fetch how moment, closed) ∷ []) (last ∷ []) (counts_fetch before now fetch how moment closed later failed) (counts_other now now last (omega arith) other))

-- want of memory is no fault of the gate
not_failed : (how : Outcome) → MayFallShort how → how ≢ outcome.Failed
not_failed outcome.Memory may is = cc
not_failed (outcome.Got got) may is = cc
not_failed outcome.Failed may is = absurd may
not_failed (outcome.Refused status) may is = absurd may
not_failed (outcome.TooLong length) may is = absurd may
not_failed (outcome.Malformed taken) may is = absurd may
not_failed (outcome.Cut taken) may is = absurd may

later_counts : (before now : ℕ) (calls : List Called) → before ≤ now → CountsFaults before before calls → CountsFaults before now calls
later_counts before now calls later counts = counts_wider before before before now calls (omega arith) later counts

course_counts : (before now : ℕ) (request : Request) (moment : ℕ) (answer : Answer) (taken : ℕ) (course : Course) → before ≤ now → IsPlanned request.asked.target course → HasGateFault before now course
    → CountsFaults before now (course_calls (Admit request moment) answer taken course)
course_counts before now request moment answer taken NoRoom later planned fault = later_counts before now [] later (counts_none before)
course_counts before now request moment answer taken (Crowded count) later planned fault = later_counts before now [] later (counts_none before)
course_counts before now request moment answer taken (Full count) later planned fault = counts_other before now (Admit request moment, reply.Full count) later refl
course_counts before now request moment answer taken (Barred delivery rule at line) later planned fault =
    later_counts before now _ later (two before (Admit request moment, reply.Denied delivery rule) (finished delivery answer taken at line) refl refl)
course_counts before now request moment answer taken (Kept delivery fetch kind body at line) later planned fault =
    later_counts before now _ later (two before (Admit request moment, reply.Hit delivery fetch kind body) (finished delivery answer taken at line) refl refl)
course_counts before now request moment answer taken (Brought delivery fetch plan made how ended closed at line) later planned fault =
    three before now (Admit request moment, reply.Miss delivery fetch plan) (finished delivery answer taken at line) fetch how (capped ended) closed later refl refl fault
course_counts before now request moment answer taken (Short delivery fetch plan made how ended closed at line) later planned fault =
    three before now (Admit request moment, reply.Miss delivery fetch plan) (finished delivery answer taken at line) fetch how (capped ended) closed later refl refl (λ is. absurd (not_failed how planned.1 is))

-- all calls of a request for content
pub content_counts : (before now : ℕ) (root : Target) (asked : Asked) (place : Place) (manner : Manner) (d : Doing) (after : Next) (content : Content root asked place manner d after) → before ≤ now → HasGateFault before now content.course → CountsFaults before now d.calls
content_counts before now root asked place manner d after content later fault =
    counts_as before now _ d.calls content.calls
    (counts_then before before now (refresh_calls manner.moment content.how) _ (refreshing_counts before manner.moment content.how)
    (course_counts before now (request_of asked place manner.extra) manner.moment content.answer (length d.written) content.course later content.planned fault))
