-- What the end of a delivery tells of its answer.
use Rattle.std.proofs.Common.{◌≡◌, ℕ, ◌-◌, ◌+◌, ◌<◌, ◌==◌, Bool, true, false, List, [], ◌∷◌, ◌++◌, length, refl, sym, ◌∙◌, ap, subst, arith, cond, IsTrue, inl, inr}
use Rattle.cdni_base.specs.declared.asked.Asked.{Asked}
use Rattle.history.specs.Event.{Admit, Request, request_of}
use Rattle.location_acl.specs.declared.footprint.Place.{Place}
use Rattle.targets.specs.declared.target.Target.{Target}
use Rattle.upstream_gate.specs.declared.outcome.Outcome.{Outcome}
use Rattle.upstream_gate.specs.declared.outcome.Outcome.TheVariants as outcome
use Rattle.byte_range.specs.Span.{span_of}
use Rattle.byte_range.specs.declared.span.Span.{Span}
use Rattle.byte_range.specs.declared.span.Span.TheVariants as span
use Rattle.cdni_base.specs.Rule.{rule_status}
use Rattle.cdni_base.specs.declared.rule.Rule.{Rule}
use Rattle.cdni_base.specs.declared.rule.Rule.TheVariants as rule
use Rattle.std.proofs.lemmas.Bool.{both_ways}
use Rattle.upstream_gate.specs.Got.{GotParts, IsGot, is_got_status}
use Rattle.session_base.specs.Answer.{Answer, IsConstant}
use Rattle.session_base.specs.Content.{IsBounded, Shown, IsShown, brought_shown, content_shown, denied_shown, full_shown, part_shown, saying, whole_shown}
use Rattle.content_request.specs.Course.{Course, NoRoom, Crowded, Full, Barred, Kept, Brought, Short, Content, course_calls, IsAnswerOf, IsPlanned}
use Rattle.session_base.specs.Doing.{Called, Doing, then}
use Rattle.content_request.specs.Refresh.{Refreshing, NoBegin, NotDue, Crowded as Thronged, Gathered, Ungathered, refresh_calls}
use Rattle.session.specs.Session.{Runs}
use Rattle.content_request.specs.Telling.{TellsOf, AllTellOf, IsFailure, BroughtNothing}
use Rattle.session_base.specs.declared.constant.Constant.TheVariants as constant
use Rattle.session_base.specs.declared.ending.Ending.{Ending}
use Rattle.session_base.specs.declared.ending.Ending.TheVariants as ending
use Rattle.session_base.specs.declared.ending.Next.{Next}
use Rattle.session_base.specs.declared.ending.Next.TheVariants as next
use Rattle.session_base.specs.declared.manner.Manner.{Manner}
use Rattle.session.specs.declared.serve.TheConstants.{TURNS_MAX}

all_then : (answer : Answer) (taken : ℕ) (calls more : List Called) → AllTellOf answer taken calls → AllTellOf answer taken more → AllTellOf answer taken (calls ++ more)
all_then answer taken [] more p q = q
all_then answer taken (call ∷ calls) more p q = (p.0, all_then answer taken calls more p.1 q)

refresh_tells : (answer : Answer) (taken moment : ℕ) (how : Refreshing) → AllTellOf answer taken (refresh_calls moment how)
refresh_tells answer taken moment NoBegin = tt
refresh_tells answer taken moment (NotDue next) = (tt, tt)
refresh_tells answer taken moment (Thronged count) = (tt, tt)
refresh_tells answer taken moment (Gathered refresh made tree at line) = (tt, (tt, tt))
refresh_tells answer taken moment (Ungathered refresh made at line) = (tt, (tt, tt))

course_tells : (request : Request) (moment : ℕ) (answer : Answer) (taken : ℕ) (course : Course) → AllTellOf answer taken (course_calls (Admit request moment) answer taken course)
course_tells request moment answer taken NoRoom = tt
course_tells request moment answer taken (Crowded count) = tt
course_tells request moment answer taken (Full count) = (tt, tt)
course_tells request moment answer taken (Barred delivery rule at line) = (tt, ((refl, refl, refl), tt))
course_tells request moment answer taken (Kept delivery fetch kind body at line) = (tt, ((refl, refl, refl), tt))
course_tells request moment answer taken (Brought delivery fetch plan made how ended closed at line) = (tt, (tt, ((refl, refl, refl), tt)))
course_tells request moment answer taken (Short delivery fetch plan made how ended closed at line) = (tt, (tt, ((refl, refl, refl), tt)))

pub content_tells : (root : Target) (asked : Asked) (place : Place) (manner : Manner) (d : Doing) (after : Next) (content : Content root asked place manner d after)
    → AllTellOf content.answer (length d.written) d.calls
content_tells root asked place manner d after content =
    subst (AllTellOf content.answer (length d.written)) (sym content.calls)
    (all_then content.answer (length d.written) (refresh_calls manner.moment content.how) _ (refresh_tells content.answer (length d.written) manner.moment content.how)
    (course_tells (request_of asked place manner.extra) manner.moment content.answer (length d.written) content.course))

-- a bad gateway
failure_status : (manner : Manner) (how : Outcome) (answer : Answer) → IsFailure how → IsShown (brought_shown manner how) answer → answer.status ≡ 502
failure_status manner (outcome.Got got) answer failed shown = absurd failed
failure_status manner (outcome.Refused status) answer failed shown = ap (λ (a : Answer). a.status) shown.is
failure_status manner (outcome.TooLong size) answer failed shown = ap (λ (a : Answer). a.status) shown.is
failure_status manner (outcome.Malformed taken) answer failed shown = ap (λ (a : Answer). a.status) shown.is
failure_status manner (outcome.Cut taken) answer failed shown = ap (λ (a : Answer). a.status) shown.is
failure_status manner outcome.Failed answer failed shown = ap (λ (a : Answer). a.status) shown.is
failure_status manner outcome.Memory answer failed shown = absurd failed

pub nothing_is_502 : (manner : Manner) (course : Course) (answer : Answer) → BroughtNothing course → IsAnswerOf manner course answer → answer.status ≡ 502
nothing_is_502 manner (Brought delivery fetch plan made how ended closed at line) answer failed shown = failure_status manner how answer failed shown
nothing_is_502 manner NoRoom answer failed shown = absurd failed
nothing_is_502 manner (Crowded count) answer failed shown = absurd failed
nothing_is_502 manner (Full count) answer failed shown = absurd failed
nothing_is_502 manner (Barred delivery rule at line) answer failed shown = absurd failed
nothing_is_502 manner (Kept delivery fetch kind body at line) answer failed shown = absurd failed
nothing_is_502 manner (Short delivery fetch plan made how ended closed at line) answer failed shown = absurd failed

-- ---- and nothing else is one

other_rule : (rule : Rule) → rule_status rule ≡ 502 → ⊥
other_rule rule.Method e = omega (arith, e)
other_rule rule.NoMetadata e = omega (arith, e)
other_rule (rule.MetadataInvalid trigger) e = omega (arith, e)
other_rule rule.NoHost e = omega (arith, e)
other_rule (rule.Unenforceable kind) e = omega (arith, e)
other_rule (rule.Location number) e = omega (arith, e)
other_rule (rule.Time number) e = omega (arith, e)
other_rule (rule.Protocol number) e = omega (arith, e)
other_rule rule.NoSource e = omega (arith, e)

other_part : (manner : Manner) (kind body : List ℕ) (part : Span) → (part_shown manner kind body part).0.status ≡ 502 → ⊥
other_part manner kind body span.Whole e = omega (arith, e)
other_part manner kind body (span.Part first last) e = omega (arith, e)
other_part manner kind body span.Unsatisfiable e = omega (arith, e)

other_content : (manner : Manner) (kind body : List ℕ) → (content_shown manner kind body).0.status ≡ 502 → ⊥
unfolding content_shown
other_content manner kind body = elim (manner.is_head) as (λ (b : Bool). (cond b (record (saying manner 200 kind (length body)) { ranges = true }, []) (part_shown manner kind body (span_of manner.want (length body)))).0.status ≡ 502 → ⊥) [
  | true ↦ λ e. omega (arith, e)
  | false ↦ other_part manner kind body (span_of manner.want (length body))
]

shown_status : (shown : Shown) (answer : Answer) → IsShown shown answer → answer.status ≡ 502 → shown.0.status ≡ 502
shown_status shown answer is e = sym (ap (λ (a : Answer). a.status) is.is) ∙ e

constant_other : (answer : Answer) → IsConstant constant.Unavailable answer → answer.status ≡ 502 → ⊥
constant_other answer is e = omega (arith, ap (λ (a : Answer). a.status) is, e)

-- what an origin gave is answered with its status, or as content
got_status : (status : ℕ) → IsTrue (is_got_status status) → status ≡ 502 → ⊥
got_status status is e = both_ways _ (subst (λ (n : ℕ). is_got_status n ≡ false) (sym e) refl) is

got_other : (manner : Manner) (got : GotParts) → IsGot got → (brought_shown manner (outcome.Got got)).0.status ≡ 502 → ⊥
got_other manner got is = elim (got.status == 200) as (λ (b : Bool). (cond b (content_shown manner got.kind got.body) (whole_shown manner got.status got.kind got.body)).0.status ≡ 502 → ⊥) [
  | true ↦ other_content manner got.kind got.body
  | false ↦ got_status got.status is.0
]

failed_of : (manner : Manner) (how : Outcome) (answer : Answer) → IsBounded how → (how ≡ outcome.Memory → ⊥) → IsShown (brought_shown manner how) answer → answer.status ≡ 502 → IsFailure how
failed_of manner (outcome.Got got) answer bounded other shown e = absurd (got_other manner got bounded (shown_status (brought_shown manner (outcome.Got got)) answer shown e))
failed_of manner (outcome.Refused status) answer bounded other shown e = tt
failed_of manner (outcome.TooLong size) answer bounded other shown e = tt
failed_of manner (outcome.Malformed taken) answer bounded other shown e = tt
failed_of manner (outcome.Cut taken) answer bounded other shown e = tt
failed_of manner outcome.Failed answer bounded other shown e = tt
failed_of manner outcome.Memory answer bounded other shown e = absurd (other refl)

pub only_nothing_is_502 : (manner : Manner) (target : Target) (course : Course) (answer : Answer) → IsPlanned target course → IsAnswerOf manner course answer → answer.status ≡ 502 → BroughtNothing course
only_nothing_is_502 manner target (Brought delivery fetch plan made how ended closed at line) answer planned shown e = failed_of manner how answer planned.2 planned.1 shown e
only_nothing_is_502 manner target NoRoom answer planned is e = constant_other answer is e
only_nothing_is_502 manner target (Crowded count) answer planned shown e = omega (arith, shown_status (full_shown manner count) answer shown e)
only_nothing_is_502 manner target (Full count) answer planned shown e = omega (arith, shown_status (full_shown manner count) answer shown e)
only_nothing_is_502 manner target (Barred delivery rule at line) answer planned shown e = other_rule rule (shown_status (denied_shown manner rule) answer shown e)
only_nothing_is_502 manner target (Kept delivery fetch kind body at line) answer planned shown e = other_content manner kind body (shown_status (content_shown manner kind body) answer shown e)
only_nothing_is_502 manner target (Short delivery fetch plan made how ended closed at line) answer planned is e = constant_other answer is e
