-- What passes in a request for content.
use Rattle.std.proofs.Common.{IfNone, ◌≡◌, ◌≢◌, ℕ, Bool, true, false, List, [], ◌∷◌, ◌++◌, length, refl, sym, ◌∙◌, ap, subst, arith, Some, None, append-nil}
use Rattle.std.specs.Io.KnownBytes.{Appends}
use Rattle.std.specs.declared.option.Option.{Option}
use Rattle.cdni_base.specs.declared.asked.Asked.{Asked}
use Rattle.edge_base.specs.Clock.{Grows}
use Rattle.history.specs.After.{begun_delivery, begun_fetch}
use Rattle.history.specs.Event.{Event, History, Admit, FetchEnd, Finish, request_of}
use Rattle.history.specs.Laws.{ends_delivery, ends_fetch}
use Rattle.history.specs.declared.reply.Reply.{Reply}
use Rattle.history.specs.declared.reply.Reply.TheVariants as reply
use Rattle.location_acl.specs.declared.footprint.Place.{Place}
use Rattle.node_core.specs.Home.{Who, IsAnswered, IsUnanswered}
use Rattle.targets.specs.declared.endpoint.Endpoint.{Endpoint}
use Rattle.targets.specs.declared.target.Target.{Target}
use Rattle.upstream_gate.specs.Outcome.{Exchange}
use Rattle.upstream_gate.specs.Plan.{origin_form, Asked as IsAsked}
use Rattle.upstream_gate.specs.declared.outcome.Outcome.{Outcome}
use Rattle.upstream_gate.specs.declared.outcome.Outcome.TheVariants as outcome
use Rattle.upstream_gate.proofs.PlanLemmas.{grows_none}
use Rattle.session_base.specs.Answer.{Answer, Says, IsConstant, Takes}
use Rattle.session_base.specs.Content.{IsShown, denied_shown, full_shown, content_shown}
use Rattle.content_request.specs.Course.{Course, NoRoom, Crowded, Full, Barred, Kept, Brought, Short, finished, course_calls, course_moments, course_exchanges, IsPlanned, IsAnswerOf, is_short, Follows, Delivers, Content, AnswersFetched, DeliversFetched, HasGateFault}
use Rattle.session_base.specs.Doing.{Called, Doing, nothing, then, Makes, Any, Does}
use Rattle.session_base.specs.Ending.{next_of}
use Rattle.session_base.specs.Moment.{capped}
use Rattle.session_base.specs.Open.{OpenDelivery, OpenFetch, BothOpen}
use Rattle.content_request.specs.Refresh.{Refreshes, refresh_calls, refresh_moments, refresh_exchanges}
use Rattle.session_base.specs.declared.constant.Constant.TheVariants as constant
use Rattle.session_base.specs.declared.ending.Ending.TheVariants as ending
use Rattle.session_base.specs.declared.ending.Next.{Next}
use Rattle.session_base.specs.declared.ending.Next.TheVariants as next
use Rattle.edge_base.specs.Causes.{Rose}
use Rattle.std.specs.Prelude.{◌≤◌, IfSome}
use Rattle.session_base.specs.declared.manner.Manner.{Manner}
use Rattle.content_request.specs.declared.refresh.Refreshed.{Refreshed}
use Rattle.content_request.specs.declared.refresh.Refreshed.TheVariants as refreshed
use Rattle.session_base.specs.declared.send.Sent.{Sent}
use Rattle.session_base.proofs.DoingLemmas.{does_calls, does_nothing, does_on, does_then, does_written, for_who, made_as, made_none, made_one, told_one}
use Rattle.session_base.proofs.OpenLemmas.{is_opened, stays_open, own_delivery, own_fetch}

-- what is told of an answer is what its delivery is finished with
pub finish_is : (Is : Answer → Type 0) (k k' : Option (List ℕ)) (sent : Sent) (s : Says Is k k' sent) (delivery at : ℕ) (line : Reply)
    → (Finish delivery sent.status sent.taken sent.entity (capped at), line) ≡ finished delivery s.answer (length s.written) at line
finish_is Is k k' sent s delivery at line =
    ap (λ (n : ℕ). (Finish delivery n sent.taken sent.entity (capped at), line)) s.counts.status
    ∙ ap (λ (n : ℕ). (Finish delivery s.answer.status n sent.entity (capped at), line)) s.counts.taken
    ∙ ap (λ (n : ℕ). (Finish delivery s.answer.status (length s.written) n (capped at), line)) s.counts.entity

-- an answer was written, and its delivery finished
abbrev finishing : (Is : Answer → Type 0) (k k' : Option (List ℕ)) (sent : Sent) (s : Says Is k k' sent) (delivery at : ℕ) (line : Reply) → Doing
finishing Is k k' sent s delivery at line = record { bytes = []; moments = at ∷ []; exchanges = []; written = s.written; calls = finished delivery s.answer (length s.written) at line ∷ [] }

finishes : (who : Who) (a b : History → Type 0) (g g' : Option (List ℕ)) (t : Option (List Exchange)) (Is : Answer → Type 0) (k k' : Option (List ℕ)) (sent : Sent) (s : Says Is k k' sent) (delivery at : ℕ) (line : Reply)
    → Grows g g' (at ∷ []) → (v : Who) → v ≡ who → Makes v (OpenDelivery v delivery) a b ((Finish delivery sent.status sent.taken sent.entity (capped at), line) ∷ [])
    → Does who (OpenDelivery who delivery) a b g g' t t k k' (finishing Is k k' sent s delivery at line)
finishes who a b g g' t Is k k' sent s delivery at line grows v same makes = record {
  moments = grows;
  exchanges = grows_none t;
  written = s.put;
  calls = subst (Makes who (OpenDelivery who delivery) a b) (ap (λ x. x ∷ []) (finish_is Is k k' sent s delivery at line))
      (for_who v who same (λ (w : Who). OpenDelivery w delivery) a b ((Finish delivery sent.status sent.taken sent.entity (capped at), line) ∷ []) makes);
}

-- the end of a fetch, and then the delivery's
pub fetched : (who : Who) (a b c : History → Type 0) (g g' g'' : Option (List ℕ)) (Is : Answer → Type 0) (k k' : Option (List ℕ)) (sent : Sent) (s : Says Is k k' sent) (manner : Manner) (delivery fetch : ℕ) (how : Outcome) (short : Bool) (ended : ℕ) (closed : Reply) (at : ℕ) (line : Reply) (after : Next)
    → after ≡ next_of manner.leaves short sent.fault → ((answer : Answer) → Is answer → AnswersFetched manner how short answer)
    → Grows g g' (ended ∷ []) → Makes who (OpenFetch who fetch) a b ((FetchEnd fetch how (capped ended), closed) ∷ [])
    → Grows g' g'' (at ∷ []) → (v : Who) → v ≡ who → Makes v (OpenDelivery v delivery) b c ((Finish delivery sent.status sent.taken sent.entity (capped at), line) ∷ [])
    → (d : Doing) × DeliversFetched manner delivery fetch how d after × Does who (BothOpen who delivery fetch) a c g g'' None None k k' d
fetched who a b c g g' g'' Is k k' sent s manner delivery fetch how short ended closed at line after goes answers first ends second v same makes =
    let end : Called = (FetchEnd fetch how (capped ended), closed) in
    let one : Doing = record { bytes = []; moments = ended ∷ []; exchanges = []; written = []; calls = end ∷ [] } in
    let did : Does who (BothOpen who delivery fetch) a b g g' None None k k one = record {
      moments = first;
      exchanges = grows_none {A = Exchange} None;
      written = (does_nothing who Any a g None k).written;
      calls = λ h saw need. ends h saw need.1;
    } in
    let two = finishing Is k k' sent s delivery at line in (
      then one two,
      record {
        answer = s.answer;
        short = short;
        fault = sent.fault;
        ended = ended;
        closed = closed;
        at = at;
        line = line;
        answered = answers s.answer s.is;
        takes = s.takes;
        bytes = refl;
        moments = refl;
        exchanges = refl;
        calls = refl;
        goes = goes;
      },
      does_then who (BothOpen who delivery fetch) (OpenDelivery who delivery) a b c g g' g'' None None None k k k' one two did (finishes who b c g' g'' None Is k k' sent s delivery at line second v same makes)
          (λ h last need told. stays_open begun_delivery ends_delivery own_delivery who delivery (end ∷ []) h last refl need.0 told),
    )

-- what passes from the admission on
abbrev pub Delivered : Who → (History → Type 0) → (History → Type 0) → Option (List ℕ) → Option (List ℕ) → Option (List Exchange) → Option (List Exchange) → Option (List ℕ) → Option (List ℕ) → ℕ → ℕ → Asked → Place → Manner → Next → Type 0
Delivered who a c g g' t t' k k' before now asked place manner after =
    (d : Doing) × (course : Course) × Follows refreshed.Ready course × Delivers asked place manner course d after × HasGateFault before now course × Does who Any a c g g' t t' k k' d

-- the admission opened a delivery, which was answered at once
answered_at_once : (who : Who) (a b c : History → Type 0) (g g' : Option (List ℕ)) (t : Option (List Exchange)) (Is : Answer → Type 0) (k k' : Option (List ℕ)) (sent : Sent) (s : Says Is k k' sent) (before now : ℕ) (asked : Asked) (place : Place) (manner : Manner) (delivery at : ℕ) (line r : Reply) (course : Course) (after : Next)
    → after ≡ next_of manner.leaves false sent.fault → Follows refreshed.Ready course → IsPlanned asked.target course → IsAnswerOf manner course s.answer → HasGateFault before now course → course_moments course ≡ at ∷ [] → course_exchanges course ≡ []
    → course_calls (Admit (request_of asked place manner.extra) manner.moment) s.answer (length s.written) course ≡ (Admit (request_of asked place manner.extra) manner.moment, r) ∷ finished delivery s.answer (length s.written) at line ∷ [] → is_short course ≡ false
    → begun_delivery r ≡ Some delivery → Makes who Any a b ((Admit (request_of asked place manner.extra) manner.moment, r) ∷ [])
    → Grows g g' (at ∷ []) → (v : Who) → v ≡ who → Makes v (OpenDelivery v delivery) b c ((Finish delivery sent.status sent.taken sent.entity (capped at), line) ∷ [])
    → Delivered who a c g g' t t k k' before now asked place manner after
answered_at_once who a b c g g' t Is k k' sent s before now asked place manner delivery at line r course after goes admits planned answered caused moments exchanges calls short opens admitted grows v same makes =
    let first : Called = (Admit (request_of asked place manner.extra) manner.moment, r) in
    let one : Doing = record nothing { calls = first ∷ [] } in
    let two = finishing Is k k' sent s delivery at line in (
      then one two,
      course,
      admits,
      record {
        answer = s.answer;
        fault = sent.fault;
        planned = planned;
        answered = answered;
        takes = s.takes;
        bytes = refl;
        moments = sym moments;
        exchanges = sym exchanges;
        calls = sym calls;
        goes = goes ∙ ap (λ b. next_of manner.leaves b sent.fault) (sym short);
      },
      caused,
      does_then who Any (OpenDelivery who delivery) a b c g g g' t t t k k k' one two (does_calls who Any a b g t k (first ∷ []) admitted) (finishes who b c g g' t Is k k' sent s delivery at line grows v same makes)
          (λ h last need told. is_opened begun_delivery ends_delivery own_delivery who delivery first h last opens told),
    )

pub barred : (who : Who) (a b c : History → Type 0) (g g' : Option (List ℕ)) (t : Option (List Exchange)) (k k' : Option (List ℕ)) (sent : Sent) (before now : ℕ) (asked : Asked) (place : Place) (manner : Manner) (delivery : ℕ) (rule : _) (at : ℕ) (line : Reply) (after : Next)
    → Says (IsShown (denied_shown manner rule)) k k' sent → after ≡ next_of manner.leaves false sent.fault → Makes who Any a b ((Admit (request_of asked place manner.extra) manner.moment, reply.Denied delivery rule) ∷ [])
    → Grows g g' (at ∷ []) → (v : Who) → v ≡ who → Makes v (OpenDelivery v delivery) b c ((Finish delivery sent.status sent.taken sent.entity (capped at), line) ∷ [])
    → Delivered who a c g g' t t k k' before now asked place manner after
barred who a b c g g' t k k' sent before now asked place manner delivery rule at line after s goes admitted grows v same makes =
    answered_at_once who a b c g g' t _ k k' sent s before now asked place manner delivery at line (reply.Denied delivery rule) (Barred delivery rule at line) after goes tt tt s.is tt refl refl refl refl refl admitted grows v same makes

pub kept : (who : Who) (a b c : History → Type 0) (g g' : Option (List ℕ)) (t : Option (List Exchange)) (k k' : Option (List ℕ)) (sent : Sent) (before now : ℕ) (asked : Asked) (place : Place) (manner : Manner) (delivery fetch : ℕ) (kind body : List ℕ) (at : ℕ) (line : Reply) (after : Next)
    → Says (IsShown (content_shown manner kind body)) k k' sent → after ≡ next_of manner.leaves false sent.fault → Makes who Any a b ((Admit (request_of asked place manner.extra) manner.moment, reply.Hit delivery fetch kind body) ∷ [])
    → Grows g g' (at ∷ []) → (v : Who) → v ≡ who → Makes v (OpenDelivery v delivery) b c ((Finish delivery sent.status sent.taken sent.entity (capped at), line) ∷ [])
    → Delivered who a c g g' t t k k' before now asked place manner after
kept who a b c g g' t k k' sent before now asked place manner delivery fetch kind body at line after s goes admitted grows v same makes =
    answered_at_once who a b c g g' t _ k k' sent s before now asked place manner delivery at line (reply.Hit delivery fetch kind body) (Kept delivery fetch kind body at line) after goes tt tt s.is tt refl refl refl refl refl admitted grows v same makes

-- no delivery was opened
unopened : (who : Who) (a b : History → Type 0) (g : Option (List ℕ)) (t : Option (List Exchange)) (Is : Answer → Type 0) (k k' : Option (List ℕ)) (sent : Sent) (s : Says Is k k' sent) (before now : ℕ) (asked : Asked) (place : Place) (manner : Manner) (course : Course) (calls : List Called) (after : Next)
    → Follows refreshed.Ready course → IsPlanned asked.target course → IsAnswerOf manner course s.answer → HasGateFault before now course → course_moments course ≡ [] → course_exchanges course ≡ []
    → course_calls (Admit (request_of asked place manner.extra) manner.moment) s.answer (length s.written) course ≡ calls → after ≡ next_of manner.leaves (is_short course) sent.fault → Makes who Any a b calls
    → Delivered who a b g g t t k k' before now asked place manner after
unopened who a b g t Is k k' sent s before now asked place manner course calls after admits planned answered caused moments exchanges same goes makes = (
  record { bytes = []; moments = []; exchanges = []; written = s.written; calls = calls },
  course,
  admits,
  record {
    answer = s.answer;
    fault = sent.fault;
    planned = planned;
    answered = answered;
    takes = s.takes;
    bytes = refl;
    moments = sym moments;
    exchanges = sym exchanges;
    calls = sym same;
    goes = goes;
  },
  caused,
  record { moments = grows_none g; exchanges = grows_none t; written = s.put; calls = makes },
)

pub full : (who : Who) (a b : History → Type 0) (g : Option (List ℕ)) (t : Option (List Exchange)) (k k' : Option (List ℕ)) (sent : Sent) (before now : ℕ) (asked : Asked) (place : Place) (manner : Manner) (count : ℕ) (after : Next)
    → Says (IsShown (full_shown manner count)) k k' sent → after ≡ next_of manner.leaves false sent.fault → Makes who Any a b ((Admit (request_of asked place manner.extra) manner.moment, reply.Full count) ∷ [])
    → Delivered who a b g g t t k k' before now asked place manner after
full who a b g t k k' sent before now asked place manner count after s goes makes =
    unopened who a b g t _ k k' sent s before now asked place manner (Full count) ((Admit (request_of asked place manner.extra) manner.moment, reply.Full count) ∷ []) after tt tt s.is tt refl refl refl goes makes

-- want of memory decides before the request does
short_goes : (leaves fault : Bool) → next_of false true fault ≡ next_of leaves true fault
short_goes true true = refl
short_goes true false = refl
short_goes false true = refl
short_goes false false = refl

pub no_room : (who : Who) (a b : History → Type 0) (g : Option (List ℕ)) (t : Option (List Exchange)) (k k' : Option (List ℕ)) (sent : Sent) (before now : ℕ) (asked : Asked) (place : Place) (manner : Manner) (after : Next)
    → Says (IsConstant constant.Unavailable) k k' sent → after ≡ next_of false true sent.fault → Makes who Any a b []
    → Delivered who a b g g t t k k' before now asked place manner after
no_room who a b g t k k' sent before now asked place manner after s goes makes =
    unopened who a b g t _ k k' sent s before now asked place manner NoRoom [] after tt tt s.is tt refl refl refl (goes ∙ short_goes manner.leaves sent.fault) makes

-- a fetch was asked for, and ended
course_of : (manner : Manner) (delivery fetch : ℕ) (plan : List Endpoint) (made : List Exchange) (how : Outcome) (short : Bool) (ended : ℕ) (closed : Reply) (at : ℕ) (line : Reply) → Course
course_of manner delivery fetch plan made how true ended closed at line = Short delivery fetch plan made how ended closed at line
course_of manner delivery fetch plan made how false ended closed at line = Brought delivery fetch plan made how ended closed at line

missed_with : (who : Who) (a b c : History → Type 0) (g g' : Option (List ℕ)) (t t' : Option (List Exchange)) (k k' : Option (List ℕ)) (before now : ℕ) (asked : Asked) (place : Place) (manner : Manner) (delivery fetch : ℕ) (plan : List Endpoint) (made : List Exchange) (how : Outcome) (d : Doing) (after : Next) (course : Course)
    → (f : DeliversFetched manner delivery fetch how d after)
    → Follows refreshed.Ready course → IsPlanned asked.target course → IsAnswerOf manner course f.answer → HasGateFault before now course → course_moments course ≡ f.ended ∷ f.at ∷ [] → course_exchanges course ≡ made
    → ((taken : ℕ) → course_calls (Admit (request_of asked place manner.extra) manner.moment) f.answer taken course ≡ (Admit (request_of asked place manner.extra) manner.moment, reply.Miss delivery fetch plan) ∷ (FetchEnd fetch how (capped f.ended), f.closed) ∷ finished delivery f.answer taken f.at f.line ∷ [])
    → is_short course ≡ f.short → Makes who Any a b ((Admit (request_of asked place manner.extra) manner.moment, reply.Miss delivery fetch plan) ∷ []) → Grows t t' made
    → (v : Who) → v ≡ who → Does v (BothOpen v delivery fetch) b c g g' None None k k' d
    → Delivered who a c g g' t t' k k' before now asked place manner after
missed_with who a b c g g' t t' k k' before now asked place manner delivery fetch plan made how d after course f admits planned answered caused moments exchanges calls short admitted asks v same does =
    let first : Called = (Admit (request_of asked place manner.extra) manner.moment, reply.Miss delivery fetch plan) in
    let one : Doing = record { bytes = []; moments = []; exchanges = made; written = []; calls = first ∷ [] } in
    let did : Does who Any a b g g t t' k k one = record { moments = grows_none g; exchanges = asks; written = (does_nothing who Any a g t k).written; calls = admitted } in
    let more : Does who (BothOpen who delivery fetch) b c g g' t' t' k k' d = record {
      moments = does.moments;
      exchanges = subst (Grows t' t') (sym f.exchanges) (grows_none t');
      written = does.written;
      calls = for_who v who same (λ (w : Who). BothOpen w delivery fetch) b c d.calls does.calls;
    } in (
      then one d,
      course,
      admits,
      record {
        answer = f.answer;
        fault = f.fault;
        planned = planned;
        answered = answered;
        takes = f.takes;
        bytes = f.bytes;
        moments = f.moments ∙ sym moments;
        exchanges = ap (λ x. made ++ x) f.exchanges ∙ append-nil made ∙ sym exchanges;
        calls = ap (λ x. first ∷ x) f.calls ∙ sym (calls (length d.written));
        goes = f.goes ∙ ap (λ b. next_of manner.leaves b f.fault) (sym short);
      },
      caused,
      does_then who Any (BothOpen who delivery fetch) a b c g g g' t t' t' k k k' one d did more (λ h last need told. (
        is_opened begun_delivery ends_delivery own_delivery who delivery first h last refl told,
        is_opened begun_fetch ends_fetch own_fetch who fetch first h last refl told,
      )),
    )

pub missed : (who : Who) (a b c : History → Type 0) (g g' : Option (List ℕ)) (t t' : Option (List Exchange)) (k k' : Option (List ℕ)) (before now : ℕ) (asked : Asked) (place : Place) (manner : Manner) (delivery fetch : ℕ) (plan : List Endpoint) (made : List Exchange) (how : Outcome) (d : Doing) (after : Next)
    → IsAsked (origin_form asked.target) plan made how → HasGateFault before now (Brought delivery fetch plan made how 0 reply.Deleted 0 reply.Deleted)
    → Makes who Any a b ((Admit (request_of asked place manner.extra) manner.moment, reply.Miss delivery fetch plan) ∷ []) → Grows t t' made
    → DeliversFetched manner delivery fetch how d after → (v : Who) → v ≡ who → Does v (BothOpen v delivery fetch) b c g g' None None k k' d
    → Delivered who a c g g' t t' k k' before now asked place manner after
missed who a b c g g' t t' k k' before now asked place manner delivery fetch plan made how d after planned caused admitted asks f v same does = elim (f.short) as (λ x. f.short ≡ x → Delivered who a c g g' t t' k k' before now asked place manner after) [
  | true ↦ λ e. let short = subst (λ x. AnswersFetched manner how x f.answer) e f.answered in missed_with who a b c g g' t t' k k' before now asked place manner delivery fetch plan made how d after (Short delivery fetch plan made how f.ended f.closed f.at f.line) f tt (planned, short.0) short.1 tt refl refl (λ taken. refl) (sym e) admitted asks v same does
  | false ↦ λ e. let answered = subst (λ x. AnswersFetched manner how x f.answer) e f.answered in
      missed_with who a b c g g' t t' k k' before now asked place manner delivery fetch plan made how d after (Brought delivery fetch plan made how f.ended f.closed f.at f.line) f tt (planned, answered.0, answered.1) answered.2 caused refl refl (λ taken. refl) (sym e) admitted asks v same does
] refl

-- ---- a refresh, and then the delivery

-- after a refresh that lets the request be admitted
pub content_ready : (who : Who) (a b c : History → Type 0) (g g' g'' : Option (List ℕ)) (t t' t'' : Option (List Exchange)) (k k' : Option (List ℕ)) (root : Target) (asked : Asked) (place : Place) (manner : Manner) (d e : Doing) (how : Refreshed) (course : Course) (after : Next)
    → (r : Refreshes root manner.moment d how) → Follows how course → Delivers asked place manner course e after
    → Does who Any a b g g' t t' None None d → Does who Any b c g' g'' t' t'' k k' e
    → (all : Doing) × (x : Content root asked place manner all after) × (x.course ≡ course) × Does who Any a c g g'' t t'' k k' all
content_ready who a b c g g' g'' t t' t'' k k' root asked place manner d e how course after r follows v did more =
    let w : d.written ++ e.written ≡ e.written = ap (λ (x : Doing). x.written ++ e.written) r.is in
    let one : Does who Any a b g g' t t' k k d = record {
      moments = did.moments;
      exchanges = did.exchanges;
      written = subst (λ (x : Doing). Appends k k x.written) (sym r.is) (does_nothing who Any a g t k).written;
      calls = did.calls;
    } in (
      then d e,
      record {
        how = r.how;
        gathered = r.gathered;
        course = course;
        follows = subst (λ (x : Refreshed). Follows x course) r.result_is follows;
        answer = v.answer;
        fault = v.fault;
        planned = v.planned;
        answered = v.answered;
        takes = subst (λ (x : List ℕ). Takes v.answer x v.fault) (sym w) v.takes;
        bytes = ap (λ (x : Doing). x.bytes ++ e.bytes) r.is ∙ v.bytes;
        moments = ap (λ (x : Doing). x.moments ++ e.moments) r.is ∙ ap (λ x. refresh_moments r.how ++ x) v.moments;
        exchanges = ap (λ (x : Doing). x.exchanges ++ e.exchanges) r.is ∙ ap (λ x. refresh_exchanges r.how ++ x) v.exchanges;
        calls = ap (λ (x : Doing). x.calls ++ e.calls) r.is ∙ ap (λ x. refresh_calls manner.moment r.how ++ x) (v.calls ∙ ap (λ (x : List ℕ). course_calls (Admit (request_of asked place manner.extra) manner.moment) v.answer (length x) course) (sym w));
        goes = v.goes;
      },
      refl,
      does_on who Any a b c g g' g'' t t' t'' k k k' d e one more,
    )

-- after a refresh that does not
unadmitted : (who : Who) (a : History → Type 0) (g : Option (List ℕ)) (t : Option (List Exchange)) (Is : Answer → Type 0) (k k' : Option (List ℕ)) (sent : Sent) (s : Says Is k k' sent) (asked : Asked) (place : Place) (manner : Manner) (course : Course) (after : Next)
    → IsPlanned asked.target course → IsAnswerOf manner course s.answer → course_moments course ≡ [] → course_exchanges course ≡ []
    → ((taken : ℕ) → course_calls (Admit (request_of asked place manner.extra) manner.moment) s.answer taken course ≡ []) → after ≡ next_of manner.leaves (is_short course) sent.fault
    → (d : Doing) × Delivers asked place manner course d after × Does who Any a a g g t t k k' d
unadmitted who a g t Is k k' sent s asked place manner course after planned answered moments exchanges calls goes = (
  record nothing { written = s.written },
  record {
    answer = s.answer;
    fault = sent.fault;
    planned = planned;
    answered = answered;
    takes = s.takes;
    bytes = refl;
    moments = sym moments;
    exchanges = sym exchanges;
    calls = sym (calls (length s.written));
    goes = goes;
  },
  does_written who Any a g t k k' s.written s.put,
)

pub content_full : (who : Who) (a b : History → Type 0) (g g' : Option (List ℕ)) (t t' : Option (List Exchange)) (k k' : Option (List ℕ)) (sent : Sent) (before now : ℕ) (root : Target) (asked : Asked) (place : Place) (manner : Manner) (d : Doing) (count : ℕ) (after : Next)
    → Says (IsShown (full_shown manner count)) k k' sent → after ≡ next_of manner.leaves false sent.fault → Refreshes root manner.moment d (refreshed.Full count) → Does who Any a b g g' t t' None None d
    → (all : Doing) × (x : Content root asked place manner all after) × HasGateFault before now x.course × Does who Any a b g g' t t' k k' all
content_full who a b g g' t t' k k' sent before now root asked place manner d count after s goes r did =
    let v = unadmitted who b g' t' _ k k' sent s asked place manner (Crowded count) after tt s.is refl refl (λ taken. refl) goes in
    let x = content_ready who a b b g g' g' t t' t' k k' root asked place manner d v.0 (refreshed.Full count) (Crowded count) after r refl v.1 did v.2 in
    (x.0, x.1, subst (HasGateFault before now) (sym x.2) tt, x.3)

pub content_short : (who : Who) (a b : History → Type 0) (g g' : Option (List ℕ)) (t t' : Option (List Exchange)) (k k' : Option (List ℕ)) (sent : Sent) (before now : ℕ) (root : Target) (asked : Asked) (place : Place) (manner : Manner) (d : Doing) (after : Next)
    → Says (IsConstant constant.Unavailable) k k' sent → after ≡ next_of false true sent.fault → Refreshes root manner.moment d refreshed.Memory → Does who Any a b g g' t t' None None d
    → (all : Doing) × (x : Content root asked place manner all after) × HasGateFault before now x.course × Does who Any a b g g' t t' k k' all
content_short who a b g g' t t' k k' sent before now root asked place manner d after s goes r did =
    let v = unadmitted who b g' t' _ k k' sent s asked place manner NoRoom after tt s.is refl refl (λ taken. refl) (goes ∙ short_goes manner.leaves sent.fault) in
    let x = content_ready who a b b g g' g' t t' t' k k' root asked place manner d v.0 refreshed.Memory NoRoom after r refl v.1 did v.2 in
    (x.0, x.1, subst (HasGateFault before now) (sym x.2) tt, x.3)

pub content_delivered : (who : Who) (a b c : History → Type 0) (g g' g'' : Option (List ℕ)) (t t' t'' : Option (List Exchange)) (k k' : Option (List ℕ)) (before middle now : ℕ) (root : Target) (asked : Asked) (place : Place) (manner : Manner) (d : Doing) (after : Next)
    → Refreshes root manner.moment d refreshed.Ready → Does who Any a b g g' t t' None None d → ((course : Course) → HasGateFault middle now course → HasGateFault before now course)
    → (v : Who) → v ≡ who → Delivered v b c g' g'' t' t'' k k' middle now asked place manner after
    → (all : Doing) × (x : Content root asked place manner all after) × HasGateFault before now x.course × Does who Any a c g g'' t t'' k k' all
content_delivered who a b c g g' g'' t t' t'' k k' before middle now root asked place manner d after r did later w same delivered =
    let v = subst (λ (x : Who). Delivered x b c g' g'' t' t'' k k' middle now asked place manner after) same delivered in
    let x = content_ready who a b c g g' g'' t t' t'' k k' root asked place manner d v.0 refreshed.Ready v.1 after r v.2 v.3 did v.5 in
    (x.0, x.1, subst (HasGateFault before now) (sym x.2) (later v.1 v.4), x.3)

-- ---- causes

pub write_fault : (leaves short fault : Bool) → next_of leaves short fault ≡ next.Stops ending.WriteFault → fault ≡ true
write_fault leaves short true e = refl
write_fault leaves true false e = cc
write_fault true false false e = cc
write_fault false false false e = cc

pub some_given : (r : Option Outcome) (shown how : Outcome) → r ≡ Some shown → IfSome r (λ s. (s ≡ how) × (how ≢ outcome.Memory)) → (shown ≡ how) × (how ≢ outcome.Memory)
some_given r shown how is given = subst (λ (x : Option Outcome). IfSome x (λ s. (s ≡ how) × (how ≢ outcome.Memory))) is given

pub none_given : (r : Option Outcome) (P : Type 0) → r ≡ None → IfNone r P → P
none_given r P is given = subst (λ (x : Option Outcome). IfNone x P) is given

rose_later : (before middle now : ℕ) → before ≤ middle → Rose middle now → Rose before now
rose_later before middle now least rose = omega (arith, least, rose)

-- a count that rose since rose
pub gate_later : (before middle now : ℕ) → before ≤ middle → (course : Course) → HasGateFault middle now course → HasGateFault before now course
gate_later before middle now least NoRoom p = tt
gate_later before middle now least (Crowded count) p = tt
gate_later before middle now least (Full count) p = tt
gate_later before middle now least (Barred delivery rule at line) p = tt
gate_later before middle now least (Kept delivery fetch kind body at line) p = tt
gate_later before middle now least (Brought delivery fetch plan made how ended closed at line) p = λ e. rose_later before middle now least (p e)
gate_later before middle now least (Short delivery fetch plan made how ended closed at line) p = tt
