-- What passes in a request of the upstream CDN.
use Rattle.std.proofs.Common.{◌≡◌, ◌≢◌, ℕ, Bool, arith, true, false, List, [], ◌∷◌, refl, sym, ◌∙◌, ap, subst, None, Some, Ok, Err, Option, Result, IfOk, is_none, inl, inr, IsTrue}
use Rattle.std.specs.Prelude.{IfSome}
use Rattle.std.specs.Option.{option_map_or}
use Rattle.std.specs.Result.{result_ok}
use Rattle.std.specs.Io.KnownBytes.{Appends}
use Rattle.std.proofs.KnownBytes.{Appends-nil}
use Rattle.std.proofs.lemmas.Option.{none-some, same_Some}
use Rattle.cdni_base.specs.declared.asked.Asked.{Asked}
use Rattle.control_table.specs.Ask.{IsAskedAt}
use Rattle.control_table.specs.declared.ask.ControlAsk.{ControlAsk}
use Rattle.control_table.specs.declared.ask.ControlAsk.TheVariants as ask
use Rattle.edge_base.specs.Clock.{Grows}
use Rattle.history.specs.Event.{Event, History, Command, Cancel}
use Rattle.history.specs.declared.reply.Reply.{Reply}
use Rattle.history.specs.declared.reply.Reply.TheVariants as reply
use Rattle.node_core.specs.Home.{IsAnswered, Who}
use Rattle.session_base.specs.Answer.{Answer, Says, IsConstant}
use Rattle.session_base.specs.Content.{IsShown, control_shown, full_shown}
use Rattle.session_base.specs.Doing.{Called as OneCall, Doing, nothing, Makes, Any, Does}
use Rattle.session_base.specs.Ending.{next_of}
use Rattle.session_base.specs.GateFaults.{CountsFaults}
use Rattle.session_base.specs.declared.constant.Constant.TheVariants as constant
use Rattle.session_base.specs.declared.control_answer.ControlAnswer.{ControlAnswer}
use Rattle.session_base.specs.declared.ending.Ending.TheVariants as ending
use Rattle.session_base.specs.declared.ending.Next.{Next}
use Rattle.session_base.specs.declared.ending.Next.TheVariants as next
use Rattle.session_base.specs.declared.manner.Manner.{Manner}
use Rattle.session_base.specs.declared.send.Sent.{Sent}
use Rattle.session_base.specs.declared.settings.Settings.{Settings}
use Rattle.session_base.proofs.DoingLemmas.{made_as, makes_none, makes_then}
use Rattle.session_base.proofs.GateFaultLemmas.{counts_other, counts_then}
use Rattle.trigger_command.specs.Reading.{Fails, command_of}
use Rattle.trigger_command.specs.Spec.{SpecParts}
use Rattle.trigger_command.specs.declared.command.Act.{Act}
use Rattle.trigger_command.specs.declared.command.Act.TheVariants as act
use Rattle.trigger_command.specs.declared.command.Command.{Command as CommandRead}
use Rattle.trigger_command.specs.declared.fault.CommandFault.{CommandFault}
use Rattle.trigger_command.specs.declared.fault.CommandFault.TheVariants as fault
use Rattle.upstream_gate.specs.Outcome.{Exchange}
use Rattle.upstream_gate.proofs.PlanLemmas.{grows_none}
use Rattle.control_request.specs.Advance.{Advances}
use Rattle.control_request.specs.Answer.{IsMadeWith, answer_to, created, made_with, refused}
use Rattle.control_request.specs.Control.{Course, NoRoom, Uncalled, Replied, Controls, Acts, Commands, Serves, IsActed, IsAnswerOf, IsCreated, IsOnce, IsRead, IsRefused, IsReplied, IsTold, course_calls, event_at, full_count, is_short, next_behind, uncalled}
use Rattle.control_request.specs.declared.advance.Step.{Step}
use Rattle.control_request.specs.declared.advance.Step.TheVariants as step
use Rattle.control_request.proofs.AdvanceLemmas.{Passes}
use Rattle.control_request.proofs.CallLemmas.{controls_count, event_acted, event_read}

-- what is told of a request, or of a part of one
abbrev pub Done : (Doing → Type 0) → Who → (History → Type 0) → (History → Type 0) → Option (List ℕ) → Option (List ℕ) → Option (List Exchange) → Option (List Exchange) → Option (List ℕ) → Option (List ℕ) → Type 0
Done Is who a b g g' t t' k k' = (d : Doing) × Is d × Does who Any a b g g' t t' k k' d

-- and of the gate's count of faults
abbrev pub Counted : (Doing → Type 0) → Who → (History → Type 0) → (History → Type 0) → Option (List ℕ) → Option (List ℕ) → Option (List Exchange) → Option (List Exchange) → ℕ → ℕ → Option (List ℕ) → Option (List ℕ) → Type 0
Counted Is who a b g g' t t' f f' k k' = (d : Doing) × Is d × Does who Any a b g g' t t' k k' d × CountsFaults f f' d.calls

-- a request of one call at most
pub controlled : (IsRight : Course → Type 0) (settings : Settings) (manner : Manner) (who : Who) (a b : History → Type 0) (g : Option (List ℕ)) (t : Option (List Exchange)) (k k' : Option (List ℕ)) (sent : Sent) (Is : Answer → Type 0) (course : Course) (after : Next)
    → IsRight course → Says Is k k' sent → ((answer : Answer) → Is answer → IsAnswerOf settings manner course answer) → Makes who Any a b (course_calls course) → after ≡ next_of manner.leaves (is_short course) sent.fault
    → Done (λ d. Controls IsRight settings manner d after) who a b g g t t k k'
controlled IsRight settings manner who a b g t k k' sent Is course after right s answers makes goes = (
  record { bytes = []; moments = []; exchanges = []; written = s.written; calls = course_calls course },
  record { course = course; right = right; answer = s.answer; fault = sent.fault; answered = answers s.answer s.is; takes = s.takes; bytes = refl; moments = refl; exchanges = refl; calls = refl; goes = goes },
  record { moments = grows_none g; exchanges = grows_none t; written = s.put; calls = makes },
)

-- no call was made
pub uncalled_with : (IsRight : Course → Type 0) (settings : Settings) (manner : Manner) (who : Who) (a : History → Type 0) (g : Option (List ℕ)) (t : Option (List Exchange)) (k k' : Option (List ℕ)) (sent : Sent) (given : Option ControlAnswer) (short : Bool) (after : Next)
    → IsRight NoRoom → IfSome given (λ answer. IsRight (Uncalled answer)) → Makes who Any a a [] → Says (IsTold settings manner given) k k' sent → short ≡ is_none given → after ≡ next_of manner.leaves short sent.fault
    → Done (λ d. Controls IsRight settings manner d after) who a a g g t t k k'
uncalled_with IsRight settings manner who a g t k k' sent None short after none right makes s is goes =
    controlled IsRight settings manner who a a g t k k' sent _ NoRoom after none s (λ answer given. given) makes (goes ∙ ap (λ (x : Bool). next_of manner.leaves x sent.fault) is)
uncalled_with IsRight settings manner who a g t k k' sent (Some answer) short after none right makes s is goes =
    controlled IsRight settings manner who a a g t k k' sent _ (Uncalled answer) after right s (λ x given. given) makes (goes ∙ ap (λ (x : Bool). next_of manner.leaves x sent.fault) is)

-- the same course, of which more is known
pub right_as : (IsRight IsSound : Course → Type 0) → ((course : Course) → IsRight course → IsSound course) → (settings : Settings) (manner : Manner) (d : Doing) (after : Next) → Controls IsRight settings manner d after → Controls IsSound settings manner d after
right_as IsRight IsSound also settings manner d after c = record {
  course = c.course;
  right = also c.course c.right;
  answer = c.answer;
  fault = c.fault;
  answered = c.answered;
  takes = c.takes;
  bytes = c.bytes;
  moments = c.moments;
  exchanges = c.exchanges;
  calls = c.calls;
  goes = c.goes;
}

-- neither a clock nor a gate was used
pub for_all : (IsRight IsSound : Course → Type 0) → ((course : Course) → IsRight course → IsSound course) → (settings : Settings) (manner : Manner) (who : Who) (a b : History → Type 0) (g : Option (List ℕ)) (t : Option (List Exchange)) (k k' : Option (List ℕ)) (after : Next)
    → Done (λ d. Controls IsRight settings manner d after) who a b None None None None k k' → Done (λ d. Controls IsSound settings manner d after) who a b g g t t k k'
for_all IsRight IsSound also settings manner who a b g t k k' after (d, c, does) = (
  d,
  right_as IsRight IsSound also settings manner d after c,
  record {
    moments = subst (Grows g g) (sym c.moments) (grows_none g);
    exchanges = subst (Grows t t) (sym c.exchanges) (grows_none t);
    written = does.written;
    calls = does.calls;
  },
)

pub once_read : (settings : Settings) (which : ControlAsk) (moment : ℕ) (event : Event) → event_at which moment ≡ Some event → (course : Course) → IsOnce event course → IsRead settings which moment course
once_read settings which moment event is NoRoom right = tt
once_read settings which moment event is (Uncalled given) right = absurd right
once_read settings which moment event is (Replied made line short) right = is ∙ ap Some (sym right)

pub once_cancel : (ids : List ℕ) (moment : ℕ) (course : Course) → IsOnce (Cancel ids moment) course → IsActed (act.Cancel ids) moment course
once_cancel ids moment NoRoom right = tt
once_cancel ids moment (Uncalled given) right = absurd right
once_cancel ids moment (Replied made line short) right = right

-- an answer that was made, or not
pub made_ok : {E : Type 0} (P : ControlAnswer → Type 0) (r : Result ControlAnswer E) (answer : Option ControlAnswer) → answer ≡ result_ok r → IfOk r P → IfSome answer P
made_ok P (Ok given) answer is p = subst (λ x. IfSome x P) (sym is) p
made_ok P (Err error) answer is p = subst (λ x. IfSome x P) (sym is) tt

-- ---- commands

pub not_memory : {B : Type 0} (wrong : CommandFault) (reading : Result B CommandFault) → wrong ≢ fault.Memory → Fails wrong reading → reading ≡ Err wrong
not_memory fault.Memory reading other fails = absurd (other refl)
not_memory fault.NotJson reading other fails = fails
not_memory (fault.Field field) reading other fails = fails
not_memory fault.Loop reading other fails = fails
not_memory fault.NoSelection reading other fails = fails
not_memory fault.PatternInPreposition reading other fails = fails
not_memory fault.CcidInPreposition reading other fails = fails
not_memory (fault.TooMany n) reading other fails = fails
not_memory (fault.BadUrl index) reading other fails = fails
not_memory (fault.BadPattern index) reading other fails = fails

-- a new trigger was made, told and brought to its end
pub triggered : (settings : Settings) (spec : SpecParts) (manner : Manner) (who : Who) (a b c : History → Type 0) (g g' : Option (List ℕ)) (t t' : Option (List Exchange)) (f f' : ℕ) (k k' : Option (List ℕ)) (id : ℕ) (sent : Sent) (short : Bool) (last : Step) (after : Next)
    → Says (IsCreated settings manner id spec short) k k' sent → Makes who Any a b ((Command spec manner.moment, reply.Created id) ∷ []) → (v : Who) → v ≡ who → Passes (λ d. Advances settings.root id d last) v Any b c g g' t t' f f'
    → after ≡ next_behind last (next_of manner.leaves short sent.fault) → Counted (λ d. Acts settings (act.Trigger spec) manner d after) who a c g g' t t' f f' k k'
triggered settings spec manner who a b c g g' t t' f f' k k' id sent short last after s makes v same there goes =
    let p = subst (λ (w : Who). Passes (λ d. Advances settings.root id d last) w Any b c g g' t t' f f') same there in
    let first : OneCall = (Command spec manner.moment, reply.Created id) in (
      record { bytes = []; moments = p.0.moments; exchanges = p.0.exchanges; written = s.written; calls = first ∷ p.0.calls },
      inr (record {
        id = id;
        answer = s.answer;
        short = short;
        fault = sent.fault;
        steps = p.0;
        last = last;
        answered = s.is;
        takes = s.takes;
        advances = p.1;
        bytes = refl;
        moments = refl;
        exchanges = refl;
        calls = refl;
        goes = goes;
      }),
      record {
        moments = p.2.moments;
        exchanges = p.2.exchanges;
        written = s.put;
        calls = makes_then who Any Any a b c (first ∷ []) p.0.calls makes p.2.calls (λ h x need told. tt);
      },
      counts_then f f f' (first ∷ []) p.0.calls (counts_other f f first (omega arith) refl) p.3,
    )

-- the answer to a new trigger
pub told_created : (settings : Settings) (manner : Manner) (id : ℕ) (spec : SpecParts) (given : Option ControlAnswer) (short : Bool) (k k' : Option (List ℕ)) (sent : Sent)
    → IfSome given (λ answer. answer ≡ created id spec manner.moment) → short ≡ is_none given → Says (IsTold settings manner given) k k' sent → Says (IsCreated settings manner id spec short) k k' sent
told_created settings manner id spec None short k k' sent made is s = subst (λ (x : Bool). Says (IsCreated settings manner id spec x) k k' sent) (sym is) s
told_created settings manner id spec (Some answer) short k k' sent made is s =
    subst (λ (x : Bool). Says (IsCreated settings manner id spec x) k k' sent) (sym is) (subst (λ (x : ControlAnswer). Says (IsShown (control_shown manner settings.control x)) k k' sent) made s)

-- ---- what follows

-- it is no end that the head or the turns give: it leaves by what the manner says, or for want of memory or a fault
abbrev pub Goes : Manner → Next → Type 0
Goes manner after = (short : Bool) × (fault : Bool) × (after ≡ next_of manner.leaves short fault)

behind_goes : (manner : Manner) (last : Step) (short fault : Bool) (after : Next) → after ≡ next_behind last (next_of manner.leaves short fault) → Goes manner after
behind_goes manner step.Goes short fault after is = (short, fault, is)
behind_goes manner step.Rests short fault after is = (short, fault, is)
behind_goes manner step.Memory short fault after is = (true, false, is)

acts_goes : (settings : Settings) (given : Act) (manner : Manner) (d : Doing) (after : Next) → Acts settings given manner d after → Goes manner after
acts_goes settings given manner d after (inl c) = (is_short c.course, c.fault, c.goes)
acts_goes settings (act.Trigger spec) manner d after (inr t) = behind_goes manner t.last t.short t.fault after t.goes
acts_goes settings (act.Cancel ids) manner d after (inr t) = absurd t

commands_goes : (settings : Settings) (body : List ℕ) (manner : Manner) (d : Doing) (after : Next) → Commands settings body manner d after → Goes manner after
commands_goes settings body manner d after (inl c) = (is_short c.course, c.fault, c.goes)
commands_goes settings body manner d after (inr (command, is, acts)) = acts_goes settings command.act manner d after acts

pub serves_goes : (settings : Settings) (asked : Asked) (body : List ℕ) (manner : Manner) (d : Doing) (after : Next) → Serves settings asked body manner d after → Goes manner after
serves_goes settings asked body manner d after (which, asks, (inl (is, commands))) = commands_goes settings body manner d after commands
serves_goes settings asked body manner d after (which, asks, (inr (other, c))) = (is_short c.course, c.fault, c.goes)

-- ---- answers to replies

pub full_replied : (settings : Settings) (manner : Manner) (line : Reply) (count : ℕ) (k k' : Option (List ℕ)) (sent : Sent) → full_count line ≡ Some count → Says (IsShown (full_shown manner count)) k k' sent → Says (IsReplied settings manner line false) k k' sent
full_replied settings manner line count k k' sent is s =
    subst (λ (x : Option ℕ). Says (IsShown (option_map_or (λ n. full_shown manner n) x (control_shown manner settings.control (answer_to settings line)))) k k' sent) (sym is) s

shown_other : (settings : Settings) (manner : Manner) (line : Reply) (k k' : Option (List ℕ)) (sent : Sent) → full_count line ≡ None → Says (IsShown (control_shown manner settings.control (answer_to settings line))) k k' sent → Says (IsReplied settings manner line false) k k' sent
shown_other settings manner line k k' sent is s =
    subst (λ (x : Option ℕ). Says (IsShown (option_map_or (λ n. full_shown manner n) x (control_shown manner settings.control (answer_to settings line)))) k k' sent) (sym is) s

pub other_replied : (settings : Settings) (manner : Manner) (line : Reply) (given : Option ControlAnswer) (short : Bool) (k k' : Option (List ℕ)) (sent : Sent) → full_count line ≡ None → IfSome given (λ answer. answer ≡ answer_to settings line) → short ≡ is_none given
    → Says (IsTold settings manner given) k k' sent → Says (IsReplied settings manner line short) k k' sent
other_replied settings manner line None short k k' sent other right is s = subst (λ (x : Bool). Says (IsReplied settings manner line x) k k' sent) (sym is) (record {
  answer = s.answer;
  written = s.written;
  is = (s.is, other);
  put = s.put;
  takes = s.takes;
  counts = s.counts;
})
other_replied settings manner line (Some answer) short k k' sent other right is s = subst (λ (x : Bool). Says (IsReplied settings manner line x) k k' sent) (sym is)
    (shown_other settings manner line k k' sent other (subst (λ (x : ControlAnswer). Says (IsShown (control_shown manner settings.control x)) k k' sent) right s))

-- a fault of the sink is told where it was one
pub write_fault : (leaves short fault : Bool) → next_of leaves short fault ≡ next.Stops ending.WriteFault → fault ≡ true
write_fault leaves short true is = refl
write_fault leaves true false is = cc
write_fault true false false is = cc
write_fault false false false is = cc

-- a command of one call at most
pub acted : (settings : Settings) (given : Act) (manner : Manner) (who : Who) (a b : History → Type 0) (g : Option (List ℕ)) (t : Option (List Exchange)) (f : ℕ) (k k' : Option (List ℕ)) (sent : Sent) (Is : Answer → Type 0) (course : Course) (after : Next)
    → IsActed given manner.moment course → Says Is k k' sent → ((answer : Answer) → Is answer → IsAnswerOf settings manner course answer) → Makes who Any a b (course_calls course) → after ≡ next_of manner.leaves (is_short course) sent.fault
    → Counted (λ d. Acts settings given manner d after) who a b g g t t f f k k'
acted settings given manner who a b g t f k k' sent Is course after right s answers makes goes =
    let c = controlled (IsActed given manner.moment) settings manner who a b g t k k' sent Is course after right s answers makes goes in
    (c.0, inl c.1, c.2, controls_count (IsActed given manner.moment) (λ event line short is. event_acted given manner.moment event line short is) settings manner f c.0 after c.1)

-- the call that makes a trigger
pub command_made : (who : Who) (a b : History → Type 0) (spec given : SpecParts) (moment : ℕ) (r s : Reply) → r ≡ s → given ≡ spec → ((h : History) → a h → IsAnswered who h (Command given moment) r b) → Makes who Any a b ((Command spec moment, s) ∷ [])
command_made who a b spec given moment r s same is seen =
    subst (λ (x : SpecParts). Makes who Any a b ((Command x moment, s) ∷ [])) is (made_as r s same who a b (Command given moment) seen)

pub text_created : (text : Option (List ℕ)) (id : ℕ) (spec : SpecParts) (moment : ℕ) → IfSome text (λ t. (n : ℕ) → t ≡ (created n spec moment).text) → IfSome text (λ t. t ≡ (created id spec moment).text)
text_created None id spec moment is = tt
text_created (Some text) id spec moment is = is id

-- the answer with this resource
pub made_created : (text : Option (List ℕ)) (given : Option ControlAnswer) (id : ℕ) (spec : SpecParts) (moment : ℕ) → IfSome text (λ t. t ≡ (created id spec moment).text) → IsMadeWith id text given → IfSome given (λ answer. answer ≡ created id spec moment)
made_created text None id spec moment is made = tt
made_created (Some text) (Some answer) id spec moment is made = made ∙ ap (λ (x : List ℕ). made_with id x) is
made_created None (Some answer) id spec moment is made = absurd made

-- a command that is refused
pub refused_right : (settings : Settings) (body : List ℕ) (wrong : CommandFault) (given : Option ControlAnswer) → wrong ≢ fault.Memory → command_of settings.own settings.control body ≡ Err wrong → IfSome given (λ answer. answer ≡ refused wrong)
    → IfSome given (λ answer. IsRefused settings body (Uncalled answer))
refused_right settings body wrong None other is right = tt
refused_right settings body wrong (Some answer) other is right = (wrong, other, is, right)

-- a request without a call
pub uncalled_right : (settings : Settings) (which : ControlAsk) (moment : ℕ) (given : Option ControlAnswer) → event_at which moment ≡ None → IfSome given (λ answer. answer ≡ uncalled settings which) → IfSome given (λ answer. IsRead settings which moment (Uncalled answer))
uncalled_right settings which moment None none right = tt
uncalled_right settings which moment (Some answer) none right = (none, right)

pub commands_first : (settings : Settings) (body : List ℕ) (manner : Manner) (who : Who) (a b : History → Type 0) (g g' : Option (List ℕ)) (t t' : Option (List Exchange)) (f : ℕ) (k k' : Option (List ℕ)) (after : Next)
    → Done (λ d. Controls (IsRefused settings body) settings manner d after) who a b g g' t t' k k' → Counted (λ d. Commands settings body manner d after) who a b g g' t t' f f k k'
commands_first settings body manner who a b g g' t t' f k k' after c =
    (c.0, inl c.1, c.2, controls_count (IsRefused settings body) (λ event line short is. absurd is) settings manner f c.0 after c.1)

pub reads : (settings : Settings) (asked : Asked) (body : List ℕ) (manner : Manner) (which : ControlAsk) (who : Who) (a b : History → Type 0) (g g' : Option (List ℕ)) (t t' : Option (List Exchange)) (f : ℕ) (k k' : Option (List ℕ)) (after : Next) → IsAskedAt asked.method asked.target.path which → which ≢ ask.Command
    → Done (λ d. Controls (IsRead settings which manner.moment) settings manner d after) who a b g g' t t' k k' → Counted (λ d. Serves settings asked body manner d after) who a b g g' t t' f f k k'
reads settings asked body manner which who a b g g' t t' f k k' after asks other c =
    (c.0, (which, asks, inr (other, c.1)), c.2, controls_count (IsRead settings which manner.moment) (λ event line short is. event_read which manner.moment event is) settings manner f c.0 after c.1)

pub asked_as : (method given path here : List ℕ) (which : ControlAsk) → given ≡ method → here ≡ path → IsAskedAt given here which → IsAskedAt method path which
asked_as method given path here which m p asks = subst (λ (x : List ℕ). IsAskedAt method x which) p (subst (λ (x : List ℕ). IsAskedAt x here which) m asks)
