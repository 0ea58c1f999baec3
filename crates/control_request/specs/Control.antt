-- Requests of the upstream CDN, with what passes in them.
use Rattle.std.specs.Prelude.{◌≡◌, ◌≢◌, ◌⊎◌, ℕ, Bool, true, false, List, [], ◌∷◌, None, Some, Ok, Err}
use Rattle.std.specs.Option.{option_map_or}
use Rattle.std.specs.declared.option.Option.{Option}
use Rattle.cdni_base.specs.declared.asked.Asked.{Asked}
use Rattle.control_table.specs.Ask.{IsAskedAt}
use Rattle.control_table.specs.declared.ask.ControlAsk.{ControlAsk}
use Rattle.control_table.specs.declared.ask.ControlAsk.TheVariants as ask
use Rattle.history.specs.Event.{Event, Command, Cancel, Delete, ReadStatus, Lists, Cut, LogFile, ListLogs, DropLog}
use Rattle.history.specs.declared.reply.Reply.{Reply}
use Rattle.history.specs.declared.reply.Reply.TheVariants as reply
use Rattle.session_base.specs.Answer.{Answer, IsConstant, Takes}
use Rattle.session_base.specs.Content.{Shown, IsShown, control_shown, full_shown}
use Rattle.session_base.specs.Doing.{Called, Doing}
use Rattle.session_base.specs.Ending.{next_of}
use Rattle.session_base.specs.declared.constant.Constant.TheVariants as constant
use Rattle.session_base.specs.declared.control_answer.ControlAnswer.{ControlAnswer}
use Rattle.session_base.specs.declared.ending.Ending.TheVariants as ending
use Rattle.session_base.specs.declared.ending.Next.{Next}
use Rattle.session_base.specs.declared.ending.Next.TheVariants as next
use Rattle.session_base.specs.declared.manner.Manner.{Manner}
use Rattle.session_base.specs.declared.settings.Settings.{Settings}
use Rattle.trigger_command.specs.Reading.{command_of}
use Rattle.trigger_command.specs.Spec.{SpecParts}
use Rattle.trigger_command.specs.declared.command.Act.{Act}
use Rattle.trigger_command.specs.declared.command.Act.TheVariants as act
use Rattle.trigger_command.specs.declared.command.Command.{Command as CommandRead}
use Rattle.trigger_command.specs.declared.fault.CommandFault.{CommandFault}
use Rattle.trigger_command.specs.declared.fault.CommandFault.TheVariants as fault
use Rattle.control_request.specs.Advance.{Advances}
use Rattle.control_request.specs.Answer.{advertised, answer_to, created, empty, refused}
use Rattle.control_request.specs.declared.advance.Step.{Step}
use Rattle.control_request.specs.declared.advance.Step.TheVariants as step

-- ---- what is written

-- an answer, or the constant 503 where no memory was found for it
abbrev pub IsTold : Settings → Manner → Option ControlAnswer → Answer → Type 0
IsTold settings manner None answer = IsConstant constant.Unavailable answer
IsTold settings manner (Some given) answer = IsShown (control_shown manner settings.control given) answer

-- the limit that is reached, if one is
abbrev pub full_count : Reply → Option ℕ
full_count (reply.Full count) = Some count
full_count other = None

-- the answer to a reply; a limit is told with its number
abbrev pub reply_shown : Settings → Manner → Reply → Shown
reply_shown settings manner line = option_map_or (λ count. full_shown manner count) (full_count line)
    (control_shown manner settings.control (answer_to settings line))

-- it was answered, or no memory was found for that; a reached limit is always answered
abbrev pub IsReplied : Settings → Manner → Reply → Bool → Answer → Type 0
IsReplied settings manner line false answer = IsShown (reply_shown settings manner line) answer
IsReplied settings manner line true answer = IsConstant constant.Unavailable answer × (full_count line ≡ None)

-- a new trigger was answered with its resource, or no memory was found for that
abbrev pub IsCreated : Settings → Manner → ℕ → SpecParts → Bool → Answer → Type 0
IsCreated settings manner id spec false answer = IsShown (control_shown manner settings.control (created id spec manner.moment)) answer
IsCreated settings manner id spec true answer = IsConstant constant.Unavailable answer

-- ---- a request with one call at most

-- How such a request went. No memory was found for it, or in its call; it was answered without a call; or by the reply to its
-- call, for which answer no memory was found, or some.
pub data Course : Type 0 where
  NoRoom : Course
  Uncalled : (given : ControlAnswer) → Course
  Replied : (event : Event) (line : Reply) (short : Bool) → Course

abbrev pub course_calls : Course → List Called
course_calls NoRoom = []
course_calls (Uncalled given) = []
course_calls (Replied event line short) = (event, line) ∷ []

abbrev pub is_short : Course → Bool
is_short NoRoom = true
is_short (Uncalled given) = false
is_short (Replied event line short) = short

abbrev pub IsAnswerOf : Settings → Manner → Course → Answer → Type 0
IsAnswerOf settings manner NoRoom answer = IsConstant constant.Unavailable answer
IsAnswerOf settings manner (Uncalled given) answer = IsShown (control_shown manner settings.control given) answer
IsAnswerOf settings manner (Replied event line short) answer = IsReplied settings manner line short answer

-- what passes in it, where its course is a right one
pub record Controls (IsRight : Course → Type 0) (settings : Settings) (manner : Manner) (d : Doing) (after : Next) : Type 0 where
  pub course : Course
  pub right : IsRight course
  pub answer : Answer
  pub fault : Bool
  pub answered : IsAnswerOf settings manner course answer
  pub takes : Takes answer d.written fault
  pub bytes : d.bytes ≡ []
  pub moments : d.moments ≡ []
  pub exchanges : d.exchanges ≡ []
  pub calls : d.calls ≡ course_calls course
  pub goes : after ≡ next_of manner.leaves (is_short course) fault

-- this call is made
abbrev pub IsOnce : Event → Course → Type 0
IsOnce event NoRoom = Unit {0}
IsOnce event (Uncalled given) = ⊥
IsOnce event (Replied made line short) = made ≡ event

abbrev pub CallsOnce : Settings → Event → Manner → Doing → Next → Type 0
CallsOnce settings event manner d after = Controls (IsOnce event) settings manner d after

-- ---- requests that are no commands

-- the one call of each, if it has one
abbrev pub event_at : ControlAsk → ℕ → Option Event
event_at ask.Absent moment = None
event_at ask.WrongMethod moment = None
event_at ask.Command moment = None
event_at (ask.List filter) moment = Some (Lists filter)
event_at (ask.Status id) moment = Some (ReadStatus id)
event_at (ask.Delete id) moment = Some (Delete id)
event_at ask.Advertise moment = None
event_at ask.Cut moment = Some (Cut moment)
event_at ask.ListLogs moment = Some ListLogs
event_at (ask.ReadLog number) moment = Some (LogFile number)
event_at (ask.DropLog number) moment = Some (DropLog number)

-- the answer to one that has none
abbrev pub uncalled : Settings → ControlAsk → ControlAnswer
uncalled settings ask.Advertise = advertised settings
uncalled settings ask.WrongMethod = empty 405
uncalled settings other = empty 404

abbrev pub IsRead : Settings → ControlAsk → ℕ → Course → Type 0
IsRead settings which moment NoRoom = Unit {0}
IsRead settings which moment (Uncalled given) = (event_at which moment ≡ None) × (given ≡ uncalled settings which)
IsRead settings which moment (Replied event line short) = event_at which moment ≡ Some event

-- ---- commands

-- A cancel is one call. A new trigger is none of these, but for the one for which a limit is reached.
abbrev pub IsActed : Act → ℕ → Course → Type 0
IsActed given moment NoRoom = Unit {0}
IsActed given moment (Uncalled answer) = ⊥
IsActed (act.Cancel ids) moment (Replied event line short) = event ≡ Cancel ids moment
IsActed (act.Trigger spec) moment (Replied event line short) = (event ≡ Command spec moment) × (count : ℕ) × (line ≡ reply.Full count)

-- what follows the steps: the end, where no memory was found in them
abbrev pub next_behind : Step → Next → Next
next_behind step.Goes after = after
next_behind step.Rests after = after
next_behind step.Memory after = next.Stops ending.Memory

-- A new trigger: it is made, its answer is written, and it makes its steps. No memory for the answer, or in the steps, ends
-- the connection.
pub record Triggers (settings : Settings) (spec : SpecParts) (manner : Manner) (d : Doing) (after : Next) : Type 0 where
  pub id : ℕ
  pub answer : Answer
  pub short : Bool
  pub fault : Bool
  pub steps : Doing
  pub last : Step
  pub answered : IsCreated settings manner id spec short answer
  pub takes : Takes answer d.written fault
  pub advances : Advances settings.root id steps last
  pub bytes : d.bytes ≡ []
  pub moments : d.moments ≡ steps.moments
  pub exchanges : d.exchanges ≡ steps.exchanges
  pub calls : d.calls ≡ (Command spec manner.moment, reply.Created id) ∷ steps.calls
  pub goes : after ≡ next_behind last (next_of manner.leaves short fault)

abbrev pub HasTrigger : Settings → Act → Manner → Doing → Next → Type 0
HasTrigger settings (act.Trigger spec) manner d after = Triggers settings spec manner d after
HasTrigger settings (act.Cancel ids) manner d after = ⊥

-- what passes in a command that was read
abbrev pub Acts : Settings → Act → Manner → Doing → Next → Type 0
Acts settings given manner d after = Controls (IsActed given manner.moment) settings manner d after ⊎ HasTrigger settings given manner d after

-- a command that is refused: no call, and the line of its fault
abbrev pub IsRefused : Settings → List ℕ → Course → Type 0
IsRefused settings body NoRoom = Unit {0}
IsRefused settings body (Uncalled given) = (wrong : CommandFault) × (wrong ≢ fault.Memory)
    × (command_of settings.own settings.control body ≡ Err wrong) × (given ≡ refused wrong)
IsRefused settings body (Replied event line short) = ⊥

-- what passes in a command with this text
abbrev pub Commands : Settings → List ℕ → Manner → Doing → Next → Type 0
Commands settings body manner d after = Controls (IsRefused settings body) settings manner d after
    ⊎ ((command : CommandRead) × (command_of settings.own settings.control body ≡ Ok command) × Acts settings command.act manner d after)

-- ---- a request

-- what passes in a request of the upstream CDN, by what its method and its path ask for
abbrev pub Serves : Settings → Asked → List ℕ → Manner → Doing → Next → Type 0
Serves settings asked body manner d after = (which : ControlAsk) × IsAskedAt asked.method asked.target.path which
    × (((which ≡ ask.Command) × Commands settings body manner d after)
    ⊎ ((which ≢ ask.Command) × Controls (IsRead settings which manner.moment) settings manner d after))
