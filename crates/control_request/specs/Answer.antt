-- The answers to requests of the upstream CDN.
use Rattle.std.specs.Prelude.{◌≡◌, ℕ, List, [], ◌++◌, None, Some, codes}
use Rattle.std.specs.declared.option.Option.{Option}
use Rattle.answer_head.specs.declared.answer.Made.{Made}
use Rattle.answer_head.specs.declared.answer.Made.TheVariants as thing
use Rattle.footprints.specs.Advertisement.{advert_text}
use Rattle.history.specs.After.{commanded}
use Rattle.history.specs.declared.reply.Reply.{Reply}
use Rattle.history.specs.declared.reply.Reply.TheVariants as reply
use Rattle.session_base.specs.declared.control_answer.ControlAnswer.{ControlAnswer}
use Rattle.session_base.specs.declared.settings.Settings.{Settings}
use Rattle.trigger_command.specs.Fault.{refusal_text}
use Rattle.trigger_command.specs.Spec.{SpecParts}
use Rattle.trigger_command.specs.declared.fault.CommandFault.{CommandFault}
use Rattle.trigger_command.specs.declared.fault.CommandFault.TheVariants as fault
use Rattle.trigger_status.specs.Collection.{collection_text}
use Rattle.trigger_status.specs.Job.{job_text}
use Rattle.control_request.specs.Lists.{numbers_text, statuses_text}

-- a status without a text
abbrev pub empty : ℕ → ControlAnswer
empty status = record { status = status; kind = []; text = []; made = None }

-- a text of this type
abbrev pub with_text : List ℕ → List ℕ → ControlAnswer
with_text kind text = record { status = 200; kind = kind; text = text; made = None }

-- something without a text was made
abbrev pub made : Made → ℕ → ControlAnswer
made what number = record { status = 201; kind = []; text = []; made = Some (record { made = what; number = number }) }

-- a trigger was made, with this status resource (RFC 8007, section 4.1)
abbrev pub made_with : ℕ → List ℕ → ControlAnswer
made_with id text = record {
  status = 201;
  kind = codes "application/cdni; ptype=ci-trigger-status";
  text = text;
  made = Some (record { made = thing.Trigger; number = id });
}

-- with the resource, where there is one
abbrev pub IsMadeWith : ℕ → Option (List ℕ) → Option ControlAnswer → Type 0
IsMadeWith id (Some text) (Some answer) = answer ≡ made_with id text
IsMadeWith id None (Some answer) = ⊥
IsMadeWith id text None = Unit {0}

-- a new trigger is answered with its resource, which is pending
abbrev pub created : ℕ → SpecParts → ℕ → ControlAnswer
created id spec moment = made_with id (job_text (commanded id spec moment).job)

-- a command is refused, for a loop by 403
abbrev pub refusal_status : CommandFault → ℕ
refusal_status fault.Loop = 403
refusal_status other = 400

abbrev pub refused : CommandFault → ControlAnswer
refused wrong = record {
  status = refusal_status wrong;
  kind = codes "text/plain";
  text = refusal_text wrong ++ codes "\n";
  made = None;
}

-- the advertisement (RFC 8008, section 5)
abbrev pub advertised : Settings → ControlAnswer
advertised settings = with_text (codes "application/json") (advert_text settings.advert)

-- the answer to the reply of the one call; of the other replies to such calls all say that nothing has this number
abbrev pub answer_to : Settings → Reply → ControlAnswer
answer_to settings (reply.Resource job) = with_text (codes "application/cdni; ptype=ci-trigger-status") (job_text job)
answer_to settings (reply.Collection filter ids) =
    with_text (codes "application/cdni; ptype=ci-trigger-collection") (collection_text ids filter settings.own settings.control)
answer_to settings (reply.LogText text) = with_text (codes "application/cdni; ptype=logging-file") text
answer_to settings (reply.Numbers list) = with_text (codes "application/json") (numbers_text list)
answer_to settings (reply.Statuses list) = with_text (codes "application/json") (statuses_text list)
answer_to settings (reply.File number) = made thing.LogFile number
answer_to settings reply.Deleted = empty 204
answer_to settings reply.Dropped = empty 204
answer_to settings reply.NothingToCut = empty 204
answer_to settings other = empty 404
