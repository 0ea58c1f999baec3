-- The calls as the definitions see them: with metadata as plain data.
use Rattle.std.specs.Prelude.{ℕ, List}
use Rattle.std.specs.Option.{option_map}
use Rattle.std.specs.declared.option.Option.{Option}
use Rattle.cdni_base.specs.declared.asked.Asked.{Asked}
use Rattle.location_acl.specs.declared.footprint.Place.{Place}
use Rattle.metadata_objects.specs.Tree.{TreeData, tree_view}
use Rattle.trigger_command.specs.Spec.{SpecParts}
use Rattle.trigger_status.specs.declared.job.Filter.{Filter}
use Rattle.upstream_gate.specs.declared.outcome.Outcome.{Outcome}
use Rattle.history.specs.declared.call.Call.{Call}
use Rattle.history.specs.declared.call.Call.TheVariants as call

-- a request for content, as it is admitted: what it asks for, where its client is, and the values that its record has for the
-- header fields that are logged (RFC 7937, section 3.4.1)
pub record Request : Type 0 where
  pub asked : Asked
  pub place : Place
  pub extra : List (Option (List ℕ))

pub data Event : Type 0 where
  Admit : Request → ℕ → Event
  FetchEnd : ℕ → Outcome → ℕ → Event
  Finish : ℕ → ℕ → ℕ → ℕ → ℕ → Event
  RefreshBegin : ℕ → Event
  RefreshEnd : ℕ → Option TreeData → ℕ → Event
  Command : SpecParts → ℕ → Event
  Advance : ℕ → ℕ → Event
  Cancel : List ℕ → ℕ → Event
  Delete : ℕ → Event
  ReadStatus : ℕ → Event
  Lists : Filter → Event
  Cut : ℕ → Event
  LogFile : ℕ → Event
  ListLogs : Event
  DropLog : ℕ → Event

abbrev pub request_of : Asked → Place → List (Option (List ℕ)) → Request
request_of asked place extra = record { asked = asked; place = place; extra = extra }

abbrev pub event_of : Call → Event
event_of (call.Admit asked place extra moment) = Admit (request_of asked place extra) moment
event_of (call.FetchEnd fetch outcome moment) = FetchEnd fetch outcome moment
event_of (call.Finish delivery status total entity moment) = Finish delivery status total entity moment
event_of (call.RefreshBegin moment) = RefreshBegin moment
event_of (call.RefreshEnd refresh tree moment) = RefreshEnd refresh (option_map tree_view tree) moment
event_of (call.Command spec moment) = Command spec moment
event_of (call.Advance id moment) = Advance id moment
event_of (call.Cancel ids moment) = Cancel ids moment
event_of (call.Delete id) = Delete id
event_of (call.ReadStatus id) = ReadStatus id
event_of (call.List filter) = Lists filter
event_of (call.Cut moment) = Cut moment
event_of (call.LogFile number) = LogFile number
event_of call.ListLogs = ListLogs
event_of (call.DropLog number) = DropLog number

-- the number of a pass, and what it calls
abbrev pub Entry : Type 0
Entry = ℕ × Event

-- the entries, the oldest first
abbrev pub History : Type 0
History = List Entry
