-- Reading a trigger command: the value, or the first fault (RFC 8007, sections 4.1, 4.6 and 5).
use Rattle.std.specs.Prelude.{◌≡◌, ℕ, ◌+◌, ◌-◌, ◌^◌, Bool, true, false, List, bytes_eq, length, min, nat_lt, ◌&&◌}
use Rattle.std.specs.Prelude.{◌==◌, None, Some, Ok, Err, if◌then◌else◌}
use Rattle.std.specs.List.{list_any}
use Rattle.std.specs.Option.{option_map_or}
use Rattle.std.specs.Result.{result_ok}
use Rattle.std.specs.declared.option.Option.{Option}
use Rattle.std.specs.declared.result.Result.{Result}
use Rattle.cdni_base.specs.declared.provider.ProviderId.{ProviderId}
use Rattle.json_read.specs.Field.{◌>>=◌}
use Rattle.json_read.specs.Text.{json_of}
use Rattle.json_read.specs.declared.fault.FieldFault.{FieldFault}
use Rattle.json_read.specs.declared.fault.JsonFault.{JsonFault}
use Rattle.json_read.specs.declared.fault.JsonFault.TheVariants as json_fault
use Rattle.pattern_match.specs.Matching.{compiled}
use Rattle.serde_json.specs.Data.{Data}
use Rattle.targets.specs.Target.{target_of}
use Rattle.trigger_command.specs.Draft.{each_from, written_of}
use Rattle.trigger_command.specs.Spec.{SpecParts}
use Rattle.trigger_command.specs.TriggerUrl.{trigger_number}
use Rattle.trigger_command.specs.declared.command.Act.{Act}
use Rattle.trigger_command.specs.declared.command.Act.TheVariants as act
use Rattle.trigger_command.specs.declared.command.Command.{Command}
use Rattle.trigger_command.specs.declared.draft.Draft.{Draft}
use Rattle.trigger_command.specs.declared.draft.Form.{Form}
use Rattle.trigger_command.specs.declared.draft.Form.TheVariants as form
use Rattle.trigger_command.specs.declared.draft.PatternDraft.{PatternDraft}
use Rattle.trigger_command.specs.declared.draft.Written.{Written}
use Rattle.trigger_command.specs.declared.fault.CommandFault.{CommandFault}
use Rattle.trigger_command.specs.declared.fault.CommandFault.TheVariants as fault
use Rattle.trigger_command.specs.declared.reading.TheConstants.{PATTERN_MAX}
use Rattle.trigger_command.specs.declared.selection.PatternItem.{PatternItem}
use Rattle.trigger_command.specs.declared.selection.Selection.{Selection}
use Rattle.trigger_command.specs.declared.selection.UrlItem.{UrlItem}
use Rattle.trigger_command.specs.declared.spec.TheConstants.{SELECTION_MAX}
use Rattle.trigger_command.specs.declared.spec.TriggerKind.{TriggerKind}
use Rattle.trigger_command.specs.declared.spec.TriggerKind.TheVariants.{Preposition, Invalidate, Purge}

-- the value, or the first fault
abbrev pub Judged : Type 0 → Type 0
Judged A = Result A CommandFault

-- a URL of a selection is absolute
abbrev pub url_at : ℕ → List ℕ → Judged UrlItem
url_at i text = option_map_or (λ target. Ok (record { text = text; target = target }))
    (result_ok (target_of text None false)) (Err (fault.BadUrl i))

-- a pattern of a selection has at most 1,024 bytes
abbrev pub pattern_item : PatternDraft → PatternItem
pattern_item draft =
    record { text = draft.text; pattern = compiled draft.text draft.case; case = draft.case; query = draft.query }

abbrev pub pattern_item_at : ℕ → PatternDraft → Judged PatternItem
pattern_item_at i draft =
    if nat_lt PATTERN_MAX (length draft.text) then Err (fault.BadPattern i) else Ok (pattern_item draft)

abbrev pub is_preposition : TriggerKind → Bool
is_preposition Preposition = true
is_preposition Invalidate = false
is_preposition Purge = false

abbrev pub pattern_count : Draft → ℕ
pattern_count draft = length draft.metadata_patterns + length draft.content_patterns

-- how many items the five lists have together
abbrev pub draft_count : Draft → ℕ
draft_count draft = length draft.metadata_urls + length draft.content_urls + length draft.ccids + pattern_count draft

-- what is wrong with the lists of a trigger: all are empty, a preposition has patterns, or ccids, or there are more
-- than 1,000 items
unfoldable pub wrong_lists : Draft → Option CommandFault
wrong_lists draft = if draft_count draft == 0 then Some fault.NoSelection
    else (if is_preposition draft.kind && nat_lt 0 (pattern_count draft) then Some fault.PatternInPreposition
    else (if is_preposition draft.kind && nat_lt 0 (length draft.ccids) then Some fault.CcidInPreposition
    else (if nat_lt SELECTION_MAX (draft_count draft) then Some (fault.TooMany (min (draft_count draft) (2 ^ 64 - 1)))
    else None)))

-- the URLs and the patterns of a trigger, each numbered over both of its lists
unfoldable pub selection_of : Draft → Judged Selection
selection_of draft = do
  metadata_urls ← each_from url_at 0 draft.metadata_urls
  content_urls ← each_from url_at (length draft.metadata_urls) draft.content_urls
  metadata_patterns ← each_from pattern_item_at 0 draft.metadata_patterns
  content_patterns ← each_from pattern_item_at (length draft.metadata_patterns) draft.content_patterns
  Ok (record {
    metadata_urls = metadata_urls;
    content_urls = content_urls;
    ccids = draft.ccids;
    metadata_patterns = metadata_patterns;
    content_patterns = content_patterns;
  })

-- a trigger specification (RFC 8007, section 5.2.1)
unfoldable pub spec_of : Draft → Judged SpecParts
spec_of draft = option_map_or (λ wrong. Err wrong)
    (wrong_lists draft)
    (selection_of draft >>= λ selection. Ok (record { kind = draft.kind; selection = selection }))

-- a URL of a cancel is that of a trigger's status resource
abbrev pub number_at : List ℕ → ℕ → List ℕ → Judged ℕ
number_at control i text = option_map_or (λ n. Ok n) (trigger_number control text) (Err (fault.BadUrl i))

-- what is commanded
unfoldable pub act_of : List ℕ → Form → Judged Act
act_of control (form.Trigger draft) = spec_of draft >>= λ spec. Ok (act.Trigger spec)
act_of control (form.Cancel texts) = each_from (number_at control) 0 texts >>= λ ids. Ok (act.Cancel ids)

-- the command came through this CDN (RFC 8007, section 4.6)
abbrev pub has_own : ProviderId → List ProviderId → Bool
has_own own path = list_any (λ id. bytes_eq id.0 own.0) path

unfoldable pub command_of_written : ProviderId → List ℕ → Written → Judged Command
command_of_written own control written = if has_own own written.path then Err fault.Loop
    else (act_of control written.form >>= λ act. Ok (record { path = written.path; act = act }))

-- the fault of a field as one of a command
abbrev pub field : {A : Type 0} → Result A FieldFault → Judged A
field (Ok a) = Ok a
field (Err wrong) = Err (fault.Field wrong)

unfoldable pub command_of_value : ProviderId → List ℕ → Data → Judged Command
command_of_value own control value = field (written_of value) >>= λ written. command_of_written own control written

-- the command that the JSON text writes, for the CDN of this provider id and this control host
unfoldable pub command_of : ProviderId → List ℕ → List ℕ → Judged Command
command_of own control text = option_map_or (command_of_value own control) (json_of text) (Err fault.NotJson)

abbrev pub fault_of : JsonFault → CommandFault
fault_of (json_fault.Field wrong) = fault.Field wrong
fault_of json_fault.Memory = fault.Memory

-- the fault is that of the reading, or want of memory
abbrev pub Fails : {B : Type 0} → CommandFault → Judged B → Type 0
Fails fault.Memory reading = Unit {0}
Fails wrong reading = reading ≡ Err wrong

-- a reader answers the reading, its value as it is seen, or finds no memory
abbrev pub Gives : {A B : Type 0} → (A → B) → Result A CommandFault → Judged B → Type 0
Gives seen (Ok a) reading = reading ≡ Ok (seen a)
Gives seen (Err wrong) reading = Fails wrong reading
