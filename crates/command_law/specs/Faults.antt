-- The first fault of a trigger command, in the order in which it is read (RFC 8007, sections 4.6, 5.1.1 and 5.2).
use Rattle.std.specs.Prelude.{◌≡◌, ◌≢◌, ◌⊎◌, ℕ, ◌+◌, ◌-◌, ◌^◌, ◌<◌, ◌≤◌, min, Bool, false, List, [], ◌∷◌, ◌++◌}
use Rattle.std.specs.Prelude.{length, take, slice_get, codes, None, Some, All, Contains}
use Rattle.std.specs.List.{AllZip}
use Rattle.cdni_base.specs.Provider.{IsProvider}
use Rattle.cdni_base.specs.declared.provider.ProviderId.{ProviderId}
use Rattle.command_law.specs.Grammar.{Has, Lacks, IsList, HasList, HasFlag, IsText, IsId, IsStatusUrl}
use Rattle.json_read.specs.Path.{child_of, item_of}
use Rattle.json_read.specs.Text.{json_of}
use Rattle.json_read.specs.declared.fault.FieldCause.{FieldCause}
use Rattle.json_read.specs.declared.fault.FieldCause.TheVariants.{Missing, WrongKind, OutOfRange}
use Rattle.json_read.specs.declared.fault.FieldFault.{FieldFault}
use Rattle.serde_json.specs.Data.{Data, string, array, object, Members}
use Rattle.serde_json.specs.Find.{as_array, as_bool, as_object, as_str}
use Rattle.serde_json.specs.View.{items_of}
use Rattle.targets.specs.Grammar.{IsTarget}
use Rattle.targets.specs.declared.target.Target.{Target}
use Rattle.trigger_command.specs.declared.fault.CommandFault.{CommandFault}
use Rattle.trigger_command.specs.declared.fault.CommandFault.TheVariants as fault
use Rattle.trigger_command.specs.declared.spec.TheConstants.{SELECTION_MAX}
use Rattle.trigger_command.specs.declared.spec.TriggerKind.{TriggerKind}
use Rattle.trigger_command.specs.declared.spec.TriggerKind.TheVariants.{Preposition}
use Rattle.trigger_status.specs.Job.{kind_name}

-- ---- what is written in the fields, before URLs and patterns are looked at

-- a PatternMatch (RFC 8007, section 5.2.4)
pub record WrittenPattern : Type 0 where
  pub text : List ℕ
  pub case : Bool
  pub query : Bool

pub record IsWrittenPattern (value : Data) (pattern : WrittenPattern) : Type 0 where
  pub text : Has (codes "pattern") (string pattern.text) value
  pub case : HasFlag (codes "case-sensitive") value pattern.case
  pub query : HasFlag (codes "match-query-string") value pattern.query

-- a trigger specification (RFC 8007, section 5.2.1)
pub record WrittenTrigger : Type 0 where
  pub kind : TriggerKind
  pub metadata_urls : List (List ℕ)
  pub content_urls : List (List ℕ)
  pub ccids : List (List ℕ)
  pub metadata_patterns : List WrittenPattern
  pub content_patterns : List WrittenPattern

abbrev pub HasKind : Data → TriggerKind → Type 0
HasKind value kind = Has (codes "type") (string (kind_name kind)) value

pub record IsWrittenTrigger (value : Data) (trigger : WrittenTrigger) : Type 0 where
  pub kind : HasKind value trigger.kind
  pub metadata_urls : HasList IsText (codes "metadata.urls") value trigger.metadata_urls
  pub content_urls : HasList IsText (codes "content.urls") value trigger.content_urls
  pub ccids : HasList IsText (codes "content.ccid") value trigger.ccids
  pub metadata_patterns : HasList IsWrittenPattern (codes "metadata.patterns") value trigger.metadata_patterns
  pub content_patterns : HasList IsWrittenPattern (codes "content.patterns") value trigger.content_patterns

-- what is commanded
pub data WrittenAct : Type 0 where
  new_trigger : WrittenTrigger → WrittenAct
  cancel_of : List (List ℕ) → WrittenAct

-- exactly one of `trigger` and `cancel` is there
abbrev pub IsWrittenAct : Data → WrittenAct → Type 0
IsWrittenAct value (new_trigger written) = (trigger : Data) × Has (codes "trigger") trigger value
    × Lacks (codes "cancel") value × IsWrittenTrigger trigger written
IsWrittenAct value (cancel_of texts) = (cancel : Data) × Has (codes "cancel") cancel value
    × Lacks (codes "trigger") value × IsList IsText cancel texts

abbrev pub HasPath : Data → List ProviderId → Type 0
HasPath value path = (list : Data) × Has (codes "cdn-path") list value × IsList IsId list path

-- ---- faults of fields

-- the fault stands at this place, and has this cause
abbrev pub IsAt : List ℕ → FieldCause → FieldFault → Type 0
IsAt path cause fault = fault ≡ record { path = path; cause = cause }

-- which faults a value at a place has
abbrev pub FaultsOf : Type 1
FaultsOf = List ℕ → Data → FieldFault → Type 0

-- a step of the reading: that it goes well, and its faults
pub record Step : Type 1 where
  pub goes_well : Type 0
  pub has_fault : FieldFault → Type 0

-- the fault is that of the first step that does not go well
abbrev pub IsOfFirst : List Step → FieldFault → Type 0
IsOfFirst [] fault = ⊥
IsOfFirst (step ∷ steps) fault = step.has_fault fault ⊎ (step.goes_well × IsOfFirst steps fault)

-- of the items of a list at this place, the first that is wrong has this fault
abbrev pub IsOfFirstItem : {A : Type 0} → (Data → A → Type 0) → FaultsOf → List ℕ → List Data → FieldFault → Type 0
IsOfFirstItem {A} IsItem HasFault path items fault =
    (i : ℕ) × (item : Data) × (slice_get items i ≡ Some item) × ((xs : List A) × AllZip IsItem (take i items) xs)
    × HasFault (item_of path i) item fault

-- the value is no list, or an item of it is wrong
abbrev pub HasListFault : {A : Type 0} → (Data → A → Type 0) → FaultsOf → FaultsOf
HasListFault IsItem HasFault path value fault =
    ((as_array value ≡ None) × IsAt path WrongKind fault)
    ⊎ ((items : List Data) × (value ≡ array (items_of items)) × IsOfFirstItem IsItem HasFault path items fault)

-- the property is there and is wrong
abbrev pub HasWrong : FaultsOf → List ℕ → List ℕ → Data → FieldFault → Type 0
HasWrong HasFault path name owner fault =
    (value : Data) × Has name value owner × HasFault (child_of path name) value fault

-- the value is no object, or the property is absent or wrong
abbrev pub LacksRight : FaultsOf → List ℕ → List ℕ → Data → FieldFault → Type 0
LacksRight HasFault path name value fault =
    ((as_object value ≡ None) × IsAt path WrongKind fault)
    ⊎ ((((members : Members) × (value ≡ object members)) × Lacks name value × IsAt (child_of path name) Missing fault)
    ⊎ HasWrong HasFault path name value fault)

abbrev pub HasTextFault : FaultsOf
HasTextFault path value fault = (as_str value ≡ None) × IsAt path WrongKind fault

abbrev pub HasFlagFault : FaultsOf
HasFlagFault path value fault = (as_bool value ≡ None) × IsAt path WrongKind fault

-- the value is no text, or its text is no provider id
abbrev pub HasIdFault : FaultsOf
HasIdFault path value fault = HasTextFault path value fault
    ⊎ ((text : List ℕ) × (value ≡ string text) × (IsProvider text → ⊥) × IsAt path OutOfRange fault)

-- the value is no text, or its text is none of the three types
abbrev pub HasKindFault : FaultsOf
HasKindFault path value fault = HasTextFault path value fault
    ⊎ ((text : List ℕ) × (value ≡ string text) × ((kind : TriggerKind) → text ≢ kind_name kind)
    × IsAt path OutOfRange fault)

-- a list that may be absent
abbrev pub list_step : {A : Type 0} → (Data → A → Type 0) → FaultsOf → List ℕ → List ℕ → Data → Step
list_step {A} IsItem HasFault path name value = record {
  goes_well = (xs : List A) × HasList IsItem name value xs;
  has_fault = HasWrong (HasListFault IsItem HasFault) path name value;
}

abbrev pub flag_step : List ℕ → List ℕ → Data → Step
flag_step path name value = record {
  goes_well = (flag : Bool) × HasFlag name value flag;
  has_fault = HasWrong HasFlagFault path name value;
}

-- a pattern is read in this order
abbrev pub pattern_steps : List ℕ → Data → List Step
pattern_steps path value =
    record {
      goes_well = (text : List ℕ) × Has (codes "pattern") (string text) value;
      has_fault = LacksRight HasTextFault path (codes "pattern") value;
    } ∷ flag_step path (codes "case-sensitive") value
    ∷ flag_step path (codes "match-query-string") value ∷ []

abbrev pub HasPatternFault : FaultsOf
HasPatternFault path value fault = IsOfFirst (pattern_steps path value) fault

-- and a trigger in this one
abbrev pub trigger_steps : List ℕ → Data → List Step
trigger_steps path value =
    record {
      goes_well = (kind : TriggerKind) × HasKind value kind;
      has_fault = LacksRight HasKindFault path (codes "type") value;
    } ∷ list_step IsText HasTextFault path (codes "metadata.urls") value
    ∷ list_step IsText HasTextFault path (codes "content.urls") value
    ∷ list_step IsText HasTextFault path (codes "content.ccid") value
    ∷ list_step IsWrittenPattern HasPatternFault path (codes "metadata.patterns") value
    ∷ list_step IsWrittenPattern HasPatternFault path (codes "content.patterns") value ∷ []

abbrev pub HasTriggerFault : FaultsOf
HasTriggerFault path value fault = IsOfFirst (trigger_steps path value) fault

-- neither `trigger` nor `cancel` is there, or both are, or the one that is there is wrong
abbrev pub HasFormFault : Data → FieldFault → Type 0
HasFormFault value fault =
    (Lacks (codes "trigger") value × Lacks (codes "cancel") value × IsAt (child_of [] (codes "trigger")) Missing fault)
    ⊎ (((trigger : Data) × (cancel : Data) × Has (codes "trigger") trigger value × Has (codes "cancel") cancel value
    × IsAt (child_of [] (codes "cancel")) WrongKind fault)
    ⊎ ((Lacks (codes "cancel") value × HasWrong HasTriggerFault [] (codes "trigger") value fault)
    ⊎ (Lacks (codes "trigger") value
    × HasWrong (HasListFault IsText HasTextFault) [] (codes "cancel") value fault)))

-- the fault of a command's fields
abbrev pub HasFieldFault : Data → FieldFault → Type 0
HasFieldFault value fault = LacksRight (HasListFault IsId HasIdFault) [] (codes "cdn-path") value fault
    ⊎ (((path : List ProviderId) × HasPath value path) × HasFormFault value fault)

-- ---- the checks that follow

-- the item at this place, counted from 0, is the first that is not right
abbrev pub IsFirstWrong : {A : Type 0} → (A → Type 0) → List A → ℕ → Type 0
IsFirstWrong {A} IsRight xs i = (x : A) × (slice_get xs i ≡ Some x) × (IsRight x → ⊥) × All IsRight (take i xs)

-- the text is an absolute URL
abbrev pub IsAbsoluteUrl : List ℕ → Type 0
IsAbsoluteUrl text = (target : Target) × IsTarget text None false target

-- the text is the URL of a status resource at this host
abbrev pub IsSomeStatusUrl : List ℕ → List ℕ → Type 0
IsSomeStatusUrl control text = (id : ℕ) × IsStatusUrl control text id

abbrev pub IsShort : WrittenPattern → Type 0
IsShort pattern = length pattern.text ≤ 1024

abbrev pub pattern_count : WrittenTrigger → ℕ
pattern_count trigger = length trigger.metadata_patterns + length trigger.content_patterns

-- how many items the five lists have together
abbrev pub item_count : WrittenTrigger → ℕ
item_count trigger = length trigger.metadata_urls + length trigger.content_urls + length trigger.ccids
    + pattern_count trigger

-- what a preposition may not have is not there
abbrev pub IsAllowed : WrittenTrigger → Type 0
IsAllowed trigger = trigger.kind ≡ Preposition → (pattern_count trigger ≡ 0) × (length trigger.ccids ≡ 0)

-- the lists have the right numbers of items
pub record HasRightLists (trigger : WrittenTrigger) : Type 0 where
  pub some : 0 < item_count trigger
  pub allowed : IsAllowed trigger
  pub few : item_count trigger ≤ SELECTION_MAX

-- the URLs of both lists, and the patterns of both
abbrev pub urls_of : WrittenTrigger → List (List ℕ)
urls_of trigger = trigger.metadata_urls ++ trigger.content_urls

abbrev pub patterns_of : WrittenTrigger → List WrittenPattern
patterns_of trigger = trigger.metadata_patterns ++ trigger.content_patterns

-- what is wrong with a trigger whose fields are right, each fault where no earlier check fails
abbrev pub IsWrongTrigger : WrittenTrigger → CommandFault → Type 0
IsWrongTrigger trigger fault.NoSelection = item_count trigger ≡ 0
IsWrongTrigger trigger fault.PatternInPreposition = (trigger.kind ≡ Preposition) × (0 < pattern_count trigger)
IsWrongTrigger trigger fault.CcidInPreposition =
    (trigger.kind ≡ Preposition) × (pattern_count trigger ≡ 0) × (0 < length trigger.ccids)
IsWrongTrigger trigger (fault.TooMany n) =
    IsAllowed trigger × (SELECTION_MAX < item_count trigger) × (n ≡ min (item_count trigger) (2 ^ 64 - 1))
IsWrongTrigger trigger (fault.BadUrl index) =
    HasRightLists trigger × IsFirstWrong IsAbsoluteUrl (urls_of trigger) index
IsWrongTrigger trigger (fault.BadPattern index) =
    HasRightLists trigger × All IsAbsoluteUrl (urls_of trigger) × IsFirstWrong IsShort (patterns_of trigger) index
IsWrongTrigger trigger other = ⊥

-- what is wrong with a cancel
abbrev pub IsWrongCancel : List ℕ → List (List ℕ) → CommandFault → Type 0
IsWrongCancel control texts (fault.BadUrl index) = IsFirstWrong (IsSomeStatusUrl control) texts index
IsWrongCancel control texts other = ⊥

abbrev pub IsWrongAct : List ℕ → WrittenAct → CommandFault → Type 0
IsWrongAct control (new_trigger trigger) wrong = IsWrongTrigger trigger wrong
IsWrongAct control (cancel_of texts) wrong = IsWrongCancel control texts wrong

-- what is wrong with a command whose fields are right: it came through this CDN (RFC 8007, section 4.6), or else what
-- it commands is wrong
abbrev pub IsWrongCommand : ProviderId → List ℕ → List ProviderId → WrittenAct → CommandFault → Type 0
IsWrongCommand own control path act fault.Loop = Contains path own
IsWrongCommand own control path act wrong = (Contains path own → ⊥) × IsWrongAct control act wrong

-- the fault of a JSON value: that of a field where one is wrong, and else that of the command
abbrev pub IsFirstOfValue : ProviderId → List ℕ → Data → CommandFault → Type 0
IsFirstOfValue own control value (fault.Field field) = HasFieldFault value field
IsFirstOfValue own control value wrong =
    (path : List ProviderId) × (act : WrittenAct) × HasPath value path × IsWrittenAct value act
    × IsWrongCommand own control path act wrong

-- the first fault of a text
abbrev pub IsFirstFault : ProviderId → List ℕ → List ℕ → CommandFault → Type 0
IsFirstFault own control text fault.NotJson = json_of text ≡ None
IsFirstFault own control text wrong =
    (value : Data) × (json_of text ≡ Some value) × IsFirstOfValue own control value wrong
