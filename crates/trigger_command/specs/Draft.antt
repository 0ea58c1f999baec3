-- What the JSON of a trigger command writes, before its URLs and patterns are read (RFC 8007, section 5.1.1).
use Rattle.std.specs.Prelude.{ℕ, ◌+◌, Bool, false, List, [], ◌∷◌, codes, bytes_eq, None, Some, Ok, if◌then◌else◌}
use Rattle.std.specs.Result.{result_ok}
use Rattle.std.specs.declared.option.Option.{Option}
use Rattle.std.specs.declared.result.Result.{Result}
use Rattle.serde_json.specs.Data.{Data, Items, no_items, item}
use Rattle.cdni_base.specs.Provider.{provider_of}
use Rattle.cdni_base.specs.declared.provider.ProviderId.{ProviderId}
use Rattle.json_read.specs.Field.{◌>>=◌, or_fault, looked_up, needed, text_of, items_of, flag_of}
use Rattle.json_read.specs.Path.{child_of, item_of}
use Rattle.json_read.specs.declared.fault.FieldCause.TheVariants.{Missing, WrongKind, OutOfRange}
use Rattle.json_read.specs.declared.fault.FieldFault.{FieldFault}
use Rattle.trigger_command.specs.declared.draft.Draft.{Draft}
use Rattle.trigger_command.specs.declared.draft.Form.{Form}
use Rattle.trigger_command.specs.declared.draft.Form.TheVariants.{Trigger, Cancel}
use Rattle.trigger_command.specs.declared.draft.PatternDraft.{PatternDraft}
use Rattle.trigger_command.specs.declared.draft.Written.{Written}
use Rattle.trigger_command.specs.declared.spec.TriggerKind.{TriggerKind}
use Rattle.trigger_command.specs.declared.spec.TriggerKind.TheVariants.{Preposition, Invalidate, Purge}

-- the value of a field, or its fault
abbrev pub Reading : Type 0 → Type 0
Reading A = Result A FieldFault

-- each of these, read one after the other under its number, which is this one for the first; or the first fault
unfoldable pub each_from : {A B F : Type 0} → (ℕ → B → Result A F) → ℕ → List B → Result (List A) F
each_from read i [] = Ok []
each_from read i (x ∷ xs) = do
  first ← read i x
  others ← each_from read (i + 1) xs
  Ok (first ∷ others)

abbrev pub values_of : Items → List Data
values_of no_items = []
values_of (item value values) = value ∷ values_of values

-- the items of a list, each read at its own place
abbrev pub each_of : {A : Type 0} → (List ℕ → Data → Reading A) → List ℕ → List Data → Reading (List A)
each_of read path values = each_from (λ i value. read (item_of path i) value) 0 values

unfoldable pub list_of : {A : Type 0} → (List ℕ → Data → Reading A) → List ℕ → Data → Reading (List A)
list_of read path value = items_of path value >>= λ items. each_of read path (values_of items)

abbrev pub list_found : {A : Type 0} → (List ℕ → Data → Reading A) → List ℕ → Option Data → Reading (List A)
list_found read path None = Ok []
list_found read path (Some list) = list_of read path list

-- a list that may be absent, which is then empty
unfoldable pub list_or : {A : Type 0} → (List ℕ → Data → Reading A) → List ℕ → List ℕ → Data → Reading (List A)
list_or read path name value = looked_up path name value >>= λ found. list_found read (child_of path name) found

-- a provider id (RFC 8007, section 4.6)
unfoldable pub provider_at : List ℕ → Data → Reading ProviderId
provider_at path value =
    text_of path value >>= λ text. or_fault path OutOfRange (result_ok (provider_of text))

unfoldable pub needed_text : List ℕ → List ℕ → Data → Reading (List ℕ)
needed_text path name value = needed path name value >>= λ member. text_of (child_of path name) member

abbrev pub flag_found : List ℕ → Option Data → Reading Bool
flag_found path None = Ok false
flag_found path (Some member) = flag_of path member

-- a flag, which is false where it is absent
unfoldable pub flag_or_false : List ℕ → List ℕ → Data → Reading Bool
flag_or_false path name value = looked_up path name value >>= λ found. flag_found (child_of path name) found

-- a PatternMatch (RFC 8007, section 5.2.4)
unfoldable pub pattern_at : List ℕ → Data → Reading PatternDraft
pattern_at path value = do
  text ← needed_text path (codes "pattern") value
  case ← flag_or_false path (codes "case-sensitive") value
  query ← flag_or_false path (codes "match-query-string") value
  Ok (record { text = text; case = case; query = query })

-- the type of a trigger (RFC 8007, section 5.2.2)
abbrev pub kind_named : List ℕ → Option TriggerKind
kind_named word = if bytes_eq word (codes "preposition") then Some Preposition
    else (if bytes_eq word (codes "invalidate") then Some Invalidate
    else (if bytes_eq word (codes "purge") then Some Purge else None))

unfoldable pub kind_at : List ℕ → Data → Reading TriggerKind
kind_at path value =
    needed_text path (codes "type") value
    >>= λ word. or_fault (child_of path (codes "type")) OutOfRange (kind_named word)

-- a trigger specification (RFC 8007, section 5.2.1)
unfoldable pub draft_at : List ℕ → Data → Reading Draft
draft_at path value = do
  kind ← kind_at path value
  metadata_urls ← list_or text_of path (codes "metadata.urls") value
  content_urls ← list_or text_of path (codes "content.urls") value
  ccids ← list_or text_of path (codes "content.ccid") value
  metadata_patterns ← list_or pattern_at path (codes "metadata.patterns") value
  content_patterns ← list_or pattern_at path (codes "content.patterns") value
  Ok (record {
    kind = kind;
    metadata_urls = metadata_urls;
    content_urls = content_urls;
    ccids = ccids;
    metadata_patterns = metadata_patterns;
    content_patterns = content_patterns;
  })

-- exactly one of `trigger` and `cancel` is there
abbrev pub form_found : Option Data → Option Data → Reading Form
form_found None None = or_fault (child_of [] (codes "trigger")) Missing None
form_found (Some trigger) (Some cancel) = or_fault (child_of [] (codes "cancel")) WrongKind None
form_found (Some trigger) None = draft_at (child_of [] (codes "trigger")) trigger >>= λ draft. Ok (Trigger draft)
form_found None (Some cancel) = list_of text_of (child_of [] (codes "cancel")) cancel >>= λ texts. Ok (Cancel texts)

unfoldable pub form_at : Data → Reading Form
form_at value = looked_up [] (codes "trigger") value >>= λ trigger. looked_up [] (codes "cancel") value
    >>= λ cancel. form_found trigger cancel

unfoldable pub path_at : Data → Reading (List ProviderId)
path_at value = needed [] (codes "cdn-path") value >>= λ list. list_of provider_at (child_of [] (codes "cdn-path")) list

-- a trigger command, as it is written
unfoldable pub written_of : Data → Reading Written
written_of value = do
  path ← path_at value
  form ← form_at value
  Ok (record { path = path; form = form })
