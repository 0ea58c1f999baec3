-- The grammar of trigger commands: what a JSON value must be to write one (RFC 8007, sections 4.6, 5.1.1 and 5.2). A
-- property is found by its name, wherever it stands in its object, and properties of other names play no part.
use Rattle.std.specs.Prelude.{◌≡◌, ◌⊎◌, ℕ, ◌^◌, ◌<◌, ◌≤◌, Bool, false, List, [], ◌++◌, length, codes}
use Rattle.std.specs.Prelude.{decimal, None, Some, Contains}
use Rattle.std.specs.List.{AllZip}
use Rattle.cdni_base.specs.Provider.{IsProvider}
use Rattle.cdni_base.specs.declared.provider.ProviderId.{ProviderId}
use Rattle.json_read.specs.Text.{json_of}
use Rattle.pattern_match.specs.Matching.{compiled}
use Rattle.serde_json.specs.Data.{Data, boolean, string, array}
use Rattle.serde_json.specs.Find.{get}
use Rattle.serde_json.specs.View.{items_of}
use Rattle.targets.specs.Grammar.{IsTarget}
use Rattle.trigger_command.specs.Selection.{item_count}
use Rattle.trigger_command.specs.Spec.{SpecParts}
use Rattle.trigger_command.specs.declared.command.Act.{Act}
use Rattle.trigger_command.specs.declared.command.Act.TheVariants as act
use Rattle.trigger_command.specs.declared.command.Command.{Command}
use Rattle.trigger_command.specs.declared.selection.PatternItem.{PatternItem}
use Rattle.trigger_command.specs.declared.selection.Selection.{Selection}
use Rattle.trigger_command.specs.declared.selection.UrlItem.{UrlItem}
use Rattle.trigger_command.specs.declared.spec.TheConstants.{SELECTION_MAX}
use Rattle.trigger_command.specs.declared.spec.TriggerKind.TheVariants.{Preposition}
use Rattle.trigger_status.specs.Job.{kind_name}

-- the value is an object with this property, which has this value
abbrev pub Has : List ℕ → Data → Data → Type 0
Has name value owner = get name owner ≡ Some value

-- the value has no such property
abbrev pub Lacks : List ℕ → Data → Type 0
Lacks name owner = get name owner ≡ None

-- the value is a list, and its items write these, in their order
abbrev pub IsList : {A : Type 0} → (Data → A → Type 0) → Data → List A → Type 0
IsList IsItem value xs = (items : List Data) × (value ≡ array (items_of items)) × AllZip IsItem items xs

-- a property with such a list; where it is absent, the list is empty
abbrev pub HasList : {A : Type 0} → (Data → A → Type 0) → List ℕ → Data → List A → Type 0
HasList IsItem name owner xs =
    (Lacks name owner × (xs ≡ [])) ⊎ ((list : Data) × Has name list owner × IsList IsItem list xs)

-- a property that is `true` or `false`; where it is absent, it is `false`
abbrev pub HasFlag : List ℕ → Data → Bool → Type 0
HasFlag name owner flag = (Lacks name owner × (flag ≡ false)) ⊎ Has name (boolean flag) owner

abbrev pub IsText : Data → List ℕ → Type 0
IsText value text = value ≡ string text

-- the value is the text of a CDN provider id (RFC 8007, section 4.6)
abbrev pub IsId : Data → ProviderId → Type 0
IsId value id = (value ≡ string id.0) × IsProvider id.0

-- the value is the text of an absolute URL, and names this target (RFC 8007, section 5.2.1)
pub record IsUrl (value : Data) (url : UrlItem) : Type 0 where
  pub text : value ≡ string url.text
  pub absolute : IsTarget url.text None false url.target

-- the value is a PatternMatch (RFC 8007, section 5.2.4), of at most 1,024 bytes
pub record IsPattern (value : Data) (item : PatternItem) : Type 0 where
  pub text : Has (codes "pattern") (string item.text) value
  pub short : length item.text ≤ 1024
  pub case : HasFlag (codes "case-sensitive") value item.case
  pub query : HasFlag (codes "match-query-string") value item.query
  pub pattern : item.pattern ≡ compiled item.text item.case

-- only URLs are selected
abbrev pub HasUrlsAlone : Selection → Type 0
HasUrlsAlone selection =
    (selection.ccids ≡ []) × (selection.metadata_patterns ≡ []) × (selection.content_patterns ≡ [])

-- the value is a trigger specification (RFC 8007, sections 5.2.1 and 5.2.2): its type is one of three, it selects
-- something and at most 1,000 items, and what is to be fetched before it is asked for is selected by URLs alone
pub record IsSpec (value : Data) (spec : SpecParts) : Type 0 where
  pub kind : Has (codes "type") (string (kind_name spec.kind)) value
  pub metadata_urls : HasList IsUrl (codes "metadata.urls") value spec.selection.metadata_urls
  pub content_urls : HasList IsUrl (codes "content.urls") value spec.selection.content_urls
  pub ccids : HasList IsText (codes "content.ccid") value spec.selection.ccids
  pub metadata_patterns : HasList IsPattern (codes "metadata.patterns") value spec.selection.metadata_patterns
  pub content_patterns : HasList IsPattern (codes "content.patterns") value spec.selection.content_patterns
  pub some : 0 < item_count spec.selection
  pub few : item_count spec.selection ≤ SELECTION_MAX
  pub preposition : spec.kind ≡ Preposition → HasUrlsAlone spec.selection

-- the scheme of a status resource's URL, in lower case, with its `://`
abbrev pub IsLowerScheme : List ℕ → Type 0
IsLowerScheme scheme = (scheme ≡ codes "http://") ⊎ (scheme ≡ codes "https://")

-- the URL of the status resource of the trigger of this number, at this host (RFC 8007, section 4.3)
abbrev pub IsStatusUrl : List ℕ → List ℕ → ℕ → Type 0
IsStatusUrl control text id = (scheme : List ℕ) × IsLowerScheme scheme
    × (text ≡ scheme ++ (control ++ (codes "/triggers/" ++ decimal id))) × (id < 2 ^ 64)

-- the value is the text of such a URL
abbrev pub IsStatusLink : List ℕ → Data → ℕ → Type 0
IsStatusLink control value id = (text : List ℕ) × (value ≡ string text) × IsStatusUrl control text id

-- exactly one of `trigger` and `cancel` is there (RFC 8007, section 5.1.1)
abbrev pub IsAct : List ℕ → Data → Act → Type 0
IsAct control value (act.Trigger spec) =
    (trigger : Data) × Has (codes "trigger") trigger value × Lacks (codes "cancel") value × IsSpec trigger spec
IsAct control value (act.Cancel ids) =
    (cancel : Data) × Has (codes "cancel") cancel value × Lacks (codes "trigger") value
    × IsList (IsStatusLink control) cancel ids

-- The value writes this command, for the CDN of this provider id and this control host (RFC 8007, section 5.1.1). Its
-- path is a list of provider ids, and this CDN's own is not among them (section 4.6).
pub record IsCommandValue (own : ProviderId) (control : List ℕ) (value : Data) (command : Command) : Type 0 where
  pub list : Data
  pub has_path : Has (codes "cdn-path") list value
  pub path : IsList IsId list command.path
  pub foreign : Contains command.path own → ⊥
  pub act : IsAct control value command.act

-- the text is the JSON text of such a value
abbrev pub IsCommand : ProviderId → List ℕ → List ℕ → Command → Type 0
IsCommand own control text command =
    (value : Data) × (json_of text ≡ Some value) × IsCommandValue own control value command
