-- The trigger that a status resource shows, as the trigger of a command.
use Rattle.std.proofs.Common.{◌≡◌, ℕ, List, [], ◌∷◌, map, All, Contains, codes, refl, sym, ◌∙◌, subst, inl, inr, None, Some}
use Rattle.std.specs.List.{AllZip}
use Rattle.std.proofs.lemmas.List.Elements.{All-head, All-tail}
use Rattle.cdni_base.specs.Provider.{IsProvider}
use Rattle.cdni_base.specs.declared.provider.ProviderId.{ProviderId}
use Rattle.serde_json.specs.Data.{Data, string, array, object, Items, no_items, item, Members, no_members, member}
use Rattle.serde_json.specs.Find.{get, get_member}
use Rattle.trigger_command.specs.Spec.{SpecParts}
use Rattle.trigger_command.specs.declared.command.Act.TheVariants as act
use Rattle.trigger_command.specs.declared.selection.PatternItem.{PatternItem}
use Rattle.trigger_command.specs.declared.selection.UrlItem.{UrlItem}
use Rattle.trigger_status.specs.Items.{each_as, url_data, pattern_data, with_list}
use Rattle.trigger_status.specs.Job.{kind_name, job_data, last_members, error_items, trigger_data}
use Rattle.trigger_status.specs.declared.job.Job.{Job}
use Rattle.command_law.specs.Grammar.{HasList, IsText, IsId, IsUrl, IsPattern, IsSpec, IsCommandValue}
use Rattle.trigger_status.specs.Command.{command_data, id_data}

-- ---- looking behind a list that may be left out

-- a list of another name is passed over
passed : (name other : List ℕ) (items : Items) (others : Members) → ((value : Data) → get_member name (member other value others) ≡ get_member name others)
    → get_member name (with_list other items others) ≡ get_member name others
passed name other no_items others step = refl
passed name other (item value items) others step = step (array (item value items))

-- ---- what each item of a list that is written writes

module _ {A : Type 0} (IsItem : Data → A → Type 0) (write : A → Data) (again : (value : Data) (x : A) → IsItem value x → IsItem (write x) x) where
  each_again : (values : List Data) (xs : List A) → AllZip IsItem values xs → AllZip IsItem (map write xs) xs
  each_again [] [] all = tt
  each_again [] (x ∷ xs) all = absurd all
  each_again (value ∷ values) [] all = absurd all
  each_again (value ∷ values) (x ∷ xs) all = (again value x all.0, each_again values xs all.1)

  list_again : (name : List ℕ) (value : Data) (xs : List A) → HasList IsItem name value xs → AllZip IsItem (map write xs) xs
  list_again name value xs (inl none) = subst (λ ys. AllZip IsItem (map write ys) ys) (sym none.1) tt
  list_again name value xs (inr some) = each_again some.2.0 xs some.2.2

  -- a list that is written where it is not empty
  found_there : (name : List ℕ) (xs : List A) (others : Members) → ((value : Data) → get_member name (member name value others) ≡ Some value) → get_member name others ≡ None
      → AllZip IsItem (map write xs) xs → HasList IsItem name (object (with_list name (each_as write xs) others)) xs
  found_there name [] others here none all = inl (none, refl)
  found_there name (x ∷ xs) others here none all = inr (array (each_as write (x ∷ xs)), here (array (each_as write (x ∷ xs))), (map write (x ∷ xs), refl, all))

-- a list that is found behind others
module _ {A : Type 0} (IsItem : Data → A → Type 0) where
  behind : (name : List ℕ) (before others : Members) (xs : List A) → get_member name before ≡ get_member name others → HasList IsItem name (object others) xs → HasList IsItem name (object before) xs
  behind name before others xs same (inl none) = inl (same ∙ none.0, none.1)
  behind name before others xs same (inr some) = inr (some.0, same ∙ some.1, some.2)

url_again : (value : Data) (url : UrlItem) → IsUrl value url → IsUrl (url_data url) url
url_again value url so = record { text = refl; absolute = so.absolute }

pattern_again : (value : Data) (pattern : PatternItem) → IsPattern value pattern → IsPattern (pattern_data pattern) pattern
pattern_again value pattern so = record { text = refl; short = so.short; case = inr refl; query = inr refl; pattern = so.pattern }

text_again : (value : Data) (text : List ℕ) → IsText value text → IsText (string text) text
text_again value text so = refl

-- ---- the trigger

module _ (spec : SpecParts) where
  abbrev pub kind_members : Members
  kind_members = member (codes "type") (string (kind_name spec.kind)) no_members

  abbrev pub from_metadata_urls : Members
  from_metadata_urls = with_list (codes "metadata.urls") (each_as url_data spec.selection.metadata_urls) kind_members

  abbrev pub from_metadata_patterns : Members
  from_metadata_patterns = with_list (codes "metadata.patterns") (each_as pattern_data spec.selection.metadata_patterns) from_metadata_urls

  abbrev pub from_content_urls : Members
  from_content_urls = with_list (codes "content.urls") (each_as url_data spec.selection.content_urls) from_metadata_patterns

  abbrev pub from_content_patterns : Members
  from_content_patterns = with_list (codes "content.patterns") (each_as pattern_data spec.selection.content_patterns) from_content_urls

  abbrev pub from_ccids : Members
  from_ccids = with_list (codes "content.ccid") (each_as string spec.selection.ccids) from_content_patterns

  pub trigger_is : trigger_data spec ≡ object from_ccids
  unfolding trigger_data
  trigger_is = refl

  -- a name that is none of the lists' is found behind them; likewise one of them behind those before it
  past_ccids : (name : List ℕ) → ((value : Data) (others : Members) → get_member name (member (codes "content.ccid") value others) ≡ get_member name others) → get_member name from_ccids ≡ get_member name from_content_patterns
  past_ccids name step = passed name (codes "content.ccid") (each_as string spec.selection.ccids) from_content_patterns (λ value. step value from_content_patterns)

  past_content_patterns : (name : List ℕ) → ((value : Data) (others : Members) → get_member name (member (codes "content.patterns") value others) ≡ get_member name others) → get_member name from_content_patterns ≡ get_member name from_content_urls
  past_content_patterns name step = passed name (codes "content.patterns") (each_as pattern_data spec.selection.content_patterns) from_content_urls (λ value. step value from_content_urls)

  past_content_urls : (name : List ℕ) → ((value : Data) (others : Members) → get_member name (member (codes "content.urls") value others) ≡ get_member name others) → get_member name from_content_urls ≡ get_member name from_metadata_patterns
  past_content_urls name step = passed name (codes "content.urls") (each_as url_data spec.selection.content_urls) from_metadata_patterns (λ value. step value from_metadata_patterns)

  past_metadata_patterns : (name : List ℕ) → ((value : Data) (others : Members) → get_member name (member (codes "metadata.patterns") value others) ≡ get_member name others) → get_member name from_metadata_patterns ≡ get_member name from_metadata_urls
  past_metadata_patterns name step = passed name (codes "metadata.patterns") (each_as pattern_data spec.selection.metadata_patterns) from_metadata_urls (λ value. step value from_metadata_urls)

  past_metadata_urls : (name : List ℕ) → ((value : Data) (others : Members) → get_member name (member (codes "metadata.urls") value others) ≡ get_member name others) → get_member name from_metadata_urls ≡ get_member name kind_members
  past_metadata_urls name step = passed name (codes "metadata.urls") (each_as url_data spec.selection.metadata_urls) kind_members (λ value. step value kind_members)

  -- what stands behind a list has no list of its name
  no_content_patterns : get_member (codes "content.patterns") from_content_urls ≡ None
  no_content_patterns = let name = codes "content.patterns" in past_content_urls name (λ value others. refl) ∙ past_metadata_patterns name (λ value others. refl) ∙ past_metadata_urls name (λ value others. refl)

  no_ccids : get_member (codes "content.ccid") from_content_patterns ≡ None
  no_ccids = let name = codes "content.ccid" in past_content_patterns name (λ value others. refl) ∙ past_content_urls name (λ value others. refl) ∙ past_metadata_patterns name (λ value others. refl) ∙ past_metadata_urls name (λ value others. refl)

  no_content_urls : get_member (codes "content.urls") from_metadata_patterns ≡ None
  no_content_urls = let name = codes "content.urls" in past_metadata_patterns name (λ value others. refl) ∙ past_metadata_urls name (λ value others. refl)

  no_metadata_patterns : get_member (codes "metadata.patterns") from_metadata_urls ≡ None
  no_metadata_patterns = past_metadata_urls (codes "metadata.patterns") (λ value others. refl)

  shown_is_spec : (value : Data) → IsSpec value spec → IsSpec (trigger_data spec) spec
  shown_is_spec value so = subst (λ d. IsSpec d spec) (sym trigger_is) (record {
    kind = let name = codes "type" in past_ccids name (λ value others. refl) ∙ past_content_patterns name (λ value others. refl) ∙ past_content_urls name (λ value others. refl)
        ∙ past_metadata_patterns name (λ value others. refl) ∙ past_metadata_urls name (λ value others. refl);
    metadata_urls = let name = codes "metadata.urls" in behind IsUrl name from_ccids from_metadata_urls spec.selection.metadata_urls
        (past_ccids name (λ value others. refl) ∙ past_content_patterns name (λ value others. refl) ∙ past_content_urls name (λ value others. refl) ∙ past_metadata_patterns name (λ value others. refl))
        (found_there IsUrl url_data url_again name spec.selection.metadata_urls kind_members (λ value. refl) refl (list_again IsUrl url_data url_again name value spec.selection.metadata_urls so.metadata_urls));
    content_urls = let name = codes "content.urls" in behind IsUrl name from_ccids from_content_urls spec.selection.content_urls
        (past_ccids name (λ value others. refl) ∙ past_content_patterns name (λ value others. refl))
        (found_there IsUrl url_data url_again name spec.selection.content_urls from_metadata_patterns (λ value. refl) no_content_urls (list_again IsUrl url_data url_again name value spec.selection.content_urls so.content_urls));
    ccids = let name = codes "content.ccid" in
        found_there IsText string text_again name spec.selection.ccids from_content_patterns (λ value. refl) no_ccids (list_again IsText string text_again name value spec.selection.ccids so.ccids);
    metadata_patterns = let name = codes "metadata.patterns" in behind IsPattern name from_ccids from_metadata_patterns spec.selection.metadata_patterns
        (past_ccids name (λ value others. refl) ∙ past_content_patterns name (λ value others. refl) ∙ past_content_urls name (λ value others. refl))
        (found_there IsPattern pattern_data pattern_again name spec.selection.metadata_patterns from_metadata_urls (λ value. refl) no_metadata_patterns (list_again IsPattern pattern_data pattern_again name value spec.selection.metadata_patterns so.metadata_patterns));
    content_patterns = let name = codes "content.patterns" in behind IsPattern name from_ccids from_content_patterns spec.selection.content_patterns
        (past_ccids name (λ value others. refl))
        (found_there IsPattern pattern_data pattern_again name spec.selection.content_patterns from_content_urls (λ value. refl) no_content_patterns (list_again IsPattern pattern_data pattern_again name value spec.selection.content_patterns so.content_patterns));
    some = so.some;
    few = so.few;
    preposition = so.preposition;
  })

-- ---- the command

ids_are : (path : List ProviderId) → All (λ id. IsProvider id.0) path → AllZip IsId (map id_data path) path
ids_are [] all = tt
ids_are (id ∷ path) all = ((refl, All-head (λ i. IsProvider i.0) id path all), ids_are path (All-tail (λ i. IsProvider i.0) id path all))

pub shown_is_command : (other : ProviderId) (elsewhere : List ℕ) (path : List ProviderId) (spec : SpecParts) (value : Data) → IsSpec value spec → All (λ id. IsProvider id.0) path → (Contains path other → ⊥)
    → IsCommandValue other elsewhere (command_data path spec) (record { path = path; act = act.Trigger spec })
shown_is_command other elsewhere path spec value so ids foreign = record {
  list = array (each_as id_data path);
  has_path = refl;
  path = (map id_data path, refl, ids_are path ids);
  foreign = foreign;
  act = (trigger_data spec, refl, refl, shown_is_spec spec value so);
}

-- ---- the resource

pub shows_trigger : (job : Job) → get (codes "trigger") (job_data job) ≡ Some (trigger_data job.spec)
unfolding job_data last_members
shows_trigger job = passed (codes "trigger") (codes "errors") (error_items job.emeta job.spec job.econtent) (last_members job) (λ value. refl)
