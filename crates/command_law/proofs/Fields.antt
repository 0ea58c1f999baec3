-- The fields of a command: what is read of each is what the grammar says.
use Rattle.std.proofs.Common.{◌≡◌, ◌≢◌, ℕ, Bool, true, false, List, [], ◌∷◌, map, take, codes, bytes_eq, refl, sym, ap, ◌∙◌, subst, inl, inr, Ok, Err, None, Some, Option, arith}
use Rattle.std.specs.List.{AllZip}
use Rattle.std.specs.Prelude.{◌⊎◌, if◌then◌else◌}
use Rattle.std.specs.Option.{option_map_or}
use Rattle.std.specs.Result.{result_ok}
use Rattle.std.specs.declared.result.Result.{Result}
use Rattle.std.proofs.lemmas.Option.{none-some, same_Some}
use Rattle.std.proofs.lemmas.Slice.Eq.{bytes_eq-Decides}
use Rattle.cdni_base.specs.Provider.{IsProvider, wrong_place}
use Rattle.cdni_base.specs.declared.provider.ProviderId.{ProviderId}
use Rattle.cdni_base.specs.declared.provider.ProviderFault.{ProviderFault}
use Rattle.cdni_base.specs.declared.provider.ProviderFault.TheVariants.{Bad}
use Rattle.cdni_base.proofs.ProviderLemmas.{provider_right, right_provider}
use Rattle.json_read.specs.Field.{◌>>=◌, or_fault, needed, text_of, items_of, flag_of}
use Rattle.json_read.specs.Path.{child_of, item_of}
use Rattle.json_read.specs.declared.fault.FieldCause.{FieldCause}
use Rattle.json_read.specs.declared.fault.FieldCause.TheVariants.{Missing, WrongKind, OutOfRange}
use Rattle.json_read.specs.declared.fault.FieldFault.{FieldFault}
use Rattle.serde_json.specs.Data.{Data, null, boolean, number, string, array, object, Items, no_items, item, Members}
use Rattle.serde_json.specs.Find.{get, get_member, as_array, as_bool, as_object, as_str}
use Rattle.serde_json.specs.View as view
use Rattle.trigger_command.proofs.Loops.{values_of_items}
use Rattle.trigger_command.specs.Draft.{Reading, each_of, values_of, list_of, list_found, list_or, provider_at, needed_text, flag_found, flag_or_false, pattern_at, kind_named, kind_at, draft_at, path_at}
use Rattle.trigger_command.specs.Reading.{draft_count, pattern_item}
use Rattle.trigger_command.specs.declared.spec.TriggerKind.{TriggerKind}
use Rattle.trigger_command.specs.declared.spec.TriggerKind.TheVariants.{Preposition, Invalidate, Purge}
use Rattle.trigger_status.specs.Job.{kind_name}
use Rattle.command_law.specs.Grammar.{Has, Lacks, IsList, HasList, HasFlag, IsText, IsId}
use Rattle.command_law.specs.Faults.{IsAt, HasTextFault, HasFlagFault, HasIdFault, HasKindFault, HasListFault, HasWrong, LacksRight, HasKind, WrittenPattern, IsWrittenPattern, HasPatternFault, WrittenTrigger, IsWrittenTrigger, HasTriggerFault, HasPath, IsOfFirstItem}
use Rattle.command_law.proofs.Meets.{Meets, meets_ok, meets_err, meets_also, meets_then, meets_step, meets_step_by, meets_each}

-- ---- values of one kind

-- what is looked for is found, or the fault stands here
found_or_not : {A : Type 0} (path : List ℕ) (cause : FieldCause) (found : Option A) → Meets (or_fault path cause found) (λ a. found ≡ Some a) (λ fault. (found ≡ None) × IsAt path cause fault)
found_or_not path cause None = meets_also (Err (record { path = path; cause = cause })) (meets_err (record { path = path; cause = cause }))
    (λ a none. absurd none) (λ a is. none-some a is) (λ fault is. (refl, is)) (λ fault is. is.1)
found_or_not path cause (Some a) = meets_also (Ok a) (meets_ok a)
    (λ b is. ap Some is) (λ b is. same_Some a b is) (λ fault none. absurd none) (λ fault is. none-some a (sym is.0))

str_is : (value : Data) (text : List ℕ) → as_str value ≡ Some text → value ≡ string text
str_is null text is = absurd (none-some text is)
str_is (boolean b) text is = absurd (none-some text is)
str_is (number n) text is = absurd (none-some text is)
str_is (string s) text is = ap string (same_Some s text is)
str_is (array ds) text is = absurd (none-some text is)
str_is (object ms) text is = absurd (none-some text is)

bool_is : (value : Data) (flag : Bool) → as_bool value ≡ Some flag → value ≡ boolean flag
bool_is null flag is = absurd (none-some flag is)
bool_is (boolean b) flag is = ap boolean (same_Some b flag is)
bool_is (number n) flag is = absurd (none-some flag is)
bool_is (string s) flag is = absurd (none-some flag is)
bool_is (array ds) flag is = absurd (none-some flag is)
bool_is (object ms) flag is = absurd (none-some flag is)

array_is : (value : Data) (items : Items) → as_array value ≡ Some items → value ≡ array items
array_is null items is = absurd (none-some items is)
array_is (boolean b) items is = absurd (none-some items is)
array_is (number n) items is = absurd (none-some items is)
array_is (string s) items is = absurd (none-some items is)
array_is (array ds) items is = ap array (same_Some ds items is)
array_is (object ms) items is = absurd (none-some items is)

object_is : (value : Data) (members : Members) → as_object value ≡ Some members → value ≡ object members
object_is null members is = absurd (none-some members is)
object_is (boolean b) members is = absurd (none-some members is)
object_is (number n) members is = absurd (none-some members is)
object_is (string s) members is = absurd (none-some members is)
object_is (array ds) members is = absurd (none-some members is)
object_is (object ms) members is = ap object (same_Some ms members is)

text_meets : (path : List ℕ) (value : Data) → Meets (text_of path value) (IsText value) (HasTextFault path value)
text_meets path value = meets_also (text_of path value) (found_or_not path WrongKind (as_str value))
    (λ text is. str_is value text is) (λ text is. ap as_str is) (λ fault is. is) (λ fault is. is)

flag_meets : (path : List ℕ) (value : Data) → Meets (flag_of path value) (λ flag. value ≡ boolean flag) (HasFlagFault path value)
flag_meets path value = meets_also (flag_of path value) (found_or_not path WrongKind (as_bool value))
    (λ flag is. bool_is value flag is) (λ flag is. ap as_bool is) (λ fault is. is) (λ fault is. is)

items_meets : (path : List ℕ) (value : Data) → Meets (items_of path value) (λ items. value ≡ array items) (λ fault. (as_array value ≡ None) × IsAt path WrongKind fault)
items_meets path value = meets_also (items_of path value) (found_or_not path WrongKind (as_array value))
    (λ items is. array_is value items is) (λ items is. ap as_array is) (λ fault is. is) (λ fault is. is)

-- ---- lists

items_of_values : (items : Items) → view.items_of (values_of items) ≡ items
items_of_values no_items = refl
items_of_values (item value values) = ap (item value) (items_of_values values)

module _ {A : Type 0} (read : List ℕ → Data → Reading A) (IsItem : Data → A → Type 0) (HasFault : List ℕ → Data → FieldFault → Type 0)
    (each : (path : List ℕ) (value : Data) → Meets (read path value) (IsItem value) (HasFault path value)) where
  items_read : (path : List ℕ) (values : List Data) → Meets (each_of read path values) (λ xs. AllZip IsItem values xs) (λ fault. IsOfFirstItem IsItem HasFault path values fault)
  items_read path values = meets_also (each_of read path values)
      (meets_each (λ i value. read (item_of path i) value) IsItem (λ i value fault. HasFault (item_of path i) value fault) (λ i value. each (item_of path i) value) 0 values)
      (λ xs is. is) (λ xs is. is)
      (λ fault is. (is.0, is.1, is.2, is.3, subst (λ i. HasFault (item_of path i) is.1 fault) (omega arith) is.4))
      (λ fault is. (is.0, is.1, is.2, is.3, subst (λ i. HasFault (item_of path i) is.1 fault) (omega arith) is.4))

  pub list_meets : (path : List ℕ) (value : Data) → Meets (list_of read path value) (IsList IsItem value) (HasListFault IsItem HasFault path value)
  unfolding list_of
  list_meets path value = meets_also (list_of read path value)
      (meets_then (items_of path value) (λ items. each_of read path (values_of items)) (items_meets path value) (λ items is. items_read path (values_of items)))
      (λ xs is. (values_of is.0, is.1 ∙ ap array (sym (items_of_values is.0)), is.2))
      (λ xs is. (view.items_of is.0, is.1, subst (λ values. AllZip IsItem values xs) (sym (values_of_items is.0)) is.2))
      (λ fault is. elim is [ inl wrong ↦ inl wrong | inr later ↦ inr (values_of later.0, later.1 ∙ ap array (sym (items_of_values later.0)), later.2) ])
      (λ fault is. elim is [ inl wrong ↦ inl wrong | inr later ↦ inr (view.items_of later.0, later.1, subst (λ values. IsOfFirstItem IsItem HasFault path values fault) (sym (values_of_items later.0)) later.2) ])

  found_list : (path : List ℕ) (found : Option Data) → Meets (list_found read path found)
      (λ xs. ((found ≡ None) × (xs ≡ [])) ⊎ ((list : Data) × (found ≡ Some list) × IsList IsItem list xs)) (λ fault. (value : Data) × (found ≡ Some value) × HasListFault IsItem HasFault path value fault)
  found_list path None = meets_also (Ok []) (meets_ok []) (λ xs is. inl (refl, sym is))
      (λ xs is. elim is [ inl none ↦ sym none.1 | inr some ↦ absurd (none-some some.0 some.1) ])
      (λ fault none. absurd none) (λ fault is. none-some is.0 is.1)
  found_list path (Some list) = meets_also (list_of read path list) (list_meets path list)
      (λ xs is. inr (list, refl, is))
      (λ xs is. elim is [ inl none ↦ absurd (none-some list (sym none.0)) | inr some ↦ subst (λ l. IsList IsItem l xs) (sym (same_Some list some.0 some.1)) some.2 ])
      (λ fault is. (list, refl, is)) (λ fault is. subst (λ l. HasListFault IsItem HasFault path l fault) (sym (same_Some list is.0 is.1)) is.2)

  -- a list that may be absent, of an object
  pub list_or_meets : (path name : List ℕ) (value : Data) (members : Members) → value ≡ object members
      → Meets (list_or read path name value) (HasList IsItem name value) (HasWrong (HasListFault IsItem HasFault) path name value)
  unfolding list_or
  list_or_meets path name value members is = subst (λ v. Meets (list_or read path name v) (HasList IsItem name v) (HasWrong (HasListFault IsItem HasFault) path name v)) (sym is)
      (found_list (child_of path name) (get_member name members))

-- ---- properties

-- a flag that may be absent, of an object
found_flag : (path : List ℕ) (found : Option Data) → Meets (flag_found path found)
    (λ flag. ((found ≡ None) × (flag ≡ false)) ⊎ (found ≡ Some (boolean flag))) (λ fault. (value : Data) × (found ≡ Some value) × HasFlagFault path value fault)
found_flag path None = meets_also (Ok false) (meets_ok false) (λ flag is. inl (refl, sym is))
    (λ flag is. elim is [ inl none ↦ sym none.1 | inr some ↦ absurd (none-some (boolean flag) some) ])
    (λ fault none. absurd none) (λ fault is. none-some is.0 is.1)
found_flag path (Some member) = meets_also (flag_of path member) (flag_meets path member)
    (λ flag is. inr (ap Some is)) (λ flag is. elim is [ inl none ↦ absurd (none-some member (sym none.0)) | inr some ↦ same_Some member (boolean flag) some ])
    (λ fault is. (member, refl, is)) (λ fault is. subst (λ m. HasFlagFault path m fault) (sym (same_Some member is.0 is.1)) is.2)

flag_or_meets : (path name : List ℕ) (value : Data) (members : Members) → value ≡ object members
    → Meets (flag_or_false path name value) (HasFlag name value) (HasWrong HasFlagFault path name value)
unfolding flag_or_false
flag_or_meets path name value members is = subst (λ v. Meets (flag_or_false path name v) (HasFlag name v) (HasWrong HasFlagFault path name v)) (sym is)
    (found_flag (child_of path name) (get_member name members))

-- the value is no object, or has no such property
abbrev LacksIt : List ℕ → List ℕ → Data → FieldFault → Type 0
LacksIt path name value fault = ((as_object value ≡ None) × IsAt path WrongKind fault) ⊎ (((members : Members) × (value ≡ object members)) × Lacks name value × IsAt (child_of path name) Missing fault)

no_object : (path name : List ℕ) (value : Data) → as_object value ≡ None → get name value ≡ None
    → Meets (Err (record { path = path; cause = WrongKind })) (λ member. Has name member value) (LacksIt path name value)
no_object path name value other none = meets_also (Err (record { path = path; cause = WrongKind })) (meets_err (record { path = path; cause = WrongKind }))
    (λ member is. absurd is) (λ member is. none-some member (sym none ∙ is))
    (λ fault is. inl (other, is))
    (λ fault is. elim is [ inl wrong ↦ wrong.1 | inr lacks ↦ absurd (none-some lacks.0.0 (sym other ∙ ap as_object lacks.0.1)) ])

needed_meets : (path name : List ℕ) (value : Data) → Meets (needed path name value) (λ member. Has name member value) (LacksIt path name value)
needed_meets path name null = no_object path name null refl refl
needed_meets path name (boolean b) = no_object path name (boolean b) refl refl
needed_meets path name (number n) = no_object path name (number n) refl refl
needed_meets path name (string s) = no_object path name (string s) refl refl
needed_meets path name (array ds) = no_object path name (array ds) refl refl
needed_meets path name (object ms) = meets_also (needed path name (object ms)) (found_or_not (child_of path name) Missing (get_member name ms))
    (λ member is. is) (λ member is. is)
    (λ fault is. inr ((ms, refl), is.0, is.1))
    (λ fault is. elim is [ inl wrong ↦ absurd (none-some ms (sym wrong.0)) | inr lacks ↦ (lacks.1, lacks.2) ])

-- a property that must be there, and what is read of it
module _ {A : Type 0} (read : List ℕ → Data → Reading A) (IsIt : Data → A → Type 0) (HasFault : List ℕ → Data → FieldFault → Type 0)
    (each : (path : List ℕ) (value : Data) → Meets (read path value) (IsIt value) (HasFault path value)) where
  pub property_meets : (path name : List ℕ) (value : Data) → Meets (needed path name value >>= λ member. read (child_of path name) member)
      (λ a. (member : Data) × Has name member value × IsIt member a) (LacksRight HasFault path name value)
  property_meets path name value = meets_also (needed path name value >>= λ member. read (child_of path name) member)
      (meets_then (needed path name value) (λ member. read (child_of path name) member) (needed_meets path name value) (λ member has. each (child_of path name) member))
      (λ a is. is) (λ a is. is)
      (λ fault is. elim is [ inl lacks ↦ elim lacks [ inl neither ↦ inl neither | inr none ↦ inr (inl none) ] | inr wrong ↦ inr (inr wrong) ])
      (λ fault is. elim is [ inl neither ↦ inl (inl neither) | inr more ↦ elim more [ inl none ↦ inl (inr none) | inr wrong ↦ inr wrong ] ])

-- the value of a property that is there is an object's
pub has_object : (name : List ℕ) (value member : Data) → Has name member value → (members : Members) × (value ≡ object members)
has_object name null member is = absurd (none-some member is)
has_object name (boolean b) member is = absurd (none-some member is)
has_object name (number n) member is = absurd (none-some member is)
has_object name (string s) member is = absurd (none-some member is)
has_object name (array ds) member is = absurd (none-some member is)
has_object name (object ms) member is = (ms, refl)

needed_text_meets : (path name : List ℕ) (value : Data) → Meets (needed_text path name value) (λ text. Has name (string text) value) (LacksRight HasTextFault path name value)
unfolding needed_text
needed_text_meets path name value = meets_also (needed_text path name value) (property_meets text_of IsText HasTextFault text_meets path name value)
    (λ text is. is.1 ∙ ap Some is.2) (λ text is. (string text, is, refl)) (λ fault is. is) (λ fault is. is)

-- ---- a provider id

abbrev id_or_not : List ℕ → Option ℕ → Result ProviderId ProviderFault
id_or_not text place = option_map_or (λ at. Err (Bad at)) place (Ok (record { 0 = text }))

id_found : (text : List ℕ) (place : Option ℕ) → wrong_place text ≡ place → (path : List ℕ)
    → Meets (or_fault path OutOfRange (result_ok (id_or_not text place)))
    (λ id. (text ≡ id.0) × IsProvider id.0) (λ fault. (IsProvider text → ⊥) × IsAt path OutOfRange fault)
id_found text None is path = meets_also _ (meets_ok {A = ProviderId} (record { 0 = text }))
    (λ id same. let t : text ≡ id.0 = ap (λ (x : ProviderId). x.0) same in (t, subst IsProvider t (right_provider text is)))
    (λ id so. ap (λ (t : List ℕ). record { 0 = t }) so.0)
    (λ fault none. absurd none) (λ fault so. so.0 (right_provider text is))
id_found text (Some at) is path = meets_also _ (meets_err {F = FieldFault} (record { path = path; cause = OutOfRange }))
    (λ id none. absurd none) (λ id so. none-some at (sym (provider_right text (subst IsProvider (sym so.0) so.1)) ∙ is))
    (λ fault so. (λ right. none-some at (sym (provider_right text right) ∙ is), so)) (λ fault so. so.1)

id_meets : (path : List ℕ) (value : Data) → Meets (provider_at path value) (IsId value) (HasIdFault path value)
unfolding provider_at
id_meets path value = meets_also (provider_at path value)
    (meets_then (text_of path value) _ (text_meets path value) (λ text is. id_found text (wrong_place text) refl path))
    (λ id so. (so.1 ∙ ap string so.2.0, so.2.1)) (λ id so. (id.0, so.0, (refl, so.1)))
    (λ fault so. elim so [ inl wrong ↦ inl wrong | inr later ↦ inr (later.0, later.1, later.2.0, later.2.1) ])
    (λ fault so. elim so [ inl wrong ↦ inl wrong | inr later ↦ inr (later.0, later.1, (later.2, later.3)) ])

-- ---- the type of a trigger

same_bytes : (word other : List ℕ) → bytes_eq word other ≡ true → word ≡ other
same_bytes word other is = (bytes_eq-Decides word other).0 is

abbrev kind_by : Bool → Bool → Bool → Option TriggerKind
kind_by preposition invalidate purge = if preposition then Some Preposition else (if invalidate then Some Invalidate else (if purge then Some Purge else None))

abbrev the_tests : List ℕ → Option TriggerKind
the_tests word = kind_by (bytes_eq word (codes "preposition")) (bytes_eq word (codes "invalidate")) (bytes_eq word (codes "purge"))

kind_by_is : (a b c : Bool) (kind : TriggerKind) (word : List ℕ) → (a ≡ true → word ≡ codes "preposition") → (b ≡ true → word ≡ codes "invalidate") → (c ≡ true → word ≡ codes "purge")
    → kind_by a b c ≡ Some kind → word ≡ kind_name kind
kind_by_is true b c kind word first second third is = first refl ∙ ap kind_name (same_Some Preposition kind is)
kind_by_is false true c kind word first second third is = second refl ∙ ap kind_name (same_Some Invalidate kind is)
kind_by_is false false true kind word first second third is = third refl ∙ ap kind_name (same_Some Purge kind is)
kind_by_is false false false kind word first second third is = absurd (none-some kind is)

kind_named_is : (word : List ℕ) (kind : TriggerKind) → kind_named word ≡ Some kind → word ≡ kind_name kind
kind_named_is word kind is = kind_by_is (bytes_eq word (codes "preposition")) (bytes_eq word (codes "invalidate")) (bytes_eq word (codes "purge")) kind word
    (same_bytes word (codes "preposition")) (same_bytes word (codes "invalidate")) (same_bytes word (codes "purge")) is

kind_name_named : (kind : TriggerKind) → kind_named (kind_name kind) ≡ Some kind
kind_name_named Preposition = refl
kind_name_named Invalidate = refl
kind_name_named Purge = refl

kind_word_meets : (path : List ℕ) (word : List ℕ) → Meets (or_fault path OutOfRange (kind_named word)) (λ kind. word ≡ kind_name kind) (λ fault. ((kind : TriggerKind) → word ≢ kind_name kind) × IsAt path OutOfRange fault)
kind_word_meets path word = meets_also (or_fault path OutOfRange (kind_named word)) (found_or_not path OutOfRange (kind_named word))
    (λ kind is. kind_named_is word kind is) (λ kind is. ap kind_named is ∙ kind_name_named kind)
    (λ fault so. (λ kind is. none-some kind (sym so.0 ∙ ap kind_named is ∙ kind_name_named kind), so.1))
    (λ fault so. (none_named (kind_named word) word refl so.0, so.1))
  where
    none_named : (found : Option TriggerKind) (word : List ℕ) → kind_named word ≡ found → ((kind : TriggerKind) → word ≢ kind_name kind) → found ≡ None
    none_named None word is never = refl
    none_named (Some kind) word is never = absurd (never kind (kind_named_is word kind is))

kind_meets : (path : List ℕ) (value : Data) → Meets (kind_at path value) (HasKind value) (LacksRight HasKindFault path (codes "type") value)
unfolding kind_at
kind_meets path value = let name = codes "type" in meets_also (kind_at path value)
    (meets_then (needed_text path name value) (λ word. or_fault (child_of path name) OutOfRange (kind_named word)) (needed_text_meets path name value) (λ word has. kind_word_meets (child_of path name) word))
    (λ kind so. so.1 ∙ ap (λ word. Some (string word)) so.2) (λ kind so. (kind_name kind, so, refl))
    (λ fault so. elim so [
      | inl wrong ↦ elim wrong [ inl neither ↦ inl neither | inr more ↦ elim more [ inl none ↦ inr (inl none) | inr wrong ↦ inr (inr (wrong.0, wrong.1, inl wrong.2)) ] ]
      | inr later ↦ inr (inr (string later.0, later.1, inr (later.0, refl, later.2.0, later.2.1)))
    ])
    (λ fault so. elim so [
      | inl neither ↦ inl (inl neither)
      | inr more ↦ elim more [
        | inl none ↦ inl (inr (inl none))
        | inr wrong ↦ elim wrong.2 [
          | inl text ↦ inl (inr (inr (wrong.0, wrong.1, text)))
          | inr word ↦ inr (word.0, wrong.1 ∙ ap Some word.1, (word.2, word.3))
        ]
      ]
    ])

-- ---- a pattern

abbrev Argument : {A B : Type 0} → (A → B) → Type 0
Argument {A} f = A

-- a pattern and a trigger as the reader has them
abbrev pub PatternDraft : Type 0
PatternDraft = Argument pattern_item

abbrev pub Draft : Type 0
Draft = Argument draft_count

abbrev pub pattern_draft : WrittenPattern → PatternDraft
pattern_draft pattern = record { text = pattern.text; case = pattern.case; query = pattern.query }

abbrev pub trigger_draft : WrittenTrigger → Draft
trigger_draft trigger = record {
  kind = trigger.kind;
  metadata_urls = trigger.metadata_urls;
  content_urls = trigger.content_urls;
  ccids = trigger.ccids;
  metadata_patterns = map pattern_draft trigger.metadata_patterns;
  content_patterns = map pattern_draft trigger.content_patterns;
}

-- the value writes a pattern, which the reader has as this one
abbrev IsDraftOf : Data → PatternDraft → Type 0
IsDraftOf value draft = (pattern : WrittenPattern) × IsWrittenPattern value pattern × (pattern_draft pattern ≡ draft)

pattern_meets : (path : List ℕ) (value : Data) → Meets (pattern_at path value) (IsDraftOf value) (HasPatternFault path value)
unfolding pattern_at
pattern_meets path value = meets_also (pattern_at path value)
    (meets_step (needed_text path (codes "pattern") value) _ (needed_text_meets path (codes "pattern") value)
    (λ text has. let ms = has_object (codes "pattern") value (string text) has in
    meets_step (flag_or_false path (codes "case-sensitive") value) _ (flag_or_meets path (codes "case-sensitive") value ms.0 ms.1)
    (λ case has_case. meets_step (flag_or_false path (codes "match-query-string") value) _ (flag_or_meets path (codes "match-query-string") value ms.0 ms.1)
    (λ query has_query. meets_ok (record { text = text; case = case; query = query })))))
    (λ draft so. (record { text = so.0; case = so.2.0; query = so.2.2.0 }, record { text = so.1; case = so.2.1; query = so.2.2.1 }, so.2.2.2))
    (λ draft so. (so.0.text, so.1.text, (so.0.case, so.1.case, (so.0.query, so.1.query, so.2))))
    (λ fault so. so) (λ fault so. so)

-- what each item writes, together
gathered : (items : List Data) (drafts : List PatternDraft) → AllZip IsDraftOf items drafts → (patterns : List WrittenPattern) × AllZip IsWrittenPattern items patterns × (map pattern_draft patterns ≡ drafts)
gathered [] [] all = ([], tt, refl)
gathered [] (draft ∷ drafts) all = absurd all
gathered (value ∷ items) [] all = absurd all
gathered (value ∷ items) (draft ∷ drafts) all = let rest = gathered items drafts all.1 in
    (all.0.0 ∷ rest.0, (all.0.1, rest.1), ap (λ first. first ∷ map pattern_draft rest.0) all.0.2 ∙ ap (λ others. draft ∷ others) rest.2)

scattered : (items : List Data) (patterns : List WrittenPattern) → AllZip IsWrittenPattern items patterns → AllZip IsDraftOf items (map pattern_draft patterns)
scattered [] [] all = tt
scattered [] (pattern ∷ patterns) all = absurd all
scattered (value ∷ items) [] all = absurd all
scattered (value ∷ items) (pattern ∷ patterns) all = ((pattern, all.0, refl), scattered items patterns all.1)

patterns_gathered : (name : List ℕ) (value : Data) (drafts : List PatternDraft) → HasList IsDraftOf name value drafts
    → (patterns : List WrittenPattern) × HasList IsWrittenPattern name value patterns × (map pattern_draft patterns ≡ drafts)
patterns_gathered name value drafts (inl none) = ([], inl (none.0, refl), sym none.1)
patterns_gathered name value drafts (inr some) = let all = gathered some.2.0 drafts some.2.2 in (all.0, inr (some.0, some.1, (some.2.0, some.2.1, all.1)), all.2)

patterns_scattered : (name : List ℕ) (value : Data) (patterns : List WrittenPattern) → HasList IsWrittenPattern name value patterns → HasList IsDraftOf name value (map pattern_draft patterns)
patterns_scattered name value patterns (inl none) = inl (none.0, ap (map pattern_draft) none.1)
patterns_scattered name value patterns (inr some) = inr (some.0, some.1, (some.2.0, some.2.1, scattered some.2.0 patterns some.2.2))

first_gathered : (path : List ℕ) (value : Data) (fault : FieldFault) → HasListFault IsDraftOf HasPatternFault path value fault → HasListFault IsWrittenPattern HasPatternFault path value fault
first_gathered path value fault (inl neither) = inl neither
first_gathered path value fault (inr wrong) = let all = gathered (take wrong.2.0 wrong.0) wrong.2.3.0 wrong.2.3.1 in
    inr (wrong.0, wrong.1, (wrong.2.0, wrong.2.1, wrong.2.2, (all.0, all.1), wrong.2.4))

first_scattered : (path : List ℕ) (value : Data) (fault : FieldFault) → HasListFault IsWrittenPattern HasPatternFault path value fault → HasListFault IsDraftOf HasPatternFault path value fault
first_scattered path value fault (inl neither) = inl neither
first_scattered path value fault (inr wrong) =
    inr (wrong.0, wrong.1, (wrong.2.0, wrong.2.1, wrong.2.2, (map pattern_draft wrong.2.3.0, scattered (take wrong.2.0 wrong.0) wrong.2.3.0 wrong.2.3.1), wrong.2.4))

-- a list of patterns that may be absent, of an object
patterns_meets : (path name : List ℕ) (value : Data) (members : Members) → value ≡ object members
    → Meets (list_or pattern_at path name value) (λ drafts. (patterns : List WrittenPattern) × HasList IsWrittenPattern name value patterns × (map pattern_draft patterns ≡ drafts))
    (HasWrong (HasListFault IsWrittenPattern HasPatternFault) path name value)
patterns_meets path name value members is = meets_also (list_or pattern_at path name value) (list_or_meets pattern_at IsDraftOf HasPatternFault pattern_meets path name value members is)
    (λ drafts so. patterns_gathered name value drafts so)
    (λ drafts so. subst (HasList IsDraftOf name value) so.2 (patterns_scattered name value so.0 so.1))
    (λ fault so. (so.0, so.1, first_gathered (child_of path name) so.0 fault so.2)) (λ fault so. (so.0, so.1, first_scattered (child_of path name) so.0 fault so.2))

-- ---- a trigger

texts_meets : (path name : List ℕ) (value : Data) (members : Members) → value ≡ object members → Meets (list_or text_of path name value) (HasList IsText name value) (HasWrong (HasListFault IsText HasTextFault) path name value)
texts_meets path name value members is = list_or_meets text_of IsText HasTextFault text_meets path name value members is

pub cancel_meets : (path : List ℕ) (value : Data) → Meets (list_of text_of path value) (IsList IsText value) (HasListFault IsText HasTextFault path value)
cancel_meets path value = list_meets text_of IsText HasTextFault text_meets path value

-- how far two equal lists of patterns make equal drafts
same_drafts : (kind : TriggerKind) (metadata_urls content_urls ccids : List (List ℕ)) (metadata_drafts content_drafts others more : List PatternDraft) (draft : Draft) → others ≡ metadata_drafts → more ≡ content_drafts
    → record { kind = kind; metadata_urls = metadata_urls; content_urls = content_urls; ccids = ccids; metadata_patterns = metadata_drafts; content_patterns = content_drafts } ≡ draft
    → record { kind = kind; metadata_urls = metadata_urls; content_urls = content_urls; ccids = ccids; metadata_patterns = others; content_patterns = more } ≡ draft
same_drafts kind metadata_urls content_urls ccids metadata_drafts content_drafts others more draft a b is = rw (a, b) is

abbrev SomePatterns : List ℕ → Data → Type 0
SomePatterns name value = (patterns : List WrittenPattern) × HasList IsWrittenPattern name value patterns

pub trigger_meets : (path : List ℕ) (value : Data) → Meets (draft_at path value) (λ draft. (trigger : WrittenTrigger) × IsWrittenTrigger value trigger × (trigger_draft trigger ≡ draft)) (HasTriggerFault path value)
unfolding draft_at
trigger_meets path value = meets_also (draft_at path value)
    (meets_step (kind_at path value) _ (kind_meets path value)
    (λ kind has. let ms = has_object (codes "type") value (string (kind_name kind)) has in
    meets_step (list_or text_of path (codes "metadata.urls") value) _ (texts_meets path (codes "metadata.urls") value ms.0 ms.1)
    (λ metadata_urls a. meets_step (list_or text_of path (codes "content.urls") value) _ (texts_meets path (codes "content.urls") value ms.0 ms.1)
    (λ content_urls b. meets_step (list_or text_of path (codes "content.ccid") value) _ (texts_meets path (codes "content.ccid") value ms.0 ms.1)
    (λ ccids c. meets_step_by (SomePatterns (codes "metadata.patterns") value) (list_or pattern_at path (codes "metadata.patterns") value) _ (patterns_meets path (codes "metadata.patterns") value ms.0 ms.1)
    (λ drafts so. (so.0, so.1)) (λ so. (map pattern_draft so.0, (so.0, so.1, refl)))
    (λ metadata_patterns d. meets_step_by (SomePatterns (codes "content.patterns") value) (list_or pattern_at path (codes "content.patterns") value) _ (patterns_meets path (codes "content.patterns") value ms.0 ms.1)
    (λ drafts so. (so.0, so.1)) (λ so. (map pattern_draft so.0, (so.0, so.1, refl)))
    (λ content_patterns e. meets_ok (record { kind = kind; metadata_urls = metadata_urls; content_urls = content_urls; ccids = ccids; metadata_patterns = metadata_patterns; content_patterns = content_patterns }))))))))
    (λ draft so. (
      record { kind = so.0; metadata_urls = so.2.0; content_urls = so.2.2.0; ccids = so.2.2.2.0; metadata_patterns = so.2.2.2.2.1.0; content_patterns = so.2.2.2.2.2.1.0 },
      record { kind = so.1; metadata_urls = so.2.1; content_urls = so.2.2.1; ccids = so.2.2.2.1; metadata_patterns = so.2.2.2.2.1.1; content_patterns = so.2.2.2.2.2.1.1 },
      same_drafts so.0 so.2.0 so.2.2.0 so.2.2.2.0 so.2.2.2.2.0 so.2.2.2.2.2.0 _ _ draft so.2.2.2.2.1.2 so.2.2.2.2.2.1.2 so.2.2.2.2.2.2,
    ))
    (λ draft so. let t = so.0 in let is = so.1 in (
      t.kind,
      is.kind,
      (
        t.metadata_urls,
        is.metadata_urls,
        (
          t.content_urls,
          is.content_urls,
          (
            t.ccids,
            is.ccids,
            (map pattern_draft t.metadata_patterns, (t.metadata_patterns, is.metadata_patterns, refl), (map pattern_draft t.content_patterns, (t.content_patterns, is.content_patterns, refl), so.2)),
          ),
        ),
      ),
    ))
    (λ fault so. so) (λ fault so. so)

-- ---- the path

pub path_meets : (value : Data) → Meets (path_at value) (HasPath value) (LacksRight (HasListFault IsId HasIdFault) [] (codes "cdn-path") value)
unfolding path_at
path_meets value = property_meets (list_of provider_at) (IsList IsId) (HasListFault IsId HasIdFault) (list_meets provider_at IsId HasIdFault id_meets) [] (codes "cdn-path") value
