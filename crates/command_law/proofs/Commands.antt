-- A whole command: what is read of a text is what it writes, and the fault of one that is refused is its first.
use Rattle.std.proofs.Common.{◌≡◌, ℕ, ◌+◌, Bool, true, false, List, [], ◌∷◌, map, length, codes, Contains, refl, sym, ap, ◌∙◌, subst, inl, inr, Ok, Err, None, Some, Option, suc, arith}
use Rattle.std.specs.List.{AllZip}
use Rattle.std.specs.Prelude.{◌⊎◌, if◌then◌else◌}
use Rattle.std.specs.Option.{option_map_or}
use Rattle.std.specs.declared.result.Result.{Result}
use Rattle.std.proofs.lemmas.Bool.{both_ways}
use Rattle.std.proofs.lemmas.List.{length-map, nil_from_length}
use Rattle.std.proofs.lemmas.Option.{none-some, same_Some}
use Rattle.cdni_base.specs.declared.provider.ProviderId.{ProviderId}
use Rattle.json_read.specs.Field.{◌>>=◌, text_of}
use Rattle.json_read.specs.Path.{child_of}
use Rattle.json_read.specs.Text.{json_of}
use Rattle.json_read.specs.declared.fault.FieldCause.TheVariants.{Missing, WrongKind}
use Rattle.json_read.specs.declared.fault.FieldFault.{FieldFault}
use Rattle.serde_json.specs.Data.{Data, string, object, Members}
use Rattle.serde_json.specs.Find.{get, get_member}
use Rattle.trigger_command.specs.Draft.{each_from, list_of, draft_at, form_found, form_at, path_at, written_of}
use Rattle.trigger_command.specs.Reading.{Judged, number_at, has_own, spec_of, act_of, command_of, command_of_value, command_of_written, field}
use Rattle.trigger_command.specs.Selection as selections
use Rattle.trigger_command.specs.Spec.{SpecParts}
use Rattle.trigger_command.specs.declared.command.Act.{Act}
use Rattle.trigger_command.specs.declared.command.Act.TheVariants as act
use Rattle.trigger_command.specs.declared.command.Command.{Command}
use Rattle.trigger_command.specs.declared.fault.CommandFault.{CommandFault}
use Rattle.trigger_command.specs.declared.fault.CommandFault.TheVariants as fault
use Rattle.trigger_command.specs.declared.selection.PatternItem.{PatternItem}
use Rattle.trigger_command.specs.declared.selection.UrlItem.{UrlItem}
use Rattle.trigger_status.specs.Job.{kind_name}
use Rattle.command_law.specs.Grammar.{Has, Lacks, IsList, HasList, IsText, IsId, IsUrl, IsPattern, HasUrlsAlone, IsSpec, IsStatusUrl, IsStatusLink, IsAct, IsCommandValue, IsCommand}
use Rattle.command_law.specs.Faults.{HasFormFault, HasPath, HasFieldFault, HasListFault, HasTextFault, HasTriggerFault, HasIdFault, LacksRight, IsAllowed, IsFirstFault, IsFirstOfValue, IsFirstWrong, IsShort, IsSomeStatusUrl, HasRightLists, IsWrongAct, IsWrongCancel, IsWrongCommand, IsWrongTrigger, IsWrittenAct, IsWrittenPattern, IsWrittenTrigger, WrittenAct, new_trigger, cancel_of, WrittenPattern, WrittenTrigger}
use Rattle.command_law.specs.Faults as faults
use Rattle.command_law.proofs.Meets.{Meets, ok_err, same_ok, same_err, meets_ok, meets_err, meets_also, meets_then}
use Rattle.command_law.proofs.Fields.{trigger_draft, cancel_meets, trigger_meets, path_meets, has_object}
use Rattle.command_law.proofs.Items.{IsUrlItem, IsItemOf, number_meets, own_is_there, there_is_own}
use Rattle.command_law.proofs.Checks.{IsSelected, IsSpecOf, first_meets, spec_meets}

-- ---- lists of what is written, and of what is read of it

zip_length : {A B : Type 0} (R : A → B → Type 0) (xs : List A) (ys : List B) → AllZip R xs ys → length xs ≡ length ys
zip_length R [] [] all = refl
zip_length R [] (y ∷ ys) all = absurd all
zip_length R (x ∷ xs) [] all = absurd all
zip_length R (x ∷ xs) (y ∷ ys) all = ap suc (zip_length R xs ys all.1)

module _ {A B : Type 0} (IsOne : Data → A → Type 0) (IsNext : A → B → Type 0) (IsBoth : Data → B → Type 0) where
  module _ (both : (value : Data) (a : A) (b : B) → IsOne value a → IsNext a b → IsBoth value b) where
    zip_both : (values : List Data) (ones : List A) (bs : List B) → AllZip IsOne values ones → AllZip IsNext ones bs → AllZip IsBoth values bs
    zip_both [] [] bs one next = only_nil bs next
      where
        only_nil : (bs : List B) → AllZip IsNext [] bs → AllZip IsBoth [] bs
        only_nil [] next = tt
        only_nil (b ∷ bs) next = absurd next
    zip_both [] (a ∷ ones) bs one next = absurd one
    zip_both (value ∷ values) [] bs one next = absurd one
    zip_both (value ∷ values) (a ∷ ones) [] one next = absurd next
    zip_both (value ∷ values) (a ∷ ones) (b ∷ bs) one next = (both value a b one.0 next.0, zip_both values ones bs one.1 next.1)

    has_both : (name : List ℕ) (value : Data) (ones : List A) (bs : List B) → HasList IsOne name value ones → AllZip IsNext ones bs → HasList IsBoth name value bs
    has_both name value ones bs (inl none) next = inl (none.0, nil_from_length bs (sym (zip_length IsNext ones bs next) ∙ ap length none.1))
    has_both name value ones bs (inr some) next = inr (some.0, some.1, (some.2.0, some.2.1, zip_both some.2.0 ones bs some.2.2 next))

  module _ (first : B → A) (apart : (value : Data) (b : B) → IsBoth value b → IsOne value (first b) × IsNext (first b) b) where
    zip_apart : (values : List Data) (bs : List B) → AllZip IsBoth values bs → AllZip IsOne values (map first bs) × AllZip IsNext (map first bs) bs
    zip_apart [] [] all = (tt, tt)
    zip_apart [] (b ∷ bs) all = absurd all
    zip_apart (value ∷ values) [] all = absurd all
    zip_apart (value ∷ values) (b ∷ bs) all = let so = apart value b all.0 in let rest = zip_apart values bs all.1 in ((so.0, rest.0), (so.1, rest.1))

    has_apart : (name : List ℕ) (value : Data) (bs : List B) → HasList IsBoth name value bs → HasList IsOne name value (map first bs) × AllZip IsNext (map first bs) bs
    has_apart name value bs (inl none) = (inl (none.0, ap (map first) none.1), subst (λ xs. AllZip IsNext (map first xs) xs) (sym none.1) tt)
    has_apart name value bs (inr some) = let all = zip_apart some.2.0 bs some.2.2 in (inr (some.0, some.1, (some.2.0, some.2.1, all.0)), all.1)

-- ---- a trigger specification

url_both : (value : Data) (text : List ℕ) (item : UrlItem) → IsText value text → IsUrlItem text item → IsUrl value item
url_both value text item is so = record { text = is ∙ ap string so.0; absolute = so.1 }

url_apart : (value : Data) (item : UrlItem) → IsUrl value item → IsText value item.text × IsUrlItem item.text item
url_apart value item so = (so.text, (refl, so.absolute))

pattern_both : (value : Data) (pattern : WrittenPattern) (item : PatternItem) → IsWrittenPattern value pattern → IsItemOf pattern item → IsPattern value item
pattern_both value pattern item is so = subst (IsPattern value) so.1 (record { text = is.text; short = so.0; case = is.case; query = is.query; pattern = refl })

written_pattern : PatternItem → WrittenPattern
written_pattern item = record { text = item.text; case = item.case; query = item.query }

pattern_apart : (value : Data) (item : PatternItem) → IsPattern value item → IsWrittenPattern value (written_pattern item) × IsItemOf (written_pattern item) item
unfolding written_pattern
pattern_apart value item so = (
  record { text = so.text; case = so.case; query = so.query },
  (so.short, ap (λ pattern. record { text = item.text; pattern = pattern; case = item.case; query = item.query }) (sym so.pattern)),
)

selected_counts : (trigger : WrittenTrigger) (spec : SpecParts) → IsSelected trigger spec.selection → selections.item_count spec.selection ≡ faults.item_count trigger
selected_counts trigger spec so = omega (
  arith,
  zip_length IsUrlItem _ _ so.metadata_urls,
  zip_length IsUrlItem _ _ so.content_urls,
  ap length so.ccids,
  zip_length IsItemOf _ _ so.metadata_patterns,
  zip_length IsItemOf _ _ so.content_patterns,
)

urls_alone : (trigger : WrittenTrigger) (spec : SpecParts) → IsSelected trigger spec.selection → (faults.pattern_count trigger ≡ 0) × (length trigger.ccids ≡ 0) → HasUrlsAlone spec.selection
urls_alone trigger spec so none = (
  nil_from_length _ (omega (arith, none.1, ap length so.ccids)),
  nil_from_length _ (omega (arith, none.0, zip_length IsItemOf _ _ so.metadata_patterns)),
  nil_from_length _ (omega (arith, none.0, zip_length IsItemOf _ _ so.content_patterns)),
)

is_spec : (value : Data) (trigger : WrittenTrigger) (spec : SpecParts) → IsWrittenTrigger value trigger → IsSpecOf trigger spec → IsSpec value spec
is_spec value trigger spec is so = record {
  kind = is.kind ∙ ap (λ kind. Some (string (kind_name kind))) so.kind;
  metadata_urls = has_both IsText IsUrlItem IsUrl url_both (codes "metadata.urls") value trigger.metadata_urls spec.selection.metadata_urls is.metadata_urls so.selection.metadata_urls;
  content_urls = has_both IsText IsUrlItem IsUrl url_both (codes "content.urls") value trigger.content_urls spec.selection.content_urls is.content_urls so.selection.content_urls;
  ccids = subst (HasList IsText (codes "content.ccid") value) so.selection.ccids is.ccids;
  metadata_patterns = has_both IsWrittenPattern IsItemOf IsPattern pattern_both (codes "metadata.patterns") value trigger.metadata_patterns spec.selection.metadata_patterns is.metadata_patterns so.selection.metadata_patterns;
  content_patterns = has_both IsWrittenPattern IsItemOf IsPattern pattern_both (codes "content.patterns") value trigger.content_patterns spec.selection.content_patterns is.content_patterns so.selection.content_patterns;
  some = omega (arith, selected_counts trigger spec so.selection, so.right.some);
  few = omega (arith, selected_counts trigger spec so.selection, so.right.few);
  preposition = λ kind. urls_alone trigger spec so.selection (so.right.allowed (so.kind ∙ kind));
}

written_trigger : SpecParts → WrittenTrigger
written_trigger spec = record {
  kind = spec.kind;
  metadata_urls = map (λ item. item.text) spec.selection.metadata_urls;
  content_urls = map (λ item. item.text) spec.selection.content_urls;
  ccids = spec.selection.ccids;
  metadata_patterns = map written_pattern spec.selection.metadata_patterns;
  content_patterns = map written_pattern spec.selection.content_patterns;
}

no_patterns : (spec : SpecParts) → HasUrlsAlone spec.selection → (length spec.selection.metadata_patterns + length spec.selection.content_patterns ≡ 0) × (length spec.selection.ccids ≡ 0)
no_patterns spec alone = (omega (arith, ap length alone.1, ap length alone.2), ap length alone.0)

spec_is : (value : Data) (spec : SpecParts) → IsSpec value spec → (trigger : WrittenTrigger) × IsWrittenTrigger value trigger × IsSpecOf trigger spec
unfolding written_trigger
spec_is value spec so =
    let a = has_apart IsText IsUrlItem IsUrl (λ item. item.text) url_apart (codes "metadata.urls") value spec.selection.metadata_urls so.metadata_urls in
    let b = has_apart IsText IsUrlItem IsUrl (λ item. item.text) url_apart (codes "content.urls") value spec.selection.content_urls so.content_urls in
    let c = has_apart IsWrittenPattern IsItemOf IsPattern written_pattern pattern_apart (codes "metadata.patterns") value spec.selection.metadata_patterns so.metadata_patterns in
    let d = has_apart IsWrittenPattern IsItemOf IsPattern written_pattern pattern_apart (codes "content.patterns") value spec.selection.content_patterns so.content_patterns in
    let selected : IsSelected (written_trigger spec) spec.selection = record { metadata_urls = a.1; content_urls = b.1; ccids = refl; metadata_patterns = c.1; content_patterns = d.1 } in
    let counts = selected_counts (written_trigger spec) spec selected in (
      written_trigger spec,
      record { kind = so.kind; metadata_urls = a.0; content_urls = b.0; ccids = so.ccids; metadata_patterns = c.0; content_patterns = d.0 },
      record {
        right = record { some = omega (arith, counts, so.some); few = omega (arith, counts, so.few); allowed = λ kind. let none = no_patterns spec (so.preposition kind) in (simp length-map none.0, none.1) };
        kind = refl;
        selection = selected;
      },
    )

-- ---- a cancel

-- the list of links and the numbers in it
link_both : (control : List ℕ) (value : Data) (text : List ℕ) (id : ℕ) → IsText value text → IsStatusUrl control text id → IsStatusLink control value id
link_both control value text id is so = (text, is, so)

links_both : (control : List ℕ) (cancel : Data) (texts : List (List ℕ)) (ids : List ℕ) → IsList IsText cancel texts → AllZip (IsStatusUrl control) texts ids → IsList (IsStatusLink control) cancel ids
links_both control cancel texts ids is so = (is.0, is.1, zip_both IsText (IsStatusUrl control) (IsStatusLink control) (link_both control) is.0 texts ids is.2 so)

links_texts : (control : List ℕ) (values : List Data) (ids : List ℕ) → AllZip (IsStatusLink control) values ids → (texts : List (List ℕ)) × AllZip IsText values texts × AllZip (IsStatusUrl control) texts ids
links_texts control [] [] all = ([], tt, tt)
links_texts control [] (id ∷ ids) all = absurd all
links_texts control (value ∷ values) [] all = absurd all
links_texts control (value ∷ values) (id ∷ ids) all = let rest = links_texts control values ids all.1 in (all.0.0 ∷ rest.0, (all.0.1, rest.1), (all.0.2, rest.2))

-- ---- one of the two that a command can be

abbrev command_with : List ProviderId → Act → Command
command_with path act = record { path = path; act = act }

-- an act behind the check of the path
abbrev checked_act : ProviderId → List ProviderId → Judged Act → Judged Command
checked_act own path reading = if has_own own path then Err fault.Loop else (reading >>= λ act. Ok (command_with path act))

act_by : (own : ProviderId) (path : List ProviderId) (there : Bool) (reading : Judged Act) {IsRight : Act → Type 0} {IsWrong : CommandFault → Type 0} → has_own own path ≡ there → Meets reading IsRight IsWrong
    → Meets (if there then Err fault.Loop else (reading >>= λ act. Ok (command_with path act)))
    (λ command. (path ≡ command.path) × (Contains path own → ⊥) × IsRight command.act)
    (λ wrong. (Contains path own × (wrong ≡ fault.Loop)) ⊎ ((Contains path own → ⊥) × IsWrong wrong))
act_by own path true reading is m = let loop = own_is_there own path is in meets_also (Err fault.Loop) (meets_err fault.Loop)
    (λ command none. absurd none) (λ command so. so.1 loop) (λ wrong so. inl (loop, so)) (λ wrong so. elim so [ inl here ↦ here.1 | inr other ↦ absurd (other.0 loop) ])
act_by own path false reading {IsRight = IsRight} {IsWrong = IsWrong} is m =
    let foreign : Contains path own → ⊥ = λ there. both_ways (has_own own path) is (there_is_own own path there) in
    meets_also (reading >>= λ act. Ok (command_with path act)) (meets_then reading (λ act. Ok (command_with path act)) m (λ act right. meets_ok (command_with path act)))
    (λ command so. subst (λ c. (path ≡ c.path) × (Contains path own → ⊥) × IsRight c.act) so.2 (refl, foreign, so.1))
    (λ command so. (command.act, so.2, ap (λ p. command_with p command.act) so.0))
    (λ wrong so. elim so [ inl bad ↦ inr (foreign, bad) | inr later ↦ absurd later.2 ])
    (λ wrong so. elim so [ inl here ↦ absurd (foreign here.0) | inr other ↦ inl other.1 ])

-- in the words of the faults
abbrev IsLoopOr : ProviderId → List ProviderId → (CommandFault → Type 0) → CommandFault → Type 0
IsLoopOr own path IsWrong wrong = (Contains path own × (wrong ≡ fault.Loop)) ⊎ ((Contains path own → ⊥) × IsWrong wrong)

loop_or : (own : ProviderId) (control : List ℕ) (path : List ProviderId) (act : WrittenAct) (wrong : CommandFault) → IsLoopOr own path (IsWrongAct control act) wrong → IsWrongCommand own control path act wrong
loop_or own control path act wrong (inl loop) = subst (IsWrongCommand own control path act) (sym loop.1) loop.0
loop_or own control path (new_trigger trigger) fault.Loop (inr other) = absurd other.1
loop_or own control path (cancel_of texts) fault.Loop (inr other) = absurd other.1
loop_or own control path act fault.NotJson (inr other) = other
loop_or own control path act (fault.Field f) (inr other) = other
loop_or own control path act fault.NoSelection (inr other) = other
loop_or own control path act fault.PatternInPreposition (inr other) = other
loop_or own control path act fault.CcidInPreposition (inr other) = other
loop_or own control path act (fault.TooMany n) (inr other) = other
loop_or own control path act (fault.BadUrl i) (inr other) = other
loop_or own control path act (fault.BadPattern i) (inr other) = other
loop_or own control path act fault.Memory (inr other) = other

or_loop : (own : ProviderId) (control : List ℕ) (path : List ProviderId) (act : WrittenAct) (wrong : CommandFault) → IsWrongCommand own control path act wrong → IsLoopOr own path (IsWrongAct control act) wrong
or_loop own control path act fault.Loop so = inl (so, refl)
or_loop own control path act fault.NotJson so = inr so
or_loop own control path act (fault.Field f) so = inr so
or_loop own control path act fault.NoSelection so = inr so
or_loop own control path act fault.PatternInPreposition so = inr so
or_loop own control path act fault.CcidInPreposition so = inr so
or_loop own control path act (fault.TooMany n) so = inr so
or_loop own control path act (fault.BadUrl i) so = inr so
or_loop own control path act (fault.BadPattern i) so = inr so
or_loop own control path act fault.Memory so = inr so

-- ---- what follows the path

-- the value writes this command, whose path is known
abbrev IsRest : ProviderId → List ℕ → Data → List ProviderId → Command → Type 0
IsRest own control value path command = (path ≡ command.path) × (Contains path own → ⊥) × IsAct control value command.act

abbrev IsLater : ProviderId → List ℕ → Data → List ProviderId → CommandFault → Type 0
IsLater own control value path wrong = (act : WrittenAct) × IsWrittenAct value act × IsWrongCommand own control path act wrong

abbrev IsWrongRest : ProviderId → List ℕ → Data → List ProviderId → CommandFault → Type 0
IsWrongRest own control value path wrong = ((f : FieldFault) × HasFormFault value f × (wrong ≡ fault.Field f)) ⊎ IsLater own control value path wrong

field_meets : {A : Type 0} {IsRight : A → Type 0} {IsWrong : FieldFault → Type 0} (reading : Result A FieldFault) → Meets reading IsRight IsWrong
    → Meets (field reading) IsRight (λ wrong. (f : FieldFault) × IsWrong f × (wrong ≡ fault.Field f))
field_meets (Ok a) m = record {
  read = λ b is. m.read b (ap Ok (same_ok a b is));
  is_read = λ b so. ap Ok (same_ok a b (m.is_read b so));
  refused = λ wrong is. absurd (ok_err a wrong is);
  is_refused = λ wrong so. absurd (ok_err a so.0 (m.is_refused so.0 so.1));
}
field_meets (Err f) m = record {
  read = λ b is. absurd (ok_err b (fault.Field f) (sym is));
  is_read = λ b so. absurd (ok_err b f (sym (m.is_read b so)));
  refused = λ wrong is. (f, m.refused f refl, sym (same_err (fault.Field f) wrong is));
  is_refused = λ wrong so. ap (λ (g : FieldFault). Err (fault.Field g)) (same_err f so.0 (m.is_refused so.0 so.1)) ∙ ap Err (sym so.2);
}

through : {A B C : Type 0} (reading : Result A FieldFault) (make : A → B) (next : B → Judged C) → field (reading >>= λ a. Ok (make a)) >>= next ≡ field reading >>= λ a. next (make a)
through (Ok a) make next = refl
through (Err wrong) make next = refl

-- exactly one of the two: the act that is written, and what is wrong with the field
only_trigger : (control : List ℕ) (value trigger : Data) → Has (codes "trigger") trigger value → (a : Act) → IsAct control value a → (spec : SpecParts) × IsSpec trigger spec × (act.Trigger spec ≡ a)
only_trigger control value trigger is (act.Trigger spec) so = (spec, subst (λ t. IsSpec t spec) (same_Some so.0 trigger (sym so.1 ∙ is)) so.3, refl)
only_trigger control value trigger is (act.Cancel ids) so = absurd (none-some trigger (sym so.2 ∙ is))

only_cancel : (control : List ℕ) (value cancel : Data) → Has (codes "cancel") cancel value → (a : Act) → IsAct control value a → (ids : List ℕ) × IsList (IsStatusLink control) cancel ids × (act.Cancel ids ≡ a)
only_cancel control value cancel is (act.Trigger spec) so = absurd (none-some cancel (sym so.2 ∙ is))
only_cancel control value cancel is (act.Cancel ids) so = (ids, subst (λ c. IsList (IsStatusLink control) c ids) (same_Some so.0 cancel (sym so.1 ∙ is)) so.3, refl)

written_alone : (value trigger : Data) → Has (codes "trigger") trigger value → (a : WrittenAct) → IsWrittenAct value a → (written : WrittenTrigger) × IsWrittenTrigger trigger written × (new_trigger written ≡ a)
written_alone value trigger is (new_trigger written) so = (written, subst (λ t. IsWrittenTrigger t written) (same_Some so.0 trigger (sym so.1 ∙ is)) so.3, refl)
written_alone value trigger is (cancel_of texts) so = absurd (none-some trigger (sym so.2 ∙ is))

texts_alone : (value cancel : Data) → Has (codes "cancel") cancel value → (a : WrittenAct) → IsWrittenAct value a → (texts : List (List ℕ)) × IsList IsText cancel texts × (cancel_of texts ≡ a)
texts_alone value cancel is (new_trigger written) so = absurd (none-some cancel (sym so.2 ∙ is))
texts_alone value cancel is (cancel_of texts) so = (texts, subst (λ c. IsList IsText c texts) (same_Some so.0 cancel (sym so.1 ∙ is)) so.3, refl)

-- the form's own fault, where both or neither are there
no_form : (value : Data) (f : FieldFault) (own : ProviderId) (control : List ℕ) (path : List ProviderId) → HasFormFault value f → ((g : FieldFault) → HasFormFault value g → g ≡ f)
    → ((a : Act) → IsAct control value a → ⊥) → ((a : WrittenAct) → IsWrittenAct value a → ⊥) → Meets (Err (fault.Field f)) (IsRest own control value path) (IsWrongRest own control value path)
no_form value f own control path is one none never = meets_also (Err (fault.Field f)) (meets_err (fault.Field f))
    (λ command impossible. absurd impossible) (λ command so. none command.act so.2)
    (λ wrong so. inl (f, is, so))
    (λ wrong so. elim so [ inl bad ↦ bad.2 ∙ ap fault.Field (one bad.0 bad.1) | inr later ↦ absurd (never later.0 later.1) ])

-- where one of the two is there: the reading of its field, then of the act, behind the check of the path
module _ (own : ProviderId) (control : List ℕ) (path : List ProviderId) (value : Data) {A : Type 0} {IsDraft : A → Type 0} {IsFault : FieldFault → Type 0} where
  one_rest : (draft : Result A FieldFault) (next : A → Judged Act) → Meets draft IsDraft IsFault
      → ((d : A) → IsDraft d → Meets (next d) (IsAct control value) (λ wrong. (a : WrittenAct) × IsWrittenAct value a × IsWrongAct control a wrong))
      → ((d : A) → IsDraft d → (a : WrittenAct) × IsWrittenAct value a)
      → ((a : Act) → IsAct control value a → (d : A) × IsDraft d) → ((a : WrittenAct) → IsWrittenAct value a → (d : A) × IsDraft d)
      → ((f : FieldFault) → IsFault f → HasFormFault value f) → ((f : FieldFault) → HasFormFault value f → IsFault f)
      → Meets (field draft >>= λ d. checked_act own path (next d)) (IsRest own control value path) (IsWrongRest own control value path)
  one_rest draft next m each written act_of_it written_of_it fault_is is_fault = meets_also _
      (meets_then (field draft) (λ d. checked_act own path (next d)) (field_meets draft m) (λ d is. meets_also (checked_act own path (next d))
      (act_by own path (has_own own path) (next d) refl (each d is))
      (λ command so. so) (λ command so. so) (λ wrong so. later wrong (written d is) so) (λ wrong so. at_last wrong so)))
      (λ command so. so.2) (λ command so. let d = act_of_it command.act so.2 in (d.0, d.1, so))
      (λ wrong so. elim so [ inl bad ↦ inl (bad.0, fault_is bad.0 bad.1, bad.2) | inr more ↦ inr more.2 ])
      (λ wrong so. elim so [ inl bad ↦ inl (bad.0, is_fault bad.0 bad.1, bad.2) | inr more ↦ let d = written_of_it more.0 more.1 in inr (d.0, d.1, more) ])
    where
      later : (wrong : CommandFault) → ((a : WrittenAct) × IsWrittenAct value a) → IsLoopOr own path (λ wrong. (a : WrittenAct) × IsWrittenAct value a × IsWrongAct control a wrong) wrong → IsLater own control value path wrong
      later wrong some (inl loop) = (some.0, some.1, loop_or own control path some.0 wrong (inl loop))
      later wrong some (inr other) = (other.1.0, other.1.1, loop_or own control path other.1.0 wrong (inr (other.0, other.1.2)))

      at_last : (wrong : CommandFault) → IsLater own control value path wrong → IsLoopOr own path (λ wrong. (a : WrittenAct) × IsWrittenAct value a × IsWrongAct control a wrong) wrong
      at_last wrong so = elim (or_loop own control path so.0 wrong so.2) [ inl loop ↦ inl loop | inr other ↦ inr (other.0, (so.0, so.1, other.1)) ]

abbrev Argument : {A B : Type 0} → (A → B) → Type 0
Argument {A} f = A

-- the act of a trigger
abbrev IsDraftOf : Data → Argument spec_of → Type 0
IsDraftOf trigger draft = (written : WrittenTrigger) × IsWrittenTrigger trigger written × (trigger_draft written ≡ draft)

same_draft : {A F : Type 0} {IsRight : A → Type 0} {IsWrong : F → Type 0} (reading : Result A F) → Meets reading IsRight IsWrong → (a b : A) → IsRight a → IsRight b → a ≡ b
same_draft reading m a b one other = same_ok a b (sym (m.is_read a one) ∙ m.is_read b other)

trigger_act : (control place : List ℕ) (value trigger : Data) → Has (codes "trigger") trigger value → Lacks (codes "cancel") value → (d : Argument spec_of) → IsDraftOf trigger d
    → Meets (spec_of d >>= λ spec. Ok (act.Trigger spec)) (IsAct control value) (λ wrong. (a : WrittenAct) × IsWrittenAct value a × IsWrongAct control a wrong)
trigger_act control place value trigger is also d of =
    let whole = subst (λ draft. Meets (spec_of draft >>= λ spec. Ok (act.Trigger spec)) (λ a. (spec : SpecParts) × IsSpecOf of.0 spec × (act.Trigger spec ≡ a)) (λ wrong. IsWrongTrigger of.0 wrong ⊎ ((spec : SpecParts) × IsSpecOf of.0 spec × ⊥))) of.2
    (meets_then (spec_of (trigger_draft of.0)) (λ spec. Ok (act.Trigger spec)) (spec_meets of.0) (λ spec so. meets_ok (act.Trigger spec))) in
    record {
      read = λ a reads. let so = whole.read a reads in subst (IsAct control value) so.2 (trigger, is, also, is_spec trigger of.0 so.0 of.1 so.1);
      is_read = λ a so. let one = only_trigger control value trigger is a so in let written = spec_is trigger one.0 one.1 in
          ap (λ reading. reading >>= λ spec. Ok (act.Trigger spec)) (ap spec_of (sym (same written.0 written.1)) ∙ (spec_meets written.0).is_read one.0 written.2) ∙ ap Ok one.2;
      refused = λ wrong reads. elim (whole.refused wrong reads) [ inl bad ↦ (new_trigger of.0, (trigger, is, also, of.1), bad) | inr more ↦ absurd more.2 ];
      is_refused = λ wrong so. let one = written_alone value trigger is so.0 so.1 in
          ap (λ reading. reading >>= λ spec. Ok (act.Trigger spec)) (ap spec_of (sym (same one.0 one.1)) ∙ (spec_meets one.0).is_refused wrong (subst (λ a. IsWrongAct control a wrong) (sym one.2) so.2));
    }
  where
    same : (written : WrittenTrigger) → IsWrittenTrigger trigger written → trigger_draft written ≡ d
    same written so = same_draft (draft_at place trigger) (trigger_meets place trigger) (trigger_draft written) d (written, so, refl) of

-- the act of a cancel
cancel_act : (control place : List ℕ) (value cancel : Data) → Has (codes "cancel") cancel value → Lacks (codes "trigger") value → (texts : List (List ℕ)) → IsList IsText cancel texts
    → Meets (each_from (number_at control) 0 texts >>= λ ids. Ok (act.Cancel ids)) (IsAct control value) (λ wrong. (a : WrittenAct) × IsWrittenAct value a × IsWrongAct control a wrong)
cancel_act control place value cancel is also texts of =
    let whole = meets_then (each_from (number_at control) 0 texts) (λ ids. Ok (act.Cancel ids)) (numbers_meet texts) (λ ids so. meets_ok (act.Cancel ids)) in
    record {
      read = λ a reads. let so = whole.read a reads in subst (IsAct control value) so.2 (cancel, is, also, links_both control cancel texts so.0 of so.1);
      is_read = λ a so. let one = only_cancel control value cancel is a so in let written = links_texts control one.1.0 one.0 one.1.2 in
          ap (λ reading. reading >>= λ ids. Ok (act.Cancel ids)) (ap (each_from (number_at control) 0) (sym (same written.0 (one.1.0, one.1.1, written.1))) ∙ (numbers_meet written.0).is_read one.0 written.2) ∙ ap Ok one.2;
      refused = λ wrong reads. elim (whole.refused wrong reads) [ inl bad ↦ (cancel_of texts, (cancel, is, also, of), subst (IsWrongCancel control texts) (sym bad.2) bad.1) | inr more ↦ absurd more.2 ];
      is_refused = λ wrong so. let one = texts_alone value cancel is so.0 so.1 in
          ap (λ reading. reading >>= λ ids. Ok (act.Cancel ids)) (ap (each_from (number_at control) 0) (sym (same one.0 one.1))
          ∙ (numbers_meet one.0).is_refused wrong (bad_url one.0 wrong (subst (λ a. IsWrongAct control a wrong) (sym one.2) so.2)));
    }
  where
    numbers_meet : (texts : List (List ℕ)) → Meets (each_from (number_at control) 0 texts) (λ ids. AllZip (IsStatusUrl control) texts ids) (λ wrong. (i : ℕ) × IsFirstWrong (IsSomeStatusUrl control) texts i × (wrong ≡ fault.BadUrl i))
    numbers_meet texts = first_meets (number_at control) (IsStatusUrl control) (IsSomeStatusUrl control) fault.BadUrl (number_meets control) (λ text id so. (id, so)) (λ text so. so) texts

    bad_url : (texts : List (List ℕ)) (wrong : CommandFault) → IsWrongCancel control texts wrong → (i : ℕ) × IsFirstWrong (IsSomeStatusUrl control) texts i × (wrong ≡ fault.BadUrl i)
    bad_url texts (fault.BadUrl i) so = (i, so, refl)
    bad_url texts other so = absurd so

    same : (others : List (List ℕ)) → IsList IsText cancel others → others ≡ texts
    same others so = same_draft (list_of text_of place cancel) (cancel_meets place cancel) others texts so of

form_rest : (own : ProviderId) (control : List ℕ) (path : List ProviderId) (value : Data) (trigger cancel : Option Data) → get (codes "trigger") value ≡ trigger → get (codes "cancel") value ≡ cancel
    → Meets (field (form_found trigger cancel) >>= λ form. command_of_written own control (record { path = path; form = form })) (IsRest own control value path) (IsWrongRest own control value path)
unfolding command_of_written act_of
form_rest own control path value None None is also = no_form value (record { path = child_of [] (codes "trigger"); cause = Missing }) own control path (inl (is, also, refl)) (neither_fault value is also) (neither_act value is also) (neither_written value is also)
  where
    neither_fault : (value : Data) → Lacks (codes "trigger") value → Lacks (codes "cancel") value → (g : FieldFault) → HasFormFault value g → g ≡ record { path = child_of [] (codes "trigger"); cause = Missing }
    neither_fault value is also g (inl none) = none.2
    neither_fault value is also g (inr (inl two)) = absurd (none-some two.0 (sym is ∙ two.2))
    neither_fault value is also g (inr (inr (inl one))) = absurd (none-some one.1.0 (sym is ∙ one.1.1))
    neither_fault value is also g (inr (inr (inr one))) = absurd (none-some one.1.0 (sym also ∙ one.1.1))

    neither_act : (value : Data) → Lacks (codes "trigger") value → Lacks (codes "cancel") value → (a : Act) → IsAct control value a → ⊥
    neither_act value is also (act.Trigger spec) so = none-some so.0 (sym is ∙ so.1)
    neither_act value is also (act.Cancel ids) so = none-some so.0 (sym also ∙ so.1)

    neither_written : (value : Data) → Lacks (codes "trigger") value → Lacks (codes "cancel") value → (a : WrittenAct) → IsWrittenAct value a → ⊥
    neither_written value is also (new_trigger written) so = none-some so.0 (sym is ∙ so.1)
    neither_written value is also (cancel_of texts) so = none-some so.0 (sym also ∙ so.1)
form_rest own control path value (Some trigger) (Some cancel) is also = no_form value (record { path = child_of [] (codes "cancel"); cause = WrongKind }) own control path (inr (inl (trigger, cancel, is, also, refl))) (both_fault value is also) (both_act value is also) (both_written value is also)
  where
    both_fault : (value : Data) → Has (codes "trigger") trigger value → Has (codes "cancel") cancel value → (g : FieldFault) → HasFormFault value g → g ≡ record { path = child_of [] (codes "cancel"); cause = WrongKind }
    both_fault value is also g (inl none) = absurd (none-some trigger (sym none.0 ∙ is))
    both_fault value is also g (inr (inl two)) = two.4
    both_fault value is also g (inr (inr (inl one))) = absurd (none-some cancel (sym one.0 ∙ also))
    both_fault value is also g (inr (inr (inr one))) = absurd (none-some trigger (sym one.0 ∙ is))

    both_act : (value : Data) → Has (codes "trigger") trigger value → Has (codes "cancel") cancel value → (a : Act) → IsAct control value a → ⊥
    both_act value is also (act.Trigger spec) so = none-some cancel (sym so.2 ∙ also)
    both_act value is also (act.Cancel ids) so = none-some trigger (sym so.2 ∙ is)

    both_written : (value : Data) → Has (codes "trigger") trigger value → Has (codes "cancel") cancel value → (a : WrittenAct) → IsWrittenAct value a → ⊥
    both_written value is also (new_trigger written) so = none-some cancel (sym so.2 ∙ also)
    both_written value is also (cancel_of texts) so = none-some trigger (sym so.2 ∙ is)
form_rest own control path value (Some trigger) None is also = let place = child_of [] (codes "trigger") in
    subst (λ reading. Meets reading (IsRest own control value path) (IsWrongRest own control value path)) (sym (through (draft_at place trigger) _ _))
    (one_rest own control path value (draft_at place trigger) (λ draft. spec_of draft >>= λ spec. Ok (act.Trigger spec)) (trigger_meets place trigger)
    (trigger_act control place value trigger is also)
    (λ draft of. (new_trigger of.0, (trigger, is, also, of.1)))
    (λ a so. let one = only_trigger control value trigger is a so in let written = spec_is trigger one.0 one.1 in (trigger_draft written.0, (written.0, written.1, refl)))
    (λ a so. let one = written_alone value trigger is a so in (trigger_draft one.0, (one.0, one.1, refl)))
    (λ f wrong. inr (inr (inl (also, (trigger, is, wrong))))) (trigger_fault value is also))
  where
    trigger_fault : (value : Data) → Has (codes "trigger") trigger value → Lacks (codes "cancel") value → (f : FieldFault) → HasFormFault value f → HasTriggerFault (child_of [] (codes "trigger")) trigger f
    trigger_fault value is also f (inl none) = absurd (none-some trigger (sym none.0 ∙ is))
    trigger_fault value is also f (inr (inl two)) = absurd (none-some two.1 (sym also ∙ two.3))
    trigger_fault value is also f (inr (inr (inl one))) = subst (λ t. HasTriggerFault (child_of [] (codes "trigger")) t f) (same_Some one.1.0 trigger (sym one.1.1 ∙ is)) one.1.2
    trigger_fault value is also f (inr (inr (inr one))) = absurd (none-some one.1.0 (sym also ∙ one.1.1))
form_rest own control path value None (Some cancel) is also = let place = child_of [] (codes "cancel") in
    subst (λ reading. Meets reading (IsRest own control value path) (IsWrongRest own control value path)) (sym (through (list_of text_of place cancel) _ _))
    (one_rest own control path value (list_of text_of place cancel) (λ texts. each_from (number_at control) 0 texts >>= λ ids. Ok (act.Cancel ids)) (cancel_meets place cancel)
    (cancel_act control place value cancel also is)
    (λ texts of. (cancel_of texts, (cancel, also, is, of)))
    (λ a so. let one = only_cancel control value cancel also a so in let written = links_texts control one.1.0 one.0 one.1.2 in (written.0, (one.1.0, one.1.1, written.1)))
    (λ a so. let one = texts_alone value cancel also a so in (one.0, one.1))
    (λ f wrong. inr (inr (inr (is, (cancel, also, wrong))))) (cancel_fault value is also))
  where
    cancel_fault : (value : Data) → Lacks (codes "trigger") value → Has (codes "cancel") cancel value → (f : FieldFault) → HasFormFault value f → HasListFault IsText HasTextFault (child_of [] (codes "cancel")) cancel f
    cancel_fault value is also f (inl none) = absurd (none-some cancel (sym none.1 ∙ also))
    cancel_fault value is also f (inr (inl two)) = absurd (none-some two.0 (sym is ∙ two.2))
    cancel_fault value is also f (inr (inr (inl one))) = absurd (none-some one.1.0 (sym is ∙ one.1.1))
    cancel_fault value is also f (inr (inr (inr one))) = subst (λ t. HasListFault IsText HasTextFault (child_of [] (codes "cancel")) t f) (same_Some one.1.0 cancel (sym one.1.1 ∙ also)) one.1.2

-- ---- a value

form_of_object : (own : ProviderId) (control : List ℕ) (path : List ProviderId) (value : Data) (members : Members) → value ≡ object members
    → Meets (field (form_at value) >>= λ form. command_of_written own control (record { path = path; form = form })) (IsRest own control value path) (IsWrongRest own control value path)
unfolding form_at
form_of_object own control path value members is = subst (λ v. Meets (field (form_at v) >>= λ form. command_of_written own control (record { path = path; form = form })) (IsRest own control v path) (IsWrongRest own control v path)) (sym is)
    (form_rest own control path (object members) (get_member (codes "trigger") members) (get_member (codes "cancel") members) refl refl)

in_two : {A B C : Type 0} (path : Result (List ProviderId) FieldFault) (form : Result B FieldFault) (make : List ProviderId → B → A) (next : A → Judged C)
    → field (path >>= λ p. form >>= λ f. Ok (make p f)) >>= next ≡ field path >>= λ p. field form >>= λ f. next (make p f)
in_two (Err wrong) form make next = refl
in_two (Ok p) (Err wrong) make next = refl
in_two (Ok p) (Ok f) make next = refl

no_field : (own : ProviderId) (control : List ℕ) (path : List ProviderId) (act : WrittenAct) (f : FieldFault) → IsWrongCommand own control path act (fault.Field f) → ⊥
no_field own control path (new_trigger trigger) f so = so.1
no_field own control path (cancel_of texts) f so = so.1

-- a field of the path, or what follows it
abbrev IsWrongValue : ProviderId → List ℕ → Data → CommandFault → Type 0
IsWrongValue own control value wrong = ((f : FieldFault) × LacksRight (HasListFault IsId HasIdFault) [] (codes "cdn-path") value f × (wrong ≡ fault.Field f))
    ⊎ ((path : List ProviderId) × HasPath value path × IsWrongRest own control value path wrong)

later_wrong : (own : ProviderId) (control : List ℕ) (value : Data) (path : List ProviderId) (wrong : CommandFault) → HasPath value path → IsLater own control value path wrong → IsFirstOfValue own control value wrong
later_wrong own control value path (fault.Field f) has so = absurd (no_field own control path so.0 f so.2)
later_wrong own control value path other has so = (path, so.0, has, so.1, so.2)

value_wrong : (own : ProviderId) (control : List ℕ) (value : Data) (wrong : CommandFault) → IsWrongValue own control value wrong → IsFirstOfValue own control value wrong
value_wrong own control value wrong (inl bad) = subst (IsFirstOfValue own control value) (sym bad.2) (inl bad.1)
value_wrong own control value wrong (inr (path, has, inl bad)) = subst (IsFirstOfValue own control value) (sym bad.2) (inr ((path, has), bad.1))
value_wrong own control value wrong (inr (path, has, inr later)) = later_wrong own control value path wrong has later

wrong_value : (own : ProviderId) (control : List ℕ) (value : Data) (wrong : CommandFault) → IsFirstOfValue own control value wrong → IsWrongValue own control value wrong
wrong_value own control value (fault.Field f) (inl bad) = inl (f, bad, refl)
wrong_value own control value (fault.Field f) (inr form) = inr (form.0.0, form.0.1, inl (f, form.1, refl))
wrong_value own control value other so = inr (so.0, so.2, inr (so.1, so.3, so.4))

command_is : (own : ProviderId) (control : List ℕ) (value : Data) (path : List ProviderId) (command : Command) → HasPath value path → IsRest own control value path command → IsCommandValue own control value command
command_is own control value path command has so = record {
  list = has.0;
  has_path = has.1;
  path = subst (IsList IsId has.0) so.0 has.2;
  foreign = subst (λ p. Contains p own → ⊥) so.0 so.1;
  act = so.2;
}

pub value_meets : (own : ProviderId) (control : List ℕ) (value : Data) → Meets (command_of_value own control value) (IsCommandValue own control value) (IsFirstOfValue own control value)
unfolding command_of_value written_of
value_meets own control value = subst (λ reading. Meets reading (IsCommandValue own control value) (IsFirstOfValue own control value)) (sym (in_two (path_at value) (form_at value) _ (command_of_written own control)))
    (meets_also _
    (meets_then (field (path_at value)) _ (field_meets (path_at value) (path_meets value)) (λ path has. let members = has_object (codes "cdn-path") value has.0 has.1 in form_of_object own control path value members.0 members.1))
    (λ command so. command_is own control value so.0 command so.1 so.2) (λ command so. (command.path, (so.list, so.has_path, so.path), (refl, so.foreign, so.act)))
    (value_wrong own control value) (wrong_value own control value))

-- ---- a text

abbrev IsFirstOfText : ProviderId → List ℕ → Option Data → CommandFault → Type 0
IsFirstOfText own control found fault.NotJson = found ≡ None
IsFirstOfText own control found wrong = (value : Data) × (found ≡ Some value) × IsFirstOfValue own control value wrong

not_json_alone : (own : ProviderId) (control : List ℕ) (wrong : CommandFault) → IsFirstOfText own control None wrong → wrong ≡ fault.NotJson
not_json_alone own control fault.NotJson so = refl
not_json_alone own control other so = absurd (none-some so.0 so.1)

never_not_json : (own : ProviderId) (control : List ℕ) (value : Data) → IsFirstOfValue own control value fault.NotJson → ⊥
never_not_json own control value so = no_not_json so.1 so.4
  where
    no_not_json : (a : WrittenAct) → IsWrongCommand own control so.0 a fault.NotJson → ⊥
    no_not_json (new_trigger trigger) bad = bad.1
    no_not_json (cancel_of texts) bad = bad.1

of_text : (own : ProviderId) (control : List ℕ) (value : Data) (wrong : CommandFault) → IsFirstOfValue own control value wrong → IsFirstOfText own control (Some value) wrong
of_text own control value fault.NotJson so = absurd (never_not_json own control value so)
of_text own control value other so = (value, refl, so)

text_of_it : (own : ProviderId) (control : List ℕ) (value : Data) (wrong : CommandFault) → IsFirstOfText own control (Some value) wrong → IsFirstOfValue own control value wrong
text_of_it own control value fault.NotJson so = absurd (none-some value (sym so))
text_of_it own control value other so = subst (λ v. IsFirstOfValue own control v other) (sym (same_Some value so.0 so.1)) so.2

found_meets : (own : ProviderId) (control : List ℕ) (found : Option Data) → Meets (option_map_or (command_of_value own control) found (Err fault.NotJson))
    (λ command. (value : Data) × (found ≡ Some value) × IsCommandValue own control value command) (IsFirstOfText own control found)
found_meets own control None = meets_also (Err fault.NotJson) (meets_err fault.NotJson)
    (λ command none. absurd none) (λ command so. none-some so.0 so.1)
    (λ wrong so. subst (IsFirstOfText own control None) (sym so) refl) (not_json_alone own control)
found_meets own control (Some value) = meets_also (command_of_value own control value) (value_meets own control value)
    (λ command so. (value, refl, so)) (λ command so. subst (λ v. IsCommandValue own control v command) (sym (same_Some value so.0 so.1)) so.2)
    (of_text own control value) (text_of_it own control value)

pub text_meets : (own : ProviderId) (control text : List ℕ) → Meets (command_of own control text) (IsCommand own control text) (IsFirstFault own control text)
unfolding command_of
text_meets own control text = meets_also (command_of own control text) (found_meets own control (json_of text))
    (λ command so. so) (λ command so. so) (λ wrong so. to_fault wrong so) (λ wrong so. from_fault wrong so)
  where
    to_fault : (wrong : CommandFault) → IsFirstOfText own control (json_of text) wrong → IsFirstFault own control text wrong
    to_fault fault.NotJson so = so
    to_fault other so = so

    from_fault : (wrong : CommandFault) → IsFirstFault own control text wrong → IsFirstOfText own control (json_of text) wrong
    from_fault fault.NotJson so = so
    from_fault other so = so
