-- The tree of all documents.
use Rattle.std.proofs.Common.{◌≡◌, ℕ, suc, ◌+◌, ◌<◌, ◌≤◌, List, [], ◌∷◌, ◌++◌, length, drop, get_or, None, Some, Ok, Err, refl, sym, ◌∙◌, ap, subst, append_assoc, append-nil, drop-cons, add-one, IfErr}
use Rattle.std.proofs.lemmas.List.{drop_all}
use Rattle.std.specs.Option.{option_map, option_and_then}
use Rattle.std.specs.declared.alloc.Global.{Global}
use Rattle.std.specs.declared.option.Option.{Option}
use Rattle.std.specs.declared.result.Result.{Result}
use Rattle.json.specs.declared.value.Value.{Value}
use Rattle.json_read.specs.Text.{json_of}
use Rattle.serde_json.specs.Data.{Data}
use Rattle.metadata_objects.specs.Host.{host_index_of}
use Rattle.metadata_objects.specs.LevelData.{Index}
use Rattle.metadata_objects.specs.Reading.{Reading, Gives, Fails}
use Rattle.metadata_objects.specs.declared.fault.MetaFault.{MetaFault}
use Rattle.metadata_objects.specs.declared.fault.MetaFault.TheVariants as meta_fault
use Rattle.metadata_objects.specs.declared.host.HostIndex.{HostIndex}
use Rattle.metadata_objects.specs.declared.tree.Tree.{Tree}
use Rattle.metadata_links.specs.Answers.{IsNoFetch}
use Rattle.metadata_links.specs.Fault.{of_meta}
use Rattle.metadata_links.specs.Filled.{seen, all_seen, IsValueOf, AreValuesOf}
use Rattle.metadata_links.specs.Gathering.{values_of, joined, index_of, IsTreeOf}
use Rattle.metadata_links.specs.Joined.{index_filled}
use Rattle.metadata_links.specs.State.{State}

-- ---- the values of the texts

abbrev pub in_front : List Data → Option (List Data) → Option (List Data)
in_front front rest = option_map (λ values. front ++ values) rest

pub front_none : (rest : Option (List Data)) → in_front [] rest ≡ rest
front_none None = refl
front_none (Some values) = refl

front_moves : (front : List Data) (value : Data) (rest : Option (List Data)) → in_front front (option_map (λ values. value ∷ values) rest) ≡ in_front (front ++ value ∷ []) rest
front_moves front value None = refl
front_moves front value (Some values) = ap Some (sym (append_assoc front (value ∷ []) values))

seen_more : (front : List (Value Global)) (value : Value Global) → all_seen (front ++ value ∷ []) ≡ all_seen front ++ seen value ∷ []
seen_more [] value = refl
seen_more (first ∷ front) value = ap (λ xs. seen first ∷ xs) (seen_more front value)

first_value : (text : List ℕ) (texts : List (List ℕ)) (value : Data) → json_of text ≡ Some value → values_of (text ∷ texts) ≡ option_map (λ values. value ∷ values) (values_of texts)
unfolding values_of
first_value text texts value is = rw is refl

first_none : (text : List ℕ) (texts : List (List ℕ)) → json_of text ≡ None → values_of (text ∷ texts) ≡ None
unfolding values_of
first_none text texts is = rw is refl

none_values : values_of [] ≡ Some []
unfolding values_of
none_values = refl

module _ (texts : List (List ℕ)) (i : ℕ) (front : List (Value Global)) (so_far : in_front (all_seen front) (values_of (drop i texts)) ≡ values_of texts) where
  here : (text : List ℕ) → i < length texts → text ≡ get_or texts i text → drop i texts ≡ text ∷ drop (i + 1) texts
  here text below is = drop-cons texts i text below ∙ ap (λ t. t ∷ drop (suc i) texts) (sym is) ∙ ap (λ n. text ∷ drop n texts) (sym (add-one i))

  pub one_value_more : (text : List ℕ) (value : Value Global) (now : List (Value Global)) → i < length texts → text ≡ get_or texts i text → json_of text ≡ Some (seen value) → now ≡ front ++ value ∷ []
      → in_front (all_seen now) (values_of (drop (i + 1) texts)) ≡ values_of texts
  one_value_more text value now below is reads put = ap (λ xs. in_front (all_seen xs) (values_of (drop (i + 1) texts))) put
      ∙ ap (λ xs. in_front xs (values_of (drop (i + 1) texts))) (seen_more front value)
      ∙ sym (front_moves (all_seen front) (seen value) (values_of (drop (i + 1) texts)))
      ∙ ap (in_front (all_seen front)) (sym (first_value text (drop (i + 1) texts) (seen value) reads))
      ∙ ap (λ xs. in_front (all_seen front) (values_of xs)) (sym (here text below is)) ∙ so_far

  none_here : (text : List ℕ) → i < length texts → text ≡ get_or texts i text → json_of text ≡ None → values_of texts ≡ None
  none_here text below is none = sym so_far ∙ ap (λ xs. in_front (all_seen front) (values_of xs)) (here text below is)
      ∙ ap (in_front (all_seen front)) (first_none text (drop (i + 1) texts) none)

  pub no_value : (text : List ℕ) (fault : MetaFault) → i < length texts → text ≡ get_or texts i text → IsValueOf text (Err fault) → AreValuesOf texts (Err fault)
  no_value text meta_fault.NotJson below is none = none_here text below is none
  no_value text meta_fault.Memory below is none = tt
  no_value text (meta_fault.TooLong len) below is none = absurd none
  no_value text (meta_fault.Link path) below is none = absurd none
  no_value text (meta_fault.Field fault) below is none = absurd none
  no_value text (meta_fault.TooMany n) below is none = absurd none
  no_value text (meta_fault.TooDeep n) below is none = absurd none

  pub all_values : length texts ≤ i → values_of texts ≡ Some (all_seen front)
  all_values over = sym so_far ∙ ap (λ xs. in_front (all_seen front) (values_of xs)) (drop_all i texts over) ∙ ap (in_front (all_seen front)) none_values ∙ ap Some (append-nil (all_seen front))

-- ---- the index

pub index_is : (texts : List (List ℕ)) (values : List Data) → values_of texts ≡ Some values → index_of texts ≡ host_index_of (joined values)
unfolding index_of
index_is texts values is = rw is refl

no_index : (texts : List (List ℕ)) → values_of texts ≡ None → index_of texts ≡ Err meta_fault.NotJson
unfolding index_of
no_index texts is = rw is refl

pub not_read : (texts : List (List ℕ)) (fault : MetaFault) → AreValuesOf texts (Err fault) → Fails {B = Index} fault (index_of texts)
not_read texts meta_fault.NotJson none = no_index texts none
not_read texts meta_fault.Memory none = tt
not_read texts (meta_fault.TooLong len) none = absurd none
not_read texts (meta_fault.Link path) none = absurd none
not_read texts (meta_fault.Field fault) none = absurd none
not_read texts (meta_fault.TooMany n) none = absurd none
not_read texts (meta_fault.TooDeep n) none = absurd none

-- ---- the tree

pub no_tree : (state : State) (fault : MetaFault) → Fails {B = Index} fault (index_of state.texts) → IsTreeOf state (Err (of_meta fault))
no_tree state meta_fault.NotJson is = is
no_tree state meta_fault.Memory is = tt
no_tree state (meta_fault.TooLong len) is = is
no_tree state (meta_fault.Link path) is = is
no_tree state (meta_fault.Field fault) is = is
no_tree state (meta_fault.TooMany n) is = is
no_tree state (meta_fault.TooDeep n) is = is

pub meta_is_no_fetch : (fault : MetaFault) → IsNoFetch (of_meta fault)
meta_is_no_fetch meta_fault.NotJson = tt
meta_is_no_fetch meta_fault.Memory = tt
meta_is_no_fetch (meta_fault.TooLong len) = tt
meta_is_no_fetch (meta_fault.Link path) = tt
meta_is_no_fetch (meta_fault.Field fault) = tt
meta_is_no_fetch (meta_fault.TooMany n) = tt
meta_is_no_fetch (meta_fault.TooDeep n) = tt

pub whole_is : (values rest : List (Value Global)) (root result : Value Global) (left : List Data) → values ≡ root ∷ rest → index_filled (seen root) (all_seen rest) ≡ (seen result, left) → seen result ≡ joined (all_seen values)
whole_is values rest root result left is filled = sym (ap (λ vs. joined (all_seen vs)) is ∙ ap (λ r. r.0) filled)
