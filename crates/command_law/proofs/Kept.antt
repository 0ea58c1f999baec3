-- A command that is made of a shown trigger is read back from its text, where the texts of the trigger are in UTF-8.
use Rattle.std.proofs.Common.{◌≡◌, ℕ, suc, ◌≤◌, true, List, [], ◌∷◌, All, codes, refl, sym, subst, inl, inr, Some, Option, IsUtf8, arith}
use Rattle.std.specs.List.{AllZip}
use Rattle.std.specs.Prelude.{⊤}
use Rattle.std.specs.Ordering.{nat_cmp, match_ordering}
use Rattle.std.specs.declared.cmp.Ordering.{Ordering}
use Rattle.std.specs.declared.cmp.Ordering.TheVariants.{Less, Equal, Greater}
use Rattle.std.specs.Cmp.Lexicographic.{slice_cmp}
use Rattle.std.proofs.lemmas.List.Elements.{All-head, All-tail}
use Rattle.std.proofs.lemmas.Option.{none-some, same_Some}
use Rattle.json.specs.Tree as tree
use Rattle.json.proofs.Printed.Utf8.{IsUtf8-are_ascii}
use Rattle.json_read.specs.Text.{json_of}
use Rattle.cdni_base.specs.declared.provider.ProviderId.{ProviderId}
use Rattle.serde_json.specs.Data.{Data, null, boolean, number, string, array, object, Items, no_items, item, Members, no_members, member}
use Rattle.serde_json.specs.Find.{get_member}
use Rattle.serde_json.specs.View.{items_of}
use Rattle.serde_json.specs.Written.{outline, items_outline, members_outline}
use Rattle.trigger_command.specs.Spec.{SpecParts}
use Rattle.trigger_command.specs.declared.selection.PatternItem.{PatternItem}
use Rattle.trigger_command.specs.declared.selection.UrlItem.{UrlItem}
use Rattle.trigger_command.specs.declared.spec.TriggerKind.{TriggerKind}
use Rattle.trigger_command.specs.declared.spec.TriggerKind.TheVariants.{Preposition, Invalidate, Purge}
use Rattle.trigger_status.specs.Items.{each_as, url_data, pattern_data, with_list}
use Rattle.trigger_status.specs.Job.{kind_name, trigger_data}
use Rattle.command_law.specs.Grammar.{Has, HasList, IsText, IsUrl, IsPattern, IsSpec}
use Rattle.trigger_status.specs.Command.{command_data, command_text, id_data}
use Rattle.command_law.proofs.RoundTrip.{IsKept, AreKept, AreInOrder, IsBehind, with_last, read_back}
use Rattle.command_law.proofs.Shown.{kind_members, from_metadata_urls, from_metadata_patterns, from_content_urls, from_content_patterns, from_ccids, trigger_is}

-- ---- values whose texts are in UTF-8

abbrev mutual
  pub IsInUtf8 : Data → Type 0
  IsInUtf8 null = ⊤
  IsInUtf8 (boolean b) = ⊤
  IsInUtf8 (number n) = ⊤
  IsInUtf8 (string s) = IsUtf8 s
  IsInUtf8 (array items) = AreInUtf8 items
  IsInUtf8 (object others) = HaveUtf8 others

  pub AreInUtf8 : Items → Type 0
  AreInUtf8 no_items = ⊤
  AreInUtf8 (item value items) = IsInUtf8 value × AreInUtf8 items

  pub HaveUtf8 : Members → Type 0
  HaveUtf8 no_members = ⊤
  HaveUtf8 (member name value others) = IsInUtf8 value × HaveUtf8 others

by_order : (order : Ordering) (here : Data) (later : Option Data) (value : Data) → IsInUtf8 here → (later ≡ Some value → IsInUtf8 value) → match_ordering order later (Some here) later ≡ Some value → IsInUtf8 value
by_order Less here later value utf8 more is = more is
by_order Equal here later value utf8 more is = subst IsInUtf8 (same_Some here value is) utf8
by_order Greater here later value utf8 more is = more is

member_utf8 : (name : List ℕ) (others : Members) (value : Data) → HaveUtf8 others → get_member name others ≡ Some value → IsInUtf8 value
member_utf8 name no_members value all is = absurd (none-some value is)
member_utf8 name (member other one others) value all is =
    by_order (slice_cmp nat_cmp name other) one (get_member name others) value all.0 (λ later. member_utf8 name others value all.1 later) is

pub property_utf8 : (name : List ℕ) (owner value : Data) → IsInUtf8 owner → Has name value owner → IsInUtf8 value
property_utf8 name null value all is = absurd (none-some value is)
property_utf8 name (boolean b) value all is = absurd (none-some value is)
property_utf8 name (number n) value all is = absurd (none-some value is)
property_utf8 name (string s) value all is = absurd (none-some value is)
property_utf8 name (array items) value all is = absurd (none-some value is)
property_utf8 name (object others) value all is = member_utf8 name others value all is

-- ---- lists that are written

module _ {A : Type 0} (IsItem : Data → A → Type 0) (write : A → Data) (kept : (value : Data) (x : A) → IsItem value x → IsInUtf8 value → IsKept (write x)) where
  each_kept : (values : List Data) (xs : List A) → AllZip IsItem values xs → AreInUtf8 (items_of values) → AreKept (each_as write xs)
  each_kept [] [] all utf8 = tt
  each_kept [] (x ∷ xs) all utf8 = absurd all
  each_kept (value ∷ values) [] all utf8 = absurd all
  each_kept (value ∷ values) (x ∷ xs) all utf8 = (kept value x all.0 utf8.0, each_kept values xs all.1 utf8.1)

  list_kept : (name : List ℕ) (owner : Data) (xs : List A) → IsInUtf8 owner → HasList IsItem name owner xs → AreKept (each_as write xs)
  list_kept name owner xs all (inl none) = subst (λ ys. AreKept (each_as write ys)) (sym none.1) tt
  list_kept name owner xs all (inr some) = each_kept some.2.0 xs some.2.2 (subst IsInUtf8 some.2.1 (property_utf8 name owner some.0 all some.1))

  each_shallow : (n : ℕ) → ((x : A) → tree.depth (outline (write x)) ≤ n) → (xs : List A) → tree.items_depth (items_outline (each_as write xs)) ≤ n
  each_shallow n one [] = omega arith
  each_shallow n one (x ∷ xs) = omega (arith, one x, each_shallow n one xs)

url_kept : (value : Data) (url : UrlItem) → IsUrl value url → IsInUtf8 value → IsKept (url_data url)
url_kept value url so utf8 = subst IsInUtf8 so.text utf8

text_kept : (value : Data) (text : List ℕ) → IsText value text → IsInUtf8 value → IsKept (string text)
text_kept value text so utf8 = subst IsInUtf8 so utf8

-- a name in ASCII
ascii : (name : List ℕ) → Rattle.json.proofs.Printed.Utf8.are_ascii name ≡ true → IsUtf8 name
ascii name is = IsUtf8-are_ascii name is

pattern_kept : (value : Data) (pattern : PatternItem) → IsPattern value pattern → IsInUtf8 value → IsKept (pattern_data pattern)
pattern_kept value pattern so utf8 =
    (tt, ascii (codes "case-sensitive") refl, tt, ((refl, tt), ascii (codes "match-query-string") refl, tt, ((refl, (refl, tt)), ascii (codes "pattern") refl, property_utf8 (codes "pattern") value (string pattern.text) utf8 so.text, tt)))

-- ---- members in order

-- each of these names stands behind all members
abbrev AreBehind : List (List ℕ) → Members → Type 0
AreBehind [] found = ⊤
AreBehind (name ∷ names) found = IsBehind name found × AreBehind names found

-- each of these names stands behind this one
abbrev AreAfter : List (List ℕ) → List ℕ → Type 0
AreAfter [] other = ⊤
AreAfter (name ∷ names) other = (slice_cmp nat_cmp name other ≡ Greater) × AreAfter names other

behind_last : (name other : List ℕ) (value : Data) (found : Members) → IsBehind name found → slice_cmp nat_cmp name other ≡ Greater → IsBehind name (with_last found other value)
behind_last name other value no_members behind after = (after, tt)
behind_last name other value (member first one found) behind after = (behind.0, behind_last name other value found behind.1 after)

all_behind_last : (names : List (List ℕ)) (other : List ℕ) (value : Data) (found : Members) → AreBehind names found → AreAfter names other → AreBehind names (with_last found other value)
all_behind_last [] other value found behind after = tt
all_behind_last (name ∷ names) other value found behind after = (behind_last name other value found behind.0 after.0, all_behind_last names other value found behind.1 after.1)

list_in_order : (name : List ℕ) (names : List (List ℕ)) (items : Items) (others : Members) → AreAfter names name → IsUtf8 name → AreKept items
    → ((found : Members) → AreBehind names found → AreInOrder found others) → (found : Members) → AreBehind (name ∷ names) found → AreInOrder found (with_list name items others)
list_in_order name names no_items others after utf8 kept rest found behind = rest found behind.1
list_in_order name names (item value items) others after utf8 kept rest found behind =
    (behind.0, utf8, kept, rest (with_last found name (array (item value items))) (all_behind_last names name (array (item value items)) found behind.1 after))

kind_utf8 : (kind : TriggerKind) → IsUtf8 (kind_name kind)
kind_utf8 Preposition = ascii _ refl
kind_utf8 Invalidate = ascii _ refl
kind_utf8 Purge = ascii _ refl

trigger_kept : (value : Data) (spec : SpecParts) → IsSpec value spec → IsInUtf8 value → IsKept (trigger_data spec)
trigger_kept value spec so utf8 = subst IsKept (sym (trigger_is spec))
    (list_in_order (codes "content.ccid") (codes "content.patterns" ∷ codes "content.urls" ∷ codes "metadata.patterns" ∷ codes "metadata.urls" ∷ codes "type" ∷ []) (each_as string spec.selection.ccids) (from_content_patterns spec)
    (refl, (refl, (refl, (refl, (refl, tt))))) (ascii _ refl) (list_kept IsText string text_kept (codes "content.ccid") value spec.selection.ccids utf8 so.ccids)
    (list_in_order (codes "content.patterns") (codes "content.urls" ∷ codes "metadata.patterns" ∷ codes "metadata.urls" ∷ codes "type" ∷ []) (each_as pattern_data spec.selection.content_patterns) (from_content_urls spec)
    (refl, (refl, (refl, (refl, tt)))) (ascii _ refl) (list_kept IsPattern pattern_data pattern_kept (codes "content.patterns") value spec.selection.content_patterns utf8 so.content_patterns)
    (list_in_order (codes "content.urls") (codes "metadata.patterns" ∷ codes "metadata.urls" ∷ codes "type" ∷ []) (each_as url_data spec.selection.content_urls) (from_metadata_patterns spec)
    (refl, (refl, (refl, tt))) (ascii _ refl) (list_kept IsUrl url_data url_kept (codes "content.urls") value spec.selection.content_urls utf8 so.content_urls)
    (list_in_order (codes "metadata.patterns") (codes "metadata.urls" ∷ codes "type" ∷ []) (each_as pattern_data spec.selection.metadata_patterns) (from_metadata_urls spec)
    (refl, (refl, tt)) (ascii _ refl) (list_kept IsPattern pattern_data pattern_kept (codes "metadata.patterns") value spec.selection.metadata_patterns utf8 so.metadata_patterns)
    (list_in_order (codes "metadata.urls") (codes "type" ∷ []) (each_as url_data spec.selection.metadata_urls) (kind_members spec)
    (refl, tt) (ascii _ refl) (list_kept IsUrl url_data url_kept (codes "metadata.urls") value spec.selection.metadata_urls utf8 so.metadata_urls)
    (λ found behind. (behind.0, ascii (codes "type") refl, kind_utf8 spec.kind, tt))))))
    no_members (tt, (tt, (tt, (tt, (tt, (tt, tt)))))))

ids_kept : (path : List ProviderId) → All (λ id. IsUtf8 id.0) path → AreKept (each_as id_data path)
ids_kept [] all = tt
ids_kept (id ∷ path) all = (All-head (λ i. IsUtf8 i.0) id path all, ids_kept path (All-tail (λ i. IsUtf8 i.0) id path all))

command_kept : (path : List ProviderId) (value : Data) (spec : SpecParts) → All (λ id. IsUtf8 id.0) path → IsSpec value spec → IsInUtf8 value → IsKept (command_data path spec)
command_kept path value spec ids so utf8 = (tt, ascii (codes "cdn-path") refl, ids_kept path ids, ((refl, tt), ascii (codes "trigger") refl, trigger_kept value spec so utf8, tt))

-- ---- how deep it nests

list_shallow : (n : ℕ) (name : List ℕ) (items : Items) (others : Members) → tree.items_depth (items_outline items) ≤ n → tree.members_depth (members_outline others) ≤ suc n
    → tree.members_depth (members_outline (with_list name items others)) ≤ suc n
list_shallow n name no_items others one rest = rest
list_shallow n name (item value items) others one rest = omega (arith, one, rest)

trigger_shallow : (spec : SpecParts) → tree.depth (outline (trigger_data spec)) ≤ 3
trigger_shallow spec = rw (trigger_is spec)
    (let whole : tree.members_depth (members_outline (from_ccids spec)) ≤ 2 =
    list_shallow 1 (codes "content.ccid") _ (from_content_patterns spec) (each_shallow IsText string text_kept 1 (λ x. omega arith) spec.selection.ccids)
    (list_shallow 1 (codes "content.patterns") _ (from_content_urls spec) (each_shallow IsPattern pattern_data pattern_kept 1 (λ x. omega arith) spec.selection.content_patterns)
    (list_shallow 1 (codes "content.urls") _ (from_metadata_patterns spec) (each_shallow IsUrl url_data url_kept 1 (λ x. omega arith) spec.selection.content_urls)
    (list_shallow 1 (codes "metadata.patterns") _ (from_metadata_urls spec) (each_shallow IsPattern pattern_data pattern_kept 1 (λ x. omega arith) spec.selection.metadata_patterns)
    (list_shallow 1 (codes "metadata.urls") _ (kind_members spec) (each_shallow IsUrl url_data url_kept 1 (λ x. omega arith) spec.selection.metadata_urls) (omega arith))))) in
    omega (arith, whole))

ids_shallow : (path : List ProviderId) → tree.items_depth (items_outline (each_as id_data path)) ≤ 0
ids_shallow [] = omega arith
ids_shallow (id ∷ path) = omega (arith, ids_shallow path)

command_shallow : (path : List ProviderId) (spec : SpecParts) → tree.depth (outline (command_data path spec)) ≤ 127
command_shallow path spec = omega (arith, trigger_shallow spec, ids_shallow path)

pub command_read_back : (path : List ProviderId) (value : Data) (spec : SpecParts) → All (λ id. IsUtf8 id.0) path → IsSpec value spec → IsInUtf8 value → json_of (command_text path spec) ≡ Some (command_data path spec)
command_read_back path value spec ids so utf8 = read_back (command_data path spec) (command_kept path value spec ids so utf8) (command_shallow path spec)
