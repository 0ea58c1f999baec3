-- A JSON value without numbers, whose texts are in UTF-8 and whose members stand in order, is read back from its text.
use Rattle.std.proofs.Common.{◌≡◌, ℕ, ◌≤◌, Bool, true, false, List, [], ◌∷◌, ◌++◌, refl, sym, ap, ◌∙◌, Some, option_map, option_and_then, IsUtf8, append-nil}
use Rattle.std.specs.Prelude.{⊤}
use Rattle.std.specs.Ordering.{nat_cmp, match_ordering}
use Rattle.std.specs.declared.cmp.Ordering.TheVariants.{Greater}
use Rattle.std.specs.Cmp.Lexicographic.{slice_cmp}
use Rattle.std.proofs.lemmas.Str.{IsUtf8-append, IsUtf8-nil}
use Rattle.json.specs.Json as json
use Rattle.json.specs.Lex.{tokens}
use Rattle.json.specs.Print.{quoted}
use Rattle.json.specs.Tree.{json_tokens, HasNumbers, ItemsHaveNumbers, MembersHaveNumbers}
use Rattle.json.specs.Tree as tree
use Rattle.json.proofs.Printed.Tokens.{tokens-print}
use Rattle.json.proofs.Printed.Trees.{value-json_tokens, ArePrintable-json_tokens}
use Rattle.json.proofs.Printed.Utf8.{IsUtf8-are_ascii, IsUtf8-quoted, IsUtf8-boolean}
use Rattle.json_read.specs.Text.{json_of}
use Rattle.json_read.proofs.Texts.{json_of-utf8}
use Rattle.serde_json.specs.Data.{Data, null, boolean, number, string, array, object, Items, no_items, item, Members, no_members, member, put}
use Rattle.serde_json.specs.Read.{of_json, of_items, of_members}
use Rattle.serde_json.specs.Written.{outline, items_outline, members_outline, comma_if, compact_text, items_text, members_text}
use Rattle.serde_json.proofs.Texts.{print-outline}

-- ---- members in order

-- the name stands behind all of these
abbrev pub IsBehind : List ℕ → Members → Type 0
IsBehind name no_members = ⊤
IsBehind name (member other value others) = (slice_cmp nat_cmp name other ≡ Greater) × IsBehind name others

-- the members with one more at the end
abbrev pub with_last : Members → List ℕ → Data → Members
with_last no_members name value = member name value no_members
with_last (member first one others) name value = member first one (with_last others name value)

put_last : (name : List ℕ) (value : Data) (found : Members) → IsBehind name found → put name value found ≡ with_last found name value
put_last name value no_members behind = refl
put_last name value (member other one found) behind =
    ap (λ order. match_ordering order (member name value (member other one found)) (member other value found) (member other one (put name value found))) behind.0
    ∙ ap (member other one) (put_last name value found behind.1)

-- these members and then those
abbrev joined : Members → Members → Members
joined no_members others = others
joined (member name value found) others = member name value (joined found others)

joined_last : (found : Members) (name : List ℕ) (value : Data) (others : Members) → joined (with_last found name value) others ≡ joined found (member name value others)
joined_last no_members name value others = refl
joined_last (member first one found) name value others = ap (member first one) (joined_last found name value others)

joined_none : (found : Members) → joined found no_members ≡ found
joined_none no_members = refl
joined_none (member name value found) = ap (member name value) (joined_none found)

-- ---- what is read back

abbrev mutual
  pub IsKept : Data → Type 0
  IsKept null = ⊤
  IsKept (boolean b) = ⊤
  IsKept (number n) = ⊥
  IsKept (string s) = IsUtf8 s
  IsKept (array items) = AreKept items
  IsKept (object others) = AreInOrder no_members others

  pub AreKept : Items → Type 0
  AreKept no_items = ⊤
  AreKept (item value items) = IsKept value × AreKept items

  -- behind those that were found
  pub AreInOrder : Members → Members → Type 0
  AreInOrder found no_members = ⊤
  AreInOrder found (member name value others) = IsBehind name found × IsUtf8 name × IsKept value × AreInOrder (with_last found name value) others

mutual
  of_outline : (value : Data) → IsKept value → of_json (outline value) ≡ Some value
  of_outline null so = refl
  of_outline (boolean b) so = refl
  of_outline (number n) so = absurd so
  of_outline (string s) so = refl
  of_outline (array items) so = ap (option_map array) (of_items_outline items so)
  of_outline (object others) so = ap (option_map object) (of_members_outline others no_members so)

  of_items_outline : (items : Items) → AreKept items → of_items (items_outline items) ≡ Some items
  of_items_outline no_items so = refl
  of_items_outline (item value items) so = ap (option_and_then (λ d. option_map (item d) (of_items (items_outline items)))) (of_outline value so.0) ∙ ap (option_map (item value)) (of_items_outline items so.1)

  of_members_outline : (others found : Members) → AreInOrder found others → of_members (members_outline others) found ≡ Some (joined found others)
  of_members_outline no_members found so = ap Some (sym (joined_none found))
  of_members_outline (member name value others) found so =
      ap (option_and_then (λ d. of_members (members_outline others) (put name d found))) (of_outline value so.2)
      ∙ ap (of_members (members_outline others)) (put_last name value found so.0)
      ∙ of_members_outline others (with_last found name value) so.3 ∙ ap Some (joined_last found name value others)

mutual
  numbers : (value : Data) → IsKept value → HasNumbers (outline value)
  numbers null so = tt
  numbers (boolean b) so = tt
  numbers (number n) so = absurd so
  numbers (string s) so = tt
  numbers (array items) so = items_numbers items so
  numbers (object others) so = members_numbers others no_members so

  items_numbers : (items : Items) → AreKept items → ItemsHaveNumbers (items_outline items)
  items_numbers no_items so = tt
  items_numbers (item value items) so = (numbers value so.0, items_numbers items so.1)

  members_numbers : (others found : Members) → AreInOrder found others → MembersHaveNumbers (members_outline others)
  members_numbers no_members found so = tt
  members_numbers (member name value others) found so = (numbers value so.2, members_numbers others (with_last found name value) so.3)

comma_utf8 : (later : Bool) → IsUtf8 (comma_if later)
comma_utf8 true = IsUtf8-are_ascii _ refl
comma_utf8 false = IsUtf8-nil

-- an ASCII byte before a text
byte_utf8 : (byte : List ℕ) (text : List ℕ) → IsUtf8 byte → IsUtf8 text → IsUtf8 (byte ++ text)
byte_utf8 byte text one rest = IsUtf8-append byte text one rest

mutual
  text_utf8 : (value : Data) → IsKept value → IsUtf8 (compact_text value)
  text_utf8 null so = IsUtf8-are_ascii _ refl
  text_utf8 (boolean b) so = IsUtf8-boolean b
  text_utf8 (number n) so = absurd so
  text_utf8 (string s) so = IsUtf8-quoted s so
  text_utf8 (array items) so = IsUtf8-append (91 ∷ []) (items_text false items) (IsUtf8-are_ascii _ refl) (items_utf8 false items so)
  text_utf8 (object others) so = IsUtf8-append (123 ∷ []) (members_text false others) (IsUtf8-are_ascii _ refl) (members_utf8 false others no_members so)

  items_utf8 : (later : Bool) (items : Items) → AreKept items → IsUtf8 (items_text later items)
  items_utf8 later no_items so = IsUtf8-are_ascii _ refl
  items_utf8 later (item value items) so = IsUtf8-append (comma_if later) _ (comma_utf8 later) (IsUtf8-append (compact_text value) (items_text true items) (text_utf8 value so.0) (items_utf8 true items so.1))

  members_utf8 : (later : Bool) (others found : Members) → AreInOrder found others → IsUtf8 (members_text later others)
  members_utf8 later no_members found so = IsUtf8-are_ascii _ refl
  members_utf8 later (member name value others) found so = IsUtf8-append (comma_if later) _ (comma_utf8 later)
      (IsUtf8-append (quoted name) _ (IsUtf8-quoted name so.1) (IsUtf8-append (58 ∷ []) _ (IsUtf8-are_ascii _ refl)
      (IsUtf8-append (compact_text value) (members_text true others) (text_utf8 value so.2) (members_utf8 true others (with_last found name value) so.3))))

pub read_back : (value : Data) → IsKept value → tree.depth (outline value) ≤ 127 → json_of (compact_text value) ≡ Some value
read_back value kept shallow =
    let printed : tokens (compact_text value) ≡ json_tokens (outline value) =
    ap tokens (sym (print-outline value)) ∙ tokens-print (json_tokens (outline value)) (ArePrintable-json_tokens (outline value) (numbers value kept)) in
    json_of-utf8 (compact_text value) (text_utf8 value kept)
    ∙ ap (λ ts. option_and_then of_json (option_and_then (λ p. json.if_last p.0 p.1) (json.value 127 ts))) (printed ∙ sym (append-nil (json_tokens (outline value))))
    ∙ ap (λ found. option_and_then of_json (option_and_then (λ p. json.if_last p.0 p.1) found)) (value-json_tokens (outline value) 127 [] shallow)
    ∙ of_outline value kept
