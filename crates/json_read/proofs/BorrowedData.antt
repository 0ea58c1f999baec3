-- What a value of the kit's `json` is for `serde_json`.
use Rattle.std.proofs.Common.{◌≡◌, ℕ, List, [], ◌∷◌, map, Bool, true, false, cond, ◌&&◌, ◌==◌, get_or, Float, ℤ, negsuc, Global, Bor, bytes_eq, true≢false, None, Some, is_some, option_map, option_and_then, unwrap_or, refl, sym, ap, ◌∙◌}
use Rattle.std.specs.declared.option.Option.{Option}
use Rattle.std.specs.Str.{IsUtf8}
use Rattle.std.proofs.lemmas.Slice.Eq.{bytes_eq-Decides}
use Rattle.json.specs.Token.{Token}
use Rattle.json.specs.Lex as lex
use Rattle.json.specs.Reads.{Yields}
use Rattle.json.specs.declared.token.Token as tokens
use Rattle.fast_float.specs.Text.{scan}
use Rattle.json.specs.Json as json
use Rattle.json.specs.Find as looked
use Rattle.json.specs.Value as values
use Rattle.json.specs.declared.value.Value.{Value}
use Rattle.serde_json.specs.Data.{Data, Num, negative, float, number, array, object, item, Members, no_members, put}
use Rattle.serde_json.specs.Find.{get, get_member, as_u64}
use Rattle.serde_json.specs.Read.{of_json, of_items, of_members, number_of, number_from}
use Rattle.serde_json.specs.View.{items_of}
use Rattle.serde_json.proofs.Views.{get_member-put, get_member-put_other}
use Rattle.json_read.specs.Text.{json_of}
use Rattle.json_read.proofs.Texts.{json_of-utf8}
use Rattle.json_read.specs.Borrowed.{fits, items_fit, members_fit, number_in, data_of, items_data, members_data}

-- ---- a value is read where all its numbers fit

one_number : (found : Option Num) (other : Num) → option_map number found ≡ cond (is_some found) (Some (number (unwrap_or found other))) None
one_number None other = refl
one_number (Some n) other = refl

wrapped : {A B : Type 0} (f : A → B) (b : Bool) (a : A) → option_map f (cond b (Some a) None) ≡ cond b (Some (f a)) None
wrapped f true a = refl
wrapped f false a = refl

both : {A B C : Type 0} (f : A → B → C) (b c : Bool) (x : A) (y : B)
    → option_and_then (λ a. option_map (f a) (cond c (Some y) None)) (cond b (Some x) None) ≡ cond (b && c) (Some (f x y)) None
both f true c x y = wrapped (f x) c y
both f false c x y = refl

then : {A B : Type 0} (more : A → Option B) (b c : Bool) (x : A) (y : B) → more x ≡ cond c (Some y) None
    → option_and_then more (cond b (Some x) None) ≡ cond (b && c) (Some y) None
then more true c x y is = is
then more false c x y is = refl

mutual
  pub of_json-is : (value : json.Json) → of_json value ≡ cond (fits value) (Some (data_of value)) None
  of_json-is json.null = refl
  of_json-is (json.boolean b) = refl
  of_json-is (json.number text) = one_number (number_of text) _
  of_json-is (json.string text) = refl
  of_json-is (json.array items) = ap (option_map array) (of_items-is items) ∙ wrapped array (items_fit items) (items_data items)
  of_json-is (json.object members) = ap (option_map object) (of_members-is members no_members) ∙ wrapped object (members_fit members) (members_data members no_members)

  of_items-is : (items : json.Items) → of_items items ≡ cond (items_fit items) (Some (items_data items)) None
  of_items-is json.no_items = refl
  of_items-is (json.item value items) = rw (of_json-is value, of_items-is items) (both item (fits value) (items_fit items) (data_of value) (items_data items))

  of_members-is : (members : json.Members) (found : Members) → of_members members found ≡ cond (members_fit members) (Some (members_data members found)) None
  of_members-is json.no_members found = refl
  of_members-is (json.member name value members) found = ap (option_and_then (λ d. of_members members (put name d found))) (of_json-is value)
      ∙ then (λ d. of_members members (put name d found)) (fits value) (members_fit members) (data_of value) _ (of_members-is members (put name (data_of value) found))

-- a text that begins with a value: the value where nothing follows and its numbers fit
pub text_is : (text : List ℕ) (value : json.Json) (left new : List Token) (next : Option tokens.Token) → IsUtf8 text → json.value 127 (lex.tokens text) ≡ Some (value, left)
    → Yields left next new → json_of text ≡ cond (is_some next) None (cond (fits value) (Some (data_of value)) None)
text_is text value left new None utf8 is ends = json_of-utf8 text utf8 ∙ rw (is, ends.0) (of_json-is value)
text_is text value left new (Some t) utf8 is more = json_of-utf8 text utf8 ∙ rw (is, more) refl

-- a text that begins with no value
pub no_value : (text : List ℕ) → IsUtf8 text → json.value 127 (lex.tokens text) ≡ None → json_of text ≡ None
no_value text utf8 is = json_of-utf8 text utf8 ∙ rw is refl

-- ---- looking into a value

-- the value that was found later, or else the one before
abbrev over : Option Data → Option Data → Option Data
over None before = before
over (Some later) before = Some later

other_name : (name k : List ℕ) → bytes_eq k name ≡ false → name ≡ k → ⊥
other_name name k differ same = true≢false (sym ((bytes_eq-Decides k name).1 (sym same)) ∙ differ)

here : (b : Bool) (name k : List ℕ) (value : json.Json) (found : Members) → bytes_eq k name ≡ b
    → get_member name (put k (data_of value) found) ≡ over (option_map data_of (cond b (Some value) None)) (get_member name found)
here true name k value found same = let is = (bytes_eq-Decides k name).0 same in rw is (get_member-put name (data_of value) found)
here false name k value found differ = get_member-put_other name k (data_of value) found (other_name name k differ)

later : (o : Option json.Json) (name k : List ℕ) (value : json.Json) (found : Members)
    → over (option_map data_of o) (get_member name (put k (data_of value) found)) ≡ over (option_map data_of (looked.later_or o (cond (bytes_eq k name) (Some value) None))) (get_member name found)
later None name k value found = here (bytes_eq k name) name k value found refl
later (Some x) name k value found = refl

member_is : (name : List ℕ) (members : json.Members) (found : Members)
    → get_member name (members_data members found) ≡ over (option_map data_of (looked.get_member name members)) (get_member name found)
member_is name json.no_members found = refl
member_is name (json.member k value members) found = member_is name members (put k (data_of value) found) ∙ later (looked.get_member name members) name k value found

over_none : (o : Option Data) → over o None ≡ o
over_none None = refl
over_none (Some x) = refl

pub get_is : (name : List ℕ) (value : json.Json) → option_map data_of (looked.get name value) ≡ get name (data_of value)
get_is name json.null = refl
get_is name (json.boolean b) = refl
get_is name (json.number text) = refl
get_is name (json.string text) = refl
get_is name (json.array items) = refl
get_is name (json.object members) = sym (member_is name members no_members ∙ over_none _)

pub items_are : (items : List (Value Global)) → items_of (map (λ v. data_of (values.value_view v)) items) ≡ items_data (values.items_view items)
items_are [] = refl
items_are (v ∷ vs) = ap (item (data_of (values.value_view v))) (items_are vs)

twice : (o : Option (Bor (Value Global))) → option_map (λ v. data_of (values.value_view v.now)) o ≡ option_map data_of (option_map (λ v. values.value_view v.now) o)
twice None = refl
twice (Some v) = refl

-- the member of a name
pub found_is : (o : Option (Bor (Value Global))) (name : List ℕ) (value : json.Json) → option_map (λ v. values.value_view v.now) o ≡ looked.get name value
    → option_map (λ v. data_of (values.value_view v.now)) o ≡ get name (data_of value)
found_is o name value is = twice o ∙ ap (option_map data_of) is ∙ get_is name value

-- ---- whole numbers

unwrapped : (o : Option Num) → as_u64 (unwrap_or o (negative (negsuc 0))) ≡ option_and_then as_u64 o
unwrapped None = refl
unwrapped (Some n) = refl

below : (b c : Bool) (z : ℤ) (x : Float) → option_and_then as_u64 (cond b (Some (negative z)) (cond c (Some (float x)) None)) ≡ None
below true c z x = refl
below false true z x = refl
below false false z x = refl

-- a number with a minus sign is no whole one from 0
pub minus_is_not_whole : (text : List ℕ) → (get_or text 0 0 == 45) ≡ true → None ≡ as_u64 (number_in text)
unfolding number_of
minus_is_not_whole text minus = sym (unwrapped (number_of text) ∙ rw minus (below _ _ _ _))

pub whole_is : (text : List ℕ) (found : Option ℕ) → (get_or text 0 0 == 45) ≡ false → found ≡ option_and_then as_u64 (number_from false (scan text)) → found ≡ as_u64 (number_in text)
unfolding number_of
whole_is text found plain is = is ∙ sym (unwrapped (number_of text) ∙ rw plain refl)
