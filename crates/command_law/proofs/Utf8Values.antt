-- The value of a JSON text has texts in UTF-8 alone.
use Rattle.std.proofs.Common.{◌≡◌, ℕ, zero, suc, ◌<◌, Bool, true, false, cond, ◌==◌, List, [], ◌∷◌, ◌++◌, length, Option, Some, None, option_map, option_and_then, IsUtf8, refl, sym, ap, subst, inl, inr, arith}
use Rattle.std.specs.Prelude.{⊤}
use Rattle.std.specs.Str.{is_utf8}
use Rattle.std.specs.Ordering.{nat_cmp, match_ordering}
use Rattle.std.specs.declared.cmp.Ordering.{Ordering}
use Rattle.std.specs.declared.cmp.Ordering.TheVariants.{Less, Equal, Greater}
use Rattle.std.specs.Cmp.Lexicographic.{slice_cmp}
use Rattle.std.proofs.lemmas.Bool.{cond_both, eqb-true}
use Rattle.std.proofs.lemmas.Option.{none-some, same_Some, some_pair_parts}
use Rattle.std.proofs.lemmas.Str.{IsUtf8-from_is_utf8}
use Rattle.json.specs.Json.{Json, Items, Members, Parse, parse_map, after_end_array, read_key, items_step, members_step, items, members, value_with, value, if_last}
use Rattle.json.specs.Json as json
use Rattle.json.specs.Lex.{Lexeme, token, comma, colon, Class, quote, backslash, operator, space, other, class, operator_lexeme, string_token, Mode, between, in_word, in_string, in_escape, lex_byte, lex, Place, fresh, after_value, after_comma, after_key, begins_colon, may_begin, may_close, if_allowed, place_token, punctuate, tokens}
use Rattle.json.specs.Text.{content, plain}
use Rattle.json.specs.Token as t
use Rattle.json.specs.Token.{Token}
use Rattle.json.specs.Ascii.{true_text, false_text, null_text}
use Rattle.json.specs.Word.{word, head, literal, number_before, after_number}
use Rattle.json_read.specs.Text.{json_of}
use Rattle.serde_json.specs.Data as held
use Rattle.serde_json.specs.Data.{Data, put}
use Rattle.serde_json.specs.Read.{read, of_json, of_items, of_members, number_of}
use Rattle.command_law.proofs.Kept.{IsInUtf8, AreInUtf8, HaveUtf8}
use Rattle.command_law.proofs.Utf8Texts.{IsHigh, peel, string_utf8}

-- ---- tokens

abbrev IsTokenUtf8 : Token → Type 0
IsTokenUtf8 (t.key s) = IsUtf8 s
IsTokenUtf8 (t.string s) = IsUtf8 s
IsTokenUtf8 one = ⊤

abbrev IsLexemeUtf8 : Lexeme → Type 0
IsLexemeUtf8 (token one) = IsTokenUtf8 one
IsLexemeUtf8 comma = ⊤
IsLexemeUtf8 colon = ⊤

abbrev AreLexemes : List Lexeme → Type 0
AreLexemes [] = ⊤
AreLexemes (lexeme ∷ lexemes) = IsLexemeUtf8 lexeme × AreLexemes lexemes

abbrev AreTokens : List Token → Type 0
AreTokens [] = ⊤
AreTokens (one ∷ more) = IsTokenUtf8 one × AreTokens more

-- what stands behind the first bytes of a character, in UTF-8
record Middle (xs : List ℕ) : Type 0 where
  front : List ℕ
  rest : List ℕ
  parts : xs ≡ front ++ rest
  high : IsHigh front
  utf8 : IsUtf8 rest

middle_of : (x : ℕ) (xs front rest : List ℕ) → x ∷ xs ≡ front ++ rest → IsHigh front → IsUtf8 rest → Middle xs × (x < 128 → IsUtf8 xs)
middle_of x xs [] rest parts high utf8 = elim (peel x xs (subst IsUtf8 (sym parts) utf8)) [
  | inl one ↦ (record { front = []; rest = xs; parts = refl; high = tt; utf8 = one.1 }, λ small. one.1)
  | inr more ↦ (record { front = more.0; rest = more.1; parts = more.2; high = more.4; utf8 = more.5 }, λ small. absurd (omega (arith, more.3)))
]
middle_of x xs (y ∷ ys) rest parts high utf8 =
    let tail : xs ≡ ys ++ rest = cc in
    let head : x ≡ y = cc in
    (record { front = ys; rest = rest; parts = tail; high = high.1; utf8 = utf8 }, λ small. absurd (omega (arith, head, high.0)))

middle_tail : (x : ℕ) (xs : List ℕ) → Middle (x ∷ xs) → Middle xs × (x < 128 → IsUtf8 xs)
middle_tail x xs m = middle_of x xs m.front m.rest m.parts m.high m.utf8

string_is : (xs : List ℕ) → IsUtf8 xs → (found : Option (List ℕ)) → content plain xs ≡ found → IsTokenUtf8 (string_token found)
string_is xs utf8 None is = tt
string_is xs utf8 (Some s) is = string_utf8 xs s utf8 is

literal_utf8 : (name : List ℕ) (one : Token) (text : List ℕ) → IsTokenUtf8 one → IsTokenUtf8 (literal name one text)
literal_utf8 name one text so = cond_both _ one t.bad IsTokenUtf8 (λ is. so) (λ is. tt)

number_utf8 : (text : List ℕ) (found : Option (List ℕ)) → IsTokenUtf8 (number_before text found)
number_utf8 text None = tt
number_utf8 text (Some rest) = cond_both _ (t.number _) t.bad IsTokenUtf8 (λ is. tt) (λ is. tt)

word_by : (a b c : Bool) (x y z w : Token) → IsTokenUtf8 x → IsTokenUtf8 y → IsTokenUtf8 z → IsTokenUtf8 w → IsTokenUtf8 (cond a x (cond b y (cond c z w)))
word_by true b c x y z w px py pz pw = px
word_by false true c x y z w px py pz pw = py
word_by false false true x y z w px py pz pw = pz
word_by false false false x y z w px py pz pw = pw

word_utf8 : (text : List ℕ) → IsTokenUtf8 (word text)
unfolding word
word_utf8 text = word_by (head text == 116) (head text == 102) (head text == 110) (literal true_text (t.boolean true) text) (literal false_text (t.boolean false) text) (literal null_text t.null text) (number_before text (after_number text))
    (literal_utf8 true_text (t.boolean true) text tt) (literal_utf8 false_text (t.boolean false) text tt) (literal_utf8 null_text t.null text tt) (number_utf8 text (after_number text))

operator_by : (a b c d e : Bool) → IsLexemeUtf8 (cond a (token t.begin_object) (cond b (token t.end_object) (cond c (token t.begin_array) (cond d (token t.end_array) (cond e comma colon)))))
operator_by true b c d e = tt
operator_by false true c d e = tt
operator_by false false true d e = tt
operator_by false false false true e = tt
operator_by false false false false true = tt
operator_by false false false false false = tt

operator_utf8 : (x : ℕ) → IsLexemeUtf8 (operator_lexeme x)
operator_utf8 x = operator_by (x == 123) (x == 125) (x == 91) (x == 93) (x == 44)

quote_by : (q b o s : Bool) → cond q quote (cond b backslash (cond o operator (cond s space other))) ≡ quote → q ≡ true
quote_by true b o s is = refl
quote_by false true o s is = absurd (cc)
quote_by false false true s is = absurd (cc)
quote_by false false false true is = absurd (cc)
quote_by false false false false is = absurd (cc)

quote_is : (x : ℕ) → class x ≡ quote → x < 128
quote_is x is = let same = eqb-true x 34 (quote_by (x == 34) _ _ _ is) in omega (arith, same)

one_lexed : (mode : Mode) (kind : Class) (x : ℕ) (xs : List ℕ) → class x ≡ kind → (x < 128 → IsUtf8 xs) → ((next : Mode) → AreLexemes (lex next xs)) → AreLexemes (lex_byte mode kind x xs (λ next. lex next xs))
one_lexed between quote x xs is behind rest = (string_is xs (behind (quote_is x is)) (content plain xs) refl, rest in_string)
one_lexed between backslash x xs is behind rest = (tt, rest in_word)
one_lexed between operator x xs is behind rest = (operator_utf8 x, rest between)
one_lexed between space x xs is behind rest = rest between
one_lexed between other x xs is behind rest = (word_utf8 (x ∷ xs), rest in_word)
one_lexed in_word quote x xs is behind rest = rest in_word
one_lexed in_word backslash x xs is behind rest = rest in_word
one_lexed in_word operator x xs is behind rest = (operator_utf8 x, rest between)
one_lexed in_word space x xs is behind rest = rest between
one_lexed in_word other x xs is behind rest = rest in_word
one_lexed in_string quote x xs is behind rest = rest between
one_lexed in_string backslash x xs is behind rest = rest in_escape
one_lexed in_string operator x xs is behind rest = rest in_string
one_lexed in_string space x xs is behind rest = rest in_string
one_lexed in_string other x xs is behind rest = rest in_string
one_lexed in_escape kind x xs is behind rest = rest in_string

lexed : (mode : Mode) (xs : List ℕ) → Middle xs → AreLexemes (lex mode xs)
unfolding lex
lexed mode [] middle = tt
lexed mode (x ∷ xs) middle = let m = middle_tail x xs middle in one_lexed mode (class x) x xs refl m.1 (λ next. lexed next xs m.0)

allowed : (may : Bool) (one : Token) (k : Place → List Token) (next : Place) → IsTokenUtf8 one → ((p : Place) → AreTokens (k p)) → AreTokens (if_allowed may one k next)
allowed true one k next so rest = (so, rest next)
allowed false one k next so rest = (tt, tt)

placed : (p : Place) (one : Token) (before_colon : Bool) (k : Place → List Token) → IsTokenUtf8 one → ((q : Place) → AreTokens (k q)) → AreTokens (place_token p one before_colon k)
placed p t.begin_object before_colon k so rest = allowed (may_begin p) t.begin_object k fresh tt rest
placed p t.end_object before_colon k so rest = allowed (may_close p) t.end_object k after_value tt rest
placed p t.begin_array before_colon k so rest = allowed (may_begin p) t.begin_array k fresh tt rest
placed p t.end_array before_colon k so rest = allowed (may_close p) t.end_array k after_value tt rest
placed p (t.key s) before_colon k so rest = (tt, tt)
placed p (t.string s) true k so rest = allowed (may_begin p) (t.key s) k after_key so rest
placed p (t.string s) false k so rest = allowed (may_begin p) (t.string s) k after_value so rest
placed p (t.number s) before_colon k so rest = allowed (may_begin p) (t.number s) k after_value tt rest
placed p (t.boolean b) before_colon k so rest = allowed (may_begin p) (t.boolean b) k after_value tt rest
placed p t.null before_colon k so rest = allowed (may_begin p) t.null k after_value tt rest
placed p t.bad before_colon k so rest = (tt, tt)

punctuated : (p : Place) (lexemes : List Lexeme) → AreLexemes lexemes → AreTokens (punctuate p lexemes)
unfolding punctuate
punctuated fresh [] so = tt
punctuated after_value [] so = tt
punctuated after_comma [] so = (tt, tt)
punctuated after_key [] so = (tt, tt)
punctuated fresh (token one ∷ more) so = placed fresh one (begins_colon more) _ so.0 (λ next. punctuated next more so.1)
punctuated after_value (token one ∷ more) so = placed after_value one (begins_colon more) _ so.0 (λ next. punctuated next more so.1)
punctuated after_comma (token one ∷ more) so = placed after_comma one (begins_colon more) _ so.0 (λ next. punctuated next more so.1)
punctuated after_key (token one ∷ more) so = placed after_key one (begins_colon more) _ so.0 (λ next. punctuated next more so.1)
punctuated fresh (comma ∷ more) so = (tt, tt)
punctuated after_value (comma ∷ more) so = punctuated after_comma more so.1
punctuated after_comma (comma ∷ more) so = (tt, tt)
punctuated after_key (comma ∷ more) so = (tt, tt)
punctuated fresh (colon ∷ more) so = (tt, tt)
punctuated after_value (colon ∷ more) so = (tt, tt)
punctuated after_comma (colon ∷ more) so = (tt, tt)
punctuated after_key (colon ∷ more) so = punctuated fresh more so.1

tokens_utf8 : (text : List ℕ) → IsUtf8 text → AreTokens (tokens text)
tokens_utf8 text utf8 = punctuated fresh (lex between text) (lexed between text (record { front = []; rest = text; parts = refl; high = tt; utf8 = utf8 }))

-- ---- values of the grammar

abbrev mutual
  IsJson : Json → Type 0
  IsJson json.null = ⊤
  IsJson (json.boolean b) = ⊤
  IsJson (json.number s) = ⊤
  IsJson (json.string s) = IsUtf8 s
  IsJson (json.array more) = AreItems more
  IsJson (json.object more) = AreMembers more

  AreItems : Items → Type 0
  AreItems json.no_items = ⊤
  AreItems (json.item one more) = IsJson one × AreItems more

  AreMembers : Members → Type 0
  AreMembers json.no_members = ⊤
  AreMembers (json.member name one more) = IsJson one × AreMembers more

-- a parser of what is in UTF-8 gives what is in UTF-8
Gives : {A : Type 0} → (A → Type 0) → Parse A → Type 0
Gives {A} IsIt parse = (ts : List Token) (a : A) (rest : List Token) → AreTokens ts → parse ts ≡ Some (a, rest) → IsIt a × AreTokens rest

mapped : {A B : Type 0} (f : A → B) (reading : Option (A × List Token)) (b : B) (rest : List Token) → parse_map f reading ≡ Some (b, rest) → (a : A) × (reading ≡ Some (a, rest)) × (f a ≡ b)
mapped f None b rest is = absurd (none-some (b, rest) is)
mapped f (Some pair) b rest is = let p = some_pair_parts (f pair.0) b pair.1 rest is in (pair.0, ap (λ r. Some (pair.0, r)) p.1, p.0)

bound : {A B : Type 0} (f : A → Option B) (o : Option A) (b : B) → option_and_then f o ≡ Some b → (a : A) × (o ≡ Some a) × (f a ≡ Some b)
bound f None b is = absurd (none-some b is)
bound f (Some a) b is = (a, refl, is)

after_end : (ts rest : List Token) → AreTokens ts → after_end_array ts ≡ Some rest → AreTokens rest
after_end [] rest so is = absurd (none-some rest is)
after_end (t.begin_object ∷ ts) rest so is = absurd (none-some rest is)
after_end (t.end_object ∷ ts) rest so is = absurd (none-some rest is)
after_end (t.begin_array ∷ ts) rest so is = absurd (none-some rest is)
after_end (t.end_array ∷ ts) rest so is = subst AreTokens (same_Some ts rest is) so.1
after_end (t.key s ∷ ts) rest so is = absurd (none-some rest is)
after_end (t.string s ∷ ts) rest so is = absurd (none-some rest is)
after_end (t.number s ∷ ts) rest so is = absurd (none-some rest is)
after_end (t.boolean b ∷ ts) rest so is = absurd (none-some rest is)
after_end (t.null ∷ ts) rest so is = absurd (none-some rest is)
after_end (t.bad ∷ ts) rest so is = absurd (none-some rest is)

key_read : (ts : List Token) (found : Option (List ℕ)) (rest : List Token) → AreTokens ts → read_key ts ≡ Some (found, rest) → AreTokens rest
key_read [] found rest so is = absurd (none-some (found, rest) is)
key_read (t.begin_object ∷ ts) found rest so is = absurd (none-some (found, rest) is)
key_read (t.end_object ∷ ts) found rest so is = subst AreTokens (some_pair_parts None found ts rest is).1 so.1
key_read (t.begin_array ∷ ts) found rest so is = absurd (none-some (found, rest) is)
key_read (t.end_array ∷ ts) found rest so is = absurd (none-some (found, rest) is)
key_read (t.key s ∷ ts) found rest so is = subst AreTokens (some_pair_parts (Some s) found ts rest is).1 so.1
key_read (t.string s ∷ ts) found rest so is = absurd (none-some (found, rest) is)
key_read (t.number s ∷ ts) found rest so is = absurd (none-some (found, rest) is)
key_read (t.boolean b ∷ ts) found rest so is = absurd (none-some (found, rest) is)
key_read (t.null ∷ ts) found rest so is = absurd (none-some (found, rest) is)
key_read (t.bad ∷ ts) found rest so is = absurd (none-some (found, rest) is)

module _ (one : Parse Json) (each : Gives IsJson one) where
  item_step : (more : Parse Items) → Gives AreItems more → (ts : List Token) (found : Option (List Token)) → after_end_array ts ≡ found → (js : Items) (rest : List Token) → AreTokens ts
      → items_step one more ts found ≡ Some (js, rest) → AreItems js × AreTokens rest
  unfolding Gives
  item_step more others ts (Some after) ended js rest so is = let p = some_pair_parts json.no_items js after rest is in (subst AreItems p.0 tt, subst AreTokens p.1 (after_end ts after so ended))
  item_step more others ts None ended js rest so is =
      let first = bound _ (one ts) (js, rest) is in
      let f = each ts first.0.0 first.0.1 so first.1 in
      let m = mapped (json.item first.0.0) (more first.0.1) js rest first.2 in
      let o = others first.0.1 m.0 rest f.1 m.1 in
      (subst AreItems m.2 (f.0, o.0), o.1)

  items_give : (n : ℕ) → Gives AreItems (items one n)
  unfolding Gives items
  items_give zero ts js rest so is = absurd (none-some (js, rest) is)
  items_give (suc n) ts js rest so is = item_step (items one n) (items_give n) ts (after_end_array ts) refl js rest so is

  member_step : (more : Parse Members) → Gives AreMembers more → (ts : List Token) (found : Option (List ℕ)) (ms : Members) (rest : List Token) → AreTokens ts
      → members_step one more found ts ≡ Some (ms, rest) → AreMembers ms × AreTokens rest
  unfolding Gives
  member_step more others ts None ms rest so is = let p = some_pair_parts json.no_members ms ts rest is in (subst AreMembers p.0 tt, subst AreTokens p.1 so)
  member_step more others ts (Some name) ms rest so is =
      let first = bound _ (one ts) (ms, rest) is in
      let f = each ts first.0.0 first.0.1 so first.1 in
      let m = mapped (json.member name first.0.0) (more first.0.1) ms rest first.2 in
      let o = others first.0.1 m.0 rest f.1 m.1 in
      (subst AreMembers m.2 (f.0, o.0), o.1)

  members_give : (n : ℕ) → Gives AreMembers (members one n)
  unfolding Gives members
  members_give zero ts ms rest so is = absurd (none-some (ms, rest) is)
  members_give (suc n) ts ms rest so is = let k = bound _ (read_key ts) (ms, rest) is in
      member_step (members one n) (members_give n) k.0.1 k.0.0 ms rest (key_read ts k.0.0 k.0.1 so k.1) k.2

value_gives : (a : Parse Items) (o : Parse Members) → Gives AreItems a → Gives AreMembers o → Gives IsJson (value_with a o)
unfolding Gives
value_gives a o each_item each_member [] j rest so is = absurd (none-some (j, rest) is)
value_gives a o each_item each_member (t.begin_object ∷ ts) j rest so is = let m = mapped json.object (o ts) j rest is in let g = each_member ts m.0 rest so.1 m.1 in (subst IsJson m.2 g.0, g.1)
value_gives a o each_item each_member (t.end_object ∷ ts) j rest so is = absurd (none-some (j, rest) is)
value_gives a o each_item each_member (t.begin_array ∷ ts) j rest so is = let m = mapped json.array (a ts) j rest is in let g = each_item ts m.0 rest so.1 m.1 in (subst IsJson m.2 g.0, g.1)
value_gives a o each_item each_member (t.end_array ∷ ts) j rest so is = absurd (none-some (j, rest) is)
value_gives a o each_item each_member (t.key s ∷ ts) j rest so is = absurd (none-some (j, rest) is)
value_gives a o each_item each_member (t.string s ∷ ts) j rest so is = let p = some_pair_parts (json.string s) j ts rest is in (subst IsJson p.0 so.0, subst AreTokens p.1 so.1)
value_gives a o each_item each_member (t.number s ∷ ts) j rest so is = let p = some_pair_parts (json.number s) j ts rest is in (subst IsJson p.0 tt, subst AreTokens p.1 so.1)
value_gives a o each_item each_member (t.boolean b ∷ ts) j rest so is = let p = some_pair_parts (json.boolean b) j ts rest is in (subst IsJson p.0 tt, subst AreTokens p.1 so.1)
value_gives a o each_item each_member (t.null ∷ ts) j rest so is = let p = some_pair_parts json.null j ts rest is in (subst IsJson p.0 tt, subst AreTokens p.1 so.1)
value_gives a o each_item each_member (t.bad ∷ ts) j rest so is = absurd (none-some (j, rest) is)

values_give : (depth : ℕ) → Gives IsJson (value depth)
unfolding Gives value items members
values_give zero = value_gives (λ ts. None) (λ ts. None) (λ ts js rest so is. absurd (none-some (js, rest) is)) (λ ts ms rest so is. absurd (none-some (ms, rest) is))
values_give (suc depth) = value_gives (λ ts. items (value depth) (length ts) ts) (λ ts. members (value depth) (length ts) ts)
    (λ ts js rest so is. items_give (value depth) (values_give depth) (length ts) ts js rest so is)
    (λ ts ms rest so is. members_give (value depth) (values_give depth) (length ts) ts ms rest so is)

-- ---- values as they are kept

by_order : (order : Ordering) (name beside : List ℕ) (one here : Data) (later put_later : held.Members) → IsInUtf8 one → IsInUtf8 here → HaveUtf8 later → HaveUtf8 put_later
    → HaveUtf8 (match_ordering order (held.member name one (held.member beside here later)) (held.member beside one later) (held.member beside here put_later))
by_order Less name beside one here later put_later new old rest put_rest = (new, (old, rest))
by_order Equal name beside one here later put_later new old rest put_rest = (new, rest)
by_order Greater name beside one here later put_later new old rest put_rest = (old, put_rest)

put_utf8 : (name : List ℕ) (one : Data) (found : held.Members) → IsInUtf8 one → HaveUtf8 found → HaveUtf8 (put name one found)
put_utf8 name one held.no_members new rest = (new, tt)
put_utf8 name one (held.member beside here later) new rest = by_order (slice_cmp nat_cmp name beside) name beside one here later (put name one later) new rest.0 rest.1 (put_utf8 name one later new rest.1)

made : {A B : Type 0} (f : A → B) (o : Option A) (b : B) → option_map f o ≡ Some b → (a : A) × (o ≡ Some a) × (f a ≡ b)
made f None b is = absurd (none-some b is)
made f (Some a) b is = (a, refl, same_Some (f a) b is)

mutual
  kept_utf8 : (j : Json) (d : Data) → IsJson j → of_json j ≡ Some d → IsInUtf8 d
  kept_utf8 json.null d so is = subst IsInUtf8 (same_Some held.null d is) tt
  kept_utf8 (json.boolean b) d so is = subst IsInUtf8 (same_Some (held.boolean b) d is) tt
  kept_utf8 (json.number s) d so is = let m = made held.number (number_of s) d is in subst IsInUtf8 m.2 tt
  kept_utf8 (json.string s) d so is = subst IsInUtf8 (same_Some (held.string s) d is) so
  kept_utf8 (json.array js) d so is = let m = made held.array (of_items js) d is in subst IsInUtf8 m.2 (items_kept js m.0 so m.1)
  kept_utf8 (json.object ms) d so is = let m = made held.object (of_members ms held.no_members) d is in subst IsInUtf8 m.2 (members_kept ms held.no_members m.0 so tt m.1)

  items_kept : (js : Items) (ds : held.Items) → AreItems js → of_items js ≡ Some ds → AreInUtf8 ds
  items_kept json.no_items ds so is = subst AreInUtf8 (same_Some held.no_items ds is) tt
  items_kept (json.item j js) ds so is =
      let first = bound _ (of_json j) ds is in
      let m = made (held.item first.0) (of_items js) ds first.2 in
      subst AreInUtf8 m.2 (kept_utf8 j first.0 so.0 first.1, items_kept js m.0 so.1 m.1)

  members_kept : (ms : Members) (found ds : held.Members) → AreMembers ms → HaveUtf8 found → of_members ms found ≡ Some ds → HaveUtf8 ds
  members_kept json.no_members found ds so before is = subst HaveUtf8 (same_Some found ds is) before
  members_kept (json.member name j ms) found ds so before is =
      let first = bound _ (of_json j) ds is in
      members_kept ms (put name first.0 found) ds so.1 (put_utf8 name first.0 found (kept_utf8 j first.0 so.0 first.1) before) first.2

last_alone : (j : Json) (rest : List Token) (whole : Json) → if_last j rest ≡ Some whole → j ≡ whole
last_alone j [] whole is = same_Some j whole is
last_alone j (one ∷ rest) whole is = absurd (none-some whole is)

guarded : {A : Type 0} (b : Bool) (o : Option A) (a : A) → cond b o None ≡ Some a → (b ≡ true) × (o ≡ Some a)
guarded true o a is = (refl, is)
guarded false o a is = absurd (none-some a is)

pub json_utf8 : (text : List ℕ) (d : Data) → json_of text ≡ Some d → IsInUtf8 d
unfolding json_of Gives
json_utf8 text d is =
    let g = guarded (is_utf8 text) (read text) d is in
    let whole = bound of_json _ d g.1 in
    let parsed = bound _ (value 127 (tokens text)) whole.0 whole.1 in
    let gives = values_give 127 (tokens text) parsed.0.0 parsed.0.1 (tokens_utf8 text (IsUtf8-from_is_utf8 text g.0)) parsed.1 in
    kept_utf8 whole.0 d (subst IsJson (last_alone parsed.0.0 parsed.0.1 whole.0 parsed.2) gives.0) whole.2
