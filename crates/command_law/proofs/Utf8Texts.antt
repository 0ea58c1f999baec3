-- The texts of a JSON text in UTF-8 are in UTF-8.
use Rattle.std.proofs.Common.{◌≡◌, ℕ, zero, suc, ◌<◌, ◌≤◌, Bool, true, false, cond, ◌==◌, nat_lt, List, [], ◌∷◌, ◌++◌, length, Option, Some, None, option_and_then, IsUtf8, refl, sym, ap, ◌∙◌, subst, inl, inr, arith, length-append}
use Rattle.std.specs.Prelude.{◌⊎◌, ⊤}
use Rattle.std.specs.Char.{digit_value, is_digit, encode_utf8}
use Rattle.std.proofs.lemmas.Bool.{and_parts, cases_lt, cases_Bool, cond-true, cond-false, ltb-true, le-ltb, ne_eqb, eqb-true}
use Rattle.std.proofs.lemmas.Bool.Decides.{nat_tests}
use Rattle.std.proofs.lemmas.Option.{none-some, same_Some}
use Rattle.std.proofs.lemmas.Str.{IsUtf8-append, IsUtf8-nil, IsUtf8-encode, encode_ascii}
use lib.Utf8.{scalar, scalars, encode, encodes, low_scalar}
use Rattle.json.specs.Text.{code_unit, short_escape, is_high_surrogate, is_low_surrogate, surrogate_pair, plain, after_backslash, after_u, after_high, prepend, content}

-- ---- what stands at the front of bytes in UTF-8

abbrev pub IsHigh : List ℕ → Type 0
IsHigh [] = ⊤
IsHigh (x ∷ xs) = (128 ≤ x) × IsHigh xs

-- the first byte is ASCII, or the first of the high bytes of a character
abbrev pub Front : ℕ → List ℕ → Type 0
Front x xs = ((x < 128) × IsUtf8 xs) ⊎ ((front : List ℕ) × (rest : List ℕ) × (xs ≡ front ++ rest) × (128 ≤ x) × IsHigh front × IsUtf8 rest × IsUtf8 (x ∷ front))

-- the bytes of a character that is not ASCII
high_bytes : (c : ℕ) → 128 ≤ c → (x : ℕ) × (front : List ℕ) × (encode c ≡ x ∷ front) × (128 ≤ x) × IsHigh front
unfolding encode
high_bytes c big = rw (le-ltb c 128 big) (elim (cases_Bool (nat_lt c 2048)) [
  | inl two ↦ (_, _, cond-true _ _ _ two, omega arith, (omega arith, tt))
  | inr more ↦ elim (cases_Bool (nat_lt c 65536)) [
    | inl three ↦ (_, _, cond-false _ _ _ more ∙ cond-true _ _ _ three, omega arith, (omega arith, (omega arith, tt)))
    | inr four ↦ (_, _, cond-false _ _ _ more ∙ cond-false _ _ _ four, omega arith, (omega arith, (omega arith, (omega arith, tt))))
  ]
])

same_head : (x y : ℕ) (xs ys : List ℕ) → x ∷ xs ≡ y ∷ ys → (x ≡ y) × (xs ≡ ys)
same_head x y xs ys is = (cc, cc)

peel_chars : (cs : List ℕ) (x : ℕ) (xs : List ℕ) → scalars cs ≡ true → encodes cs ≡ x ∷ xs → Front x xs
peel_chars [] x xs ok is = absurd (cc)
peel_chars (c ∷ cs) x xs ok is = let p = and_parts (scalar c) (scalars cs) ok in elim (cases_lt c 128) [
  | inl small ↦
      let h = same_head c x (encodes cs) xs (sym (ap (λ l. l ++ encodes cs) (encode_ascii c small)) ∙ is) in
      inl (subst (λ y. y < 128) h.0 small, (cs, (p.1, h.1)))
  | inr big ↦
      let b = high_bytes c big in
      let h = same_head b.0 x (b.1 ++ encodes cs) xs (sym (ap (λ l. l ++ encodes cs) b.2) ∙ is) in
      inr (b.1, encodes cs, sym h.1, subst (λ y. 128 ≤ y) h.0 b.3, b.4, (cs, (p.1, refl)), subst (λ y. IsUtf8 (y ∷ b.1)) h.0 (subst IsUtf8 b.2 (IsUtf8-encode c p.0)))
]

pub peel : (x : ℕ) (xs : List ℕ) → IsUtf8 (x ∷ xs) → Front x xs
peel x xs utf8 = peel_chars utf8.0 x xs utf8.1.0 utf8.1.1

pub past_ascii : (x : ℕ) (xs : List ℕ) → x < 128 → IsUtf8 (x ∷ xs) → IsUtf8 xs
past_ascii x xs small utf8 = elim (peel x xs utf8) [ inl one ↦ one.1 | inr more ↦ absurd (omega (arith, more.3)) ]

pub ascii_then : (x : ℕ) (xs : List ℕ) → x < 128 → IsUtf8 xs → IsUtf8 (x ∷ xs)
ascii_then x xs small utf8 = IsUtf8-append (x ∷ []) xs (subst IsUtf8 (encode_ascii x small) (IsUtf8-encode x (low_scalar x (omega arith)))) utf8

-- ---- the content of a string

prepended : (bytes : List ℕ) (reading : Option (List ℕ)) (s : List ℕ) → prepend bytes reading ≡ Some s → (t : List ℕ) × (reading ≡ Some t) × (bytes ++ t ≡ s)
prepended bytes None s is = absurd (none-some s is)
prepended bytes (Some t) s is = (t, refl, same_Some (bytes ++ t) s is)

bound : {A B : Type 0} (f : A → Option B) (o : Option A) (b : B) → option_and_then f o ≡ Some b → (a : A) × (o ≡ Some a) × (f a ≡ Some b)
bound f None b is = absurd (none-some b is)
bound f (Some a) b is = (a, refl, is)

if_true : {A : Type 0} (t : Bool) (o : Option A) (a : A) → cond t o None ≡ Some a → (t ≡ true) × (o ≡ Some a)
if_true true o a is = (refl, is)
if_true false o a is = absurd (none-some a is)

if_false : {A : Type 0} (t : Bool) (o : Option A) (a : A) → cond t None o ≡ Some a → (t ≡ false) × (o ≡ Some a)
if_false true o a is = absurd (none-some a is)
if_false false o a is = (refl, is)

hex_ascii : (c : ℕ) → is_digit c 16 ≡ true → (c < 128) × (digit_value c < 16)
hex_ascii c is = (elim (cases_lt c 128) [ inl small ↦ small | inr big ↦ absurd (omega (arith, ltb-true (digit_value c) 16 is, far c big)) ], ltb-true (digit_value c) 16 is)
  where
    far : (c : ℕ) → 128 ≤ c → digit_value c ≡ 36
    far c big = rw (le-ltb c 48 (omega arith), le-ltb c 58 (omega arith), le-ltb c 65 (omega arith), le-ltb c 91 (omega arith), le-ltb c 97 (omega arith), le-ltb c 123 (omega arith)) refl

record Hex (a b c d u : ℕ) : Type 0 where
  first : a < 128
  second : b < 128
  third : c < 128
  fourth : d < 128
  small : u < 65536

hex_unit : (a b c d u : ℕ) → code_unit a b c d ≡ Some u → Hex a b c d u
unfolding code_unit
hex_unit a b c d u is =
    let g = if_true _ _ u is in
    let p = and_parts _ _ g.0 in
    let q = and_parts _ _ p.0 in
    let r = and_parts _ _ q.0 in
    let ha = hex_ascii a r.0 in let hb = hex_ascii b r.1 in let hc = hex_ascii c q.1 in let hd = hex_ascii d p.1 in
    let value = same_Some _ u g.1 in
    record { first = ha.0; second = hb.0; third = hc.0; fourth = hd.0; small = omega (arith, ha.1, hb.1, hc.1, hd.1, value) }

short_ascii : (x c : ℕ) → short_escape x ≡ Some c → (x < 128) × (c < 128)
unfolding short_escape
short_ascii x c is = elim (cases_lt x 128) [
  | inl small ↦ (small, elim (cases_lt c 128) [ inl low ↦ low | inr high ↦ grind (arith, nat_tests) ])
  | inr big ↦ absurd (none-some c (sym (rw (
    ne_eqb x 34 (λ e. omega arith),
    ne_eqb x 92 (λ e. omega arith),
    ne_eqb x 47 (λ e. omega arith),
    ne_eqb x 98 (λ e. omega arith),
    ne_eqb x 102 (λ e. omega arith),
    ne_eqb x 110 (λ e. omega arith),
    ne_eqb x 114 (λ e. omega arith),
    ne_eqb x 116 (λ e. omega arith),
  ) refl) ∙ is))
]

scalar_from : (u : ℕ) → is_high_surrogate u ≡ false → is_low_surrogate u ≡ false → u < 65536 → scalar u ≡ true
scalar_from u high low small = grind (arith, nat_tests)

pair_scalar : (h l : ℕ) → is_high_surrogate h ≡ true → is_low_surrogate l ≡ true → scalar (surrogate_pair h l) ≡ true
pair_scalar h l high low = grind (arith, nat_tests)

-- what is read of content of at most n bytes is in UTF-8
IsRead : ℕ → Type 0
IsRead n = (xs s : List ℕ) → length xs ≤ n → IsUtf8 xs → content plain xs ≡ Some s → IsUtf8 s

of_pair : (n : ℕ) → IsRead n → (h : ℕ) → is_high_surrogate h ≡ true → (xs s : List ℕ) → length xs ≤ n → IsUtf8 xs → content (after_high h) xs ≡ Some s → IsUtf8 s
unfolding content IsRead
of_pair n next h high [] s few utf8 is = absurd (none-some s is)
of_pair n next h high (s' ∷ []) s few utf8 is = absurd (none-some s is)
of_pair n next h high (s' ∷ u ∷ []) s few utf8 is = absurd (none-some s is)
of_pair n next h high (s' ∷ u ∷ a ∷ []) s few utf8 is = absurd (none-some s is)
of_pair n next h high (s' ∷ u ∷ a ∷ b ∷ []) s few utf8 is = absurd (none-some s is)
of_pair n next h high (s' ∷ u ∷ a ∷ b ∷ c ∷ []) s few utf8 is = absurd (none-some s is)
of_pair n next h high (s' ∷ u ∷ a ∷ b ∷ c ∷ d ∷ xs) s few utf8 is =
    let g = if_true _ _ s is in
    let begins = and_parts _ _ g.0 in
    let s_is = eqb-true s' 92 begins.0 in
    let u_is = eqb-true u 117 begins.1 in
    let low = bound _ (code_unit a b c d) s g.1 in
    let hex = hex_unit a b c d low.0 low.1 in
    let more = if_true (is_low_surrogate low.0) _ s low.2 in
    let rest = prepended (encode_utf8 (surrogate_pair h low.0)) (content plain xs) s more.1 in
    let left : IsUtf8 xs = past_ascii d xs hex.fourth (past_ascii c _ hex.third (past_ascii b _ hex.second (past_ascii a _ hex.first (past_ascii u _ (omega (arith, u_is)) (past_ascii s' _ (omega (arith, s_is)) utf8))))) in
    subst IsUtf8 rest.2 (IsUtf8-append (encode_utf8 (surrogate_pair h low.0)) rest.0 (IsUtf8-encode (surrogate_pair h low.0) (pair_scalar h low.0 high more.0)) (next xs rest.0 (omega (arith, few)) left rest.1))

of_unit : (n : ℕ) → IsRead n → (xs s : List ℕ) → length xs ≤ n → IsUtf8 xs → content after_u xs ≡ Some s → IsUtf8 s
unfolding content IsRead
of_unit n next [] s few utf8 is = absurd (none-some s is)
of_unit n next (a ∷ []) s few utf8 is = absurd (none-some s is)
of_unit n next (a ∷ b ∷ []) s few utf8 is = absurd (none-some s is)
of_unit n next (a ∷ b ∷ c ∷ []) s few utf8 is = absurd (none-some s is)
of_unit n next (a ∷ b ∷ c ∷ d ∷ xs) s few utf8 is =
    let unit = bound _ (code_unit a b c d) s is in
    let hex = hex_unit a b c d unit.0 unit.1 in
    let left : IsUtf8 xs = past_ascii d xs hex.fourth (past_ascii c _ hex.third (past_ascii b _ hex.second (past_ascii a _ hex.first utf8))) in
    elim (cases_Bool (is_high_surrogate unit.0)) [
      | inl high ↦ of_pair n next unit.0 high xs s (omega (arith, few)) left (sym (cond-true _ _ _ high) ∙ unit.2)
      | inr no_high ↦
          let low = if_false (is_low_surrogate unit.0) _ s (sym (cond-false _ _ _ no_high) ∙ unit.2) in
          let rest = prepended (encode_utf8 unit.0) (content plain xs) s low.1 in
          subst IsUtf8 rest.2 (IsUtf8-append (encode_utf8 unit.0) rest.0 (IsUtf8-encode unit.0 (scalar_from unit.0 no_high low.0 hex.small)) (next xs rest.0 (omega (arith, few)) left rest.1))
    ]

of_escape : (n : ℕ) → IsRead n → (xs s : List ℕ) → length xs ≤ n → IsUtf8 xs → content after_backslash xs ≡ Some s → IsUtf8 s
unfolding content IsRead
of_escape n next [] s few utf8 is = absurd (none-some s is)
of_escape n next (x ∷ xs) s few utf8 is = elim (cases_Bool (x == 117)) [
  | inl unit ↦ let x_is = eqb-true x 117 unit in of_unit n next xs s (omega (arith, few)) (past_ascii x xs (omega (arith, x_is)) utf8) (sym (cond-true _ _ _ unit) ∙ is)
  | inr short ↦
      let escape = bound _ (short_escape x) s (sym (cond-false _ _ _ short) ∙ is) in
      let small = short_ascii x escape.0 escape.1 in
      let rest = prepended (escape.0 ∷ []) (content plain xs) s escape.2 in
      subst IsUtf8 rest.2 (ascii_then escape.0 rest.0 small.1 (next xs rest.0 (omega (arith, few)) (past_ascii x xs small.0 utf8) rest.1))
]

plain_byte : (x : ℕ) (xs : List ℕ) → 128 ≤ x → content plain (x ∷ xs) ≡ prepend (x ∷ []) (content plain xs)
unfolding content
plain_byte x xs big = rw (ne_eqb x 34 (λ is. omega arith), ne_eqb x 92 (λ is. omega arith), le-ltb x 32 (omega arith)) refl

-- bytes of a character stand for themselves
high_content : (front rest s : List ℕ) → IsHigh front → content plain (front ++ rest) ≡ Some s → (t : List ℕ) × (content plain rest ≡ Some t) × (front ++ t ≡ s)
high_content [] rest s high is = (s, is, refl)
high_content (x ∷ front) rest s high is =
    let one = prepended (x ∷ []) (content plain (front ++ rest)) s (sym (plain_byte x (front ++ rest) high.0) ∙ is) in
    let more = high_content front rest one.0 high.1 one.1 in
    (more.0, more.1, ap (λ l. x ∷ l) more.2 ∙ one.2)

of_plain : (n x : ℕ) → IsRead n → (xs s : List ℕ) → length xs ≤ n → x < 128 → IsUtf8 xs → content plain (x ∷ xs) ≡ Some s → IsUtf8 s
unfolding content IsRead
of_plain n x next xs s few small utf8 is = elim (cases_Bool (x == 34)) [
  | inl quote ↦ subst IsUtf8 (same_Some [] s (sym (cond-true _ _ _ quote) ∙ is)) IsUtf8-nil
  | inr no_quote ↦ elim (cases_Bool (x == 92)) [
    | inl backslash ↦ of_escape n next xs s few utf8 (sym (cond-true _ _ _ backslash) ∙ sym (cond-false _ _ _ no_quote) ∙ is)
    | inr no_backslash ↦
        let above = if_false (nat_lt x 32) _ s (sym (cond-false _ _ _ no_backslash) ∙ sym (cond-false _ _ _ no_quote) ∙ is) in
        let rest = prepended (x ∷ []) (content plain xs) s above.1 in
        subst IsUtf8 rest.2 (ascii_then x rest.0 small (next xs rest.0 few utf8 rest.1))
  ]
]

no_content : ◌≡◌ {A = Option (List ℕ)} None (content plain [])
unfolding content
no_content = refl

content_utf8 : (n : ℕ) → IsRead n
unfolding IsRead
content_utf8 n [] s few utf8 is = absurd (none-some s (no_content ∙ is))
content_utf8 zero (x ∷ xs) s few utf8 is = absurd (omega arith)
content_utf8 (suc n) (x ∷ xs) s few utf8 is = elim (peel x xs utf8) [
  | inl one ↦ of_plain n x (content_utf8 n) xs s (omega (arith, few)) one.0 one.1 is
  | inr more ↦
      let first = prepended (x ∷ []) (content plain xs) s (sym (plain_byte x xs more.3) ∙ is) in
      let rest = high_content more.0 more.1 first.0 more.4 (ap (content plain) (sym more.2) ∙ first.1) in
      let fewer : length more.1 ≤ n = omega (arith, few, ap length more.2, length-append more.0 more.1) in
      subst IsUtf8 (ap (λ l. x ∷ l) rest.2 ∙ first.2) (IsUtf8-append (x ∷ more.0) rest.0 more.6 (content_utf8 n more.1 rest.0 fewer more.5 rest.1))
]

pub string_utf8 : (xs s : List ℕ) → IsUtf8 xs → content plain xs ≡ Some s → IsUtf8 s
unfolding IsRead
string_utf8 xs s utf8 is = content_utf8 (length xs) xs s (omega arith) utf8 is
