-- The characters of paths and queries against the walk over their bytes.
use Rattle.std.proofs.Common.{◌≡◌, ℕ, ◌+◌, ◌<◌, ◌≤◌, Bool, true, false, cond, not, List, [], ◌∷◌, ◌++◌, length, get_or, take, drop, refl, ap, sym, subst, ◌∙◌, arith, Option, Some, None, ltb, leb, eqb, ◌==◌, ◌&&◌, ◌||◌, append-nil, length-append, ⊎_elim, inl, inr, ◌⊎◌, lit<}
use Rattle.std.proofs.lemmas.Bool.{cases_Bool, cond-true, cond-false, ltb-true, ltb-false, lt-ltb, le-ltb, leb-true, eqb-true, ne_eqb, and_parts, and_from, and_left, or_cases, both_ways, not_from_false, agree_below, agree_below_at}
use Rattle.std.proofs.Math.Bool.{and_assoc}
use Rattle.std.proofs.Math.Seq.{take-length}
use Rattle.std.proofs.lemmas.List.{take_at, drop_at, drop-drop}
use Rattle.std.proofs.lemmas.List.Sums.{split_at_first, passes_at_first}
use Rattle.std.specs.List.{prefix_len, list_all, concat, position_or_len, before_first, after_first}
use Rattle.std.specs.Option.{option_map}
use Rattle.std.specs.Char.{is_ascii_hexdigit}
use Rattle.std.specs.Int.{is_in_range}
use Rattle.listing.specs.Word.{parts_at}
use Rattle.targets.specs.declared.target.TargetFault.{TargetFault}
use Rattle.targets.specs.Target.{is_plain, is_taken, wrong_byte, first_wrong}
use Rattle.targets.specs.Grammar.{IsCharacter, AreCharacters, IsRow, is_path_byte, is_query_byte}
use Rattle.targets.proofs.EndpointLemmas.{prefix_all, all_of_prefix}

-- hexadecimal digits are ASCII
in_range_small : (low high byte : ℕ) → high < 128 → is_in_range low high byte ≡ true → byte < 128
in_range_small low high byte small h = let p = and_parts (leb low byte) (leb byte high) h in omega (arith, leb-true byte high p.1)

pub hex_small : (byte : ℕ) → is_ascii_hexdigit byte ≡ true → byte < 128
hex_small byte h = elim (or_cases (is_in_range 48 57 byte || is_in_range 65 70 byte) (is_in_range 97 102 byte) h) [
  | inl front ↦ elim (or_cases (is_in_range 48 57 byte) (is_in_range 65 70 byte) front) [ inl a ↦ in_range_small 48 57 byte (lit< tt) a | inr b ↦ in_range_small 65 70 byte (lit< tt) b ]
  | inr c ↦ in_range_small 97 102 byte (lit< tt) c
]

-- one test of small bytes follows from another
pub follows : (p q : ℕ → Bool) → agree_below (λ b. not (p b) || q b) (λ b. true) 128 ≡ true → (byte : ℕ) → byte < 128 → p byte ≡ true → q byte ≡ true
follows p q table byte small h = let e = agree_below_at (λ b. not (p b) || q b) (λ b. true) 128 byte table small in follows_from (p byte) (q byte) h e
  where
    follows_from : (x y : Bool) → x ≡ true → (not x || y) ≡ true → y ≡ true
    follows_from true y h e = e
    follows_from false y h e = absurd (both_ways false refl h)

-- each byte passes, or is a `%` before two hexadecimal digits
two_hex : List ℕ → Bool
two_hex bytes = is_ascii_hexdigit (get_or bytes 0 0) && is_ascii_hexdigit (get_or bytes 1 0)

abbrev passes : (ℕ → Bool) → ℕ → List ℕ → Bool
passes test byte bytes = cond (eqb byte 37) (is_ascii_hexdigit (get_or bytes 0 0) && is_ascii_hexdigit (get_or bytes 1 0)) (test byte)

abbrev pub taken_in : (ℕ → Bool) → List ℕ → Bool
taken_in test [] = true
taken_in test (byte ∷ bytes) = passes test byte bytes && taken_in test bytes

some_none : (fault : TargetFault) → Some fault ≡ None → ⊥
some_none fault h = cc

pub no_wrong : (at : ℕ) (text : List ℕ) → taken_in is_query_byte text ≡ true → first_wrong at text ≡ None
unfolding first_wrong
no_wrong at [] h = refl
no_wrong at (byte ∷ bytes) h =
    let p = and_parts (passes is_query_byte byte bytes) (taken_in is_query_byte bytes) h in
    cond-true (is_taken byte bytes) (first_wrong (at + 1) bytes) (Some (wrong_byte byte at)) p.0 ∙ no_wrong (at + 1) bytes p.1

pub all_taken : (at : ℕ) (text : List ℕ) → first_wrong at text ≡ None → taken_in is_query_byte text ≡ true
unfolding first_wrong
all_taken at [] h = refl
all_taken at (byte ∷ bytes) h =
    ⊎_elim (λ here. and_from (passes is_query_byte byte bytes) (taken_in is_query_byte bytes) here (all_taken (at + 1) bytes (sym (cond-true (is_taken byte bytes) (first_wrong (at + 1) bytes) (Some (wrong_byte byte at)) here) ∙ h)))
    (λ gone. absurd (some_none (wrong_byte byte at) (sym (cond-false (is_taken byte bytes) (first_wrong (at + 1) bytes) (Some (wrong_byte byte at)) gone) ∙ h))) (cases_Bool (is_taken byte bytes))

module _ (test : ℕ → Bool) (no_percent : test 37 ≡ false) (hexes : (byte : ℕ) → is_ascii_hexdigit byte ≡ true → test byte ≡ true) where
  plain_passes : (byte : ℕ) (bytes : List ℕ) → test byte ≡ true → passes test byte bytes ≡ true
  plain_passes byte bytes h = cond-false (eqb byte 37) _ (test byte) (ne_eqb byte 37 (λ e. both_ways (test 37) no_percent (ap test (sym e) ∙ h))) ∙ h

  character_taken : (character rest : List ℕ) → IsCharacter test character → taken_in test rest ≡ true → taken_in test (character ++ rest) ≡ true
  character_taken character rest (inl one) h =
      subst (λ (c : List ℕ). taken_in test (c ++ rest) ≡ true) (sym one.1) (and_from (passes test one.0 rest) (taken_in test rest) (plain_passes one.0 rest one.2) h)
  character_taken character rest (inr three) h =
      let high = three.0 in
      let low = three.1 in
      let low_taken = and_from (passes test low rest) (taken_in test rest) (plain_passes low rest (hexes low three.4)) h in
      let both_taken = and_from (passes test high (low ∷ rest)) (taken_in test (low ∷ rest)) (plain_passes high (low ∷ rest) (hexes high three.3)) low_taken in
      subst (λ (c : List ℕ). taken_in test (c ++ rest) ≡ true) (sym three.2) (and_from (is_ascii_hexdigit high && is_ascii_hexdigit low) (taken_in test (high ∷ low ∷ rest)) (and_from (is_ascii_hexdigit high) (is_ascii_hexdigit low) three.3 three.4) both_taken)

  characters_taken : (characters : List (List ℕ)) → AreCharacters test characters → taken_in test (concat characters) ≡ true
  characters_taken [] are = refl
  characters_taken (character ∷ characters) are = character_taken character (concat characters) are.0 (characters_taken characters are.1)

  pub row_taken : (text : List ℕ) → IsRow test text → taken_in test text ≡ true
  row_taken text row = ap (taken_in test) row.1 ∙ characters_taken row.0 row.2

plain_first : (test : ℕ → Bool) (byte : ℕ) (bytes : List ℕ) → eqb byte 37 ≡ false → passes test byte bytes ≡ true → IsRow test bytes → IsRow test (byte ∷ bytes)
plain_first test byte bytes other h row = ((byte ∷ []) ∷ row.0, ap (λ (xs : List ℕ). byte ∷ xs) row.1, (inl (byte, refl, sym (cond-false (eqb byte 37) _ (test byte) other) ∙ h), row.2))

encoded_first : (test : ℕ → Bool) (byte high low : ℕ) (rest : List ℕ) → eqb byte 37 ≡ true → passes test byte (high ∷ low ∷ rest) ≡ true → IsRow test rest → IsRow test (byte ∷ high ∷ low ∷ rest)
encoded_first test byte high low rest here h row =
    let p = and_parts (is_ascii_hexdigit high) (is_ascii_hexdigit low) (sym (cond-true (eqb byte 37) _ (test byte) here) ∙ h) in
    ((37 ∷ high ∷ low ∷ []) ∷ row.0, rw (eqb-true byte 37 here) (ap (λ (xs : List ℕ). 37 ∷ high ∷ low ∷ xs) row.1), (inr (high, low, refl, p.0, p.1), row.2))

encoded_short : (test : ℕ → Bool) (byte : ℕ) (bytes : List ℕ) → two_hex bytes ≡ false → eqb byte 37 ≡ true → passes test byte bytes ≡ true → ⊥
unfolding two_hex
encoded_short test byte bytes short here h = both_ways _ short (sym (cond-true (eqb byte 37) (two_hex bytes) (test byte) here) ∙ h)

one_hex : (high : ℕ) → two_hex (high ∷ []) ≡ false
unfolding two_hex
one_hex high = and_false (is_ascii_hexdigit high)
  where
    and_false : (x : Bool) → (x && false) ≡ false
    and_false true = refl
    and_false false = refl

no_hex : two_hex [] ≡ false
unfolding two_hex
no_hex = refl

pub taken_row : (test : ℕ → Bool) (text : List ℕ) → taken_in test text ≡ true → IsRow test text
taken_row test [] h = ([], refl, tt)
taken_row test (a ∷ []) h =
    let p = and_parts (passes test a []) true h in
    ⊎_elim (λ here. absurd (encoded_short test a [] no_hex here p.0)) (λ other. plain_first test a [] other p.0 ([], refl, tt)) (cases_Bool (eqb a 37))
taken_row test (a ∷ b ∷ []) h =
    let p = and_parts (passes test a (b ∷ [])) (taken_in test (b ∷ [])) h in
    ⊎_elim (λ here. absurd (encoded_short test a (b ∷ []) (one_hex b) here p.0)) (λ other. plain_first test a (b ∷ []) other p.0 (taken_row test (b ∷ []) p.1)) (cases_Bool (eqb a 37))
taken_row test (a ∷ b ∷ c ∷ rest) h =
    let p = and_parts (passes test a (b ∷ c ∷ rest)) (taken_in test (b ∷ c ∷ rest)) h in
    let q = and_parts (passes test b (c ∷ rest)) (taken_in test (c ∷ rest)) p.1 in
    let r = and_parts (passes test c rest) (taken_in test rest) q.1 in
    ⊎_elim (λ here. encoded_first test a b c rest here p.0 (taken_row test rest r.1)) (λ other. plain_first test a (b ∷ c ∷ rest) other p.0 (taken_row test (b ∷ c ∷ rest) p.1)) (cases_Bool (eqb a 37))

-- `%` needs the two bytes behind it on its own side of a byte that is no hexadecimal digit
two_hex-append : (bytes rest : List ℕ) → is_ascii_hexdigit (get_or rest 0 0) ≡ false → two_hex (bytes ++ rest) ≡ two_hex bytes
unfolding two_hex
two_hex-append [] rest h = and_left (is_ascii_hexdigit (get_or rest 0 0)) (is_ascii_hexdigit (get_or rest 1 0)) h
two_hex-append (a ∷ []) rest h = ap (λ (x : Bool). is_ascii_hexdigit a && x) h
two_hex-append (a ∷ b ∷ bytes) rest h = refl

passes-append : (test : ℕ → Bool) (byte : ℕ) (bytes rest : List ℕ) → is_ascii_hexdigit (get_or rest 0 0) ≡ false → passes test byte (bytes ++ rest) ≡ passes test byte bytes
unfolding two_hex
passes-append test byte bytes rest h = ap (λ (x : Bool). cond (eqb byte 37) x (test byte)) (two_hex-append bytes rest h)

pub taken-append : (test : ℕ → Bool) (front rest : List ℕ) → is_ascii_hexdigit (get_or rest 0 0) ≡ false → taken_in test (front ++ rest) ≡ (taken_in test front && taken_in test rest)
taken-append test [] rest h = refl
taken-append test (byte ∷ bytes) rest h =
    ap (λ (x : Bool). x && taken_in test (bytes ++ rest)) (passes-append test byte bytes rest h) ∙ ap (λ (x : Bool). passes test byte bytes && x) (taken-append test bytes rest h) ∙ sym (and_assoc (passes test byte bytes) (taken_in test bytes) (taken_in test rest))

-- a path is a query without `?`
abbrev pub no_mark : ℕ → Bool
no_mark byte = not (eqb byte 63)

or_false : (x y z : Bool) → z ≡ false → (x || y || z) ≡ (x || y)
or_false x y true h = absurd (both_ways true h refl)
or_false true y false h = refl
or_false false true false h = refl
or_false false false false h = refl

same_bytes : (byte : ℕ) → no_mark byte ≡ true → is_query_byte byte ≡ is_path_byte byte
same_bytes byte h = or_false (is_plain byte) (byte == 47) (byte == 63) (not_true (eqb byte 63) h)
  where
    not_true : (x : Bool) → not x ≡ true → x ≡ false
    not_true true h = absurd (both_ways false refl h)
    not_true false h = refl

pub path_is_query : (front : List ℕ) → list_all no_mark front ≡ true → taken_in is_query_byte front ≡ taken_in is_path_byte front
path_is_query [] h = refl
path_is_query (byte ∷ bytes) h =
    let p = and_parts (no_mark byte) (list_all no_mark bytes) h in
    ap (λ (x : Bool). cond (eqb byte 37) (is_ascii_hexdigit (get_or bytes 0 0) && is_ascii_hexdigit (get_or bytes 1 0)) x && taken_in is_query_byte bytes) (same_bytes byte p.0) ∙ ap (λ (x : Bool). passes is_path_byte byte bytes && x) (path_is_query bytes p.1)

path_byte_unmarked : (byte : ℕ) (bytes : List ℕ) → passes is_path_byte byte bytes ≡ true → no_mark byte ≡ true
path_byte_unmarked byte bytes h =
    not_from_false (eqb byte 63) (ne_eqb byte 63 (λ e. marked (subst (λ (b : ℕ). passes is_path_byte b bytes ≡ true) e h)))
  where
    marked : false ≡ true → ⊥
    marked e = both_ways false refl e

pub path_unmarked : (front : List ℕ) → taken_in is_path_byte front ≡ true → list_all no_mark front ≡ true
path_unmarked [] h = refl
path_unmarked (byte ∷ bytes) h =
    let p = and_parts (passes is_path_byte byte bytes) (taken_in is_path_byte bytes) h in
    and_from (no_mark byte) (list_all no_mark bytes) (path_byte_unmarked byte bytes p.0) (path_unmarked bytes p.1)

-- where a text is cut at its first `?`
abbrev is_mark : ℕ → Bool
is_mark byte = byte == 63

abbrev cut_at_place : List ℕ → Option ℕ → Option (List ℕ × List ℕ)
cut_at_place text place = option_map (λ i. (take i text, drop (i + 1) text)) place

cut_found : (text : List ℕ) (n : ℕ) → prefix_len no_mark text ≡ n → n < length text → parts_at 63 text ≡ Some (take n text, drop (n + 1) text)
unfolding parts_at
cut_found text n e within = rw e (ap (cut_at_place text) (cond-true (ltb n (length text)) (Some n) None (lt-ltb n (length text) within)))

cut_none : (text : List ℕ) → length text ≤ prefix_len no_mark text → parts_at 63 text ≡ None
unfolding parts_at
cut_none text past = ap (cut_at_place text) (cond-false (ltb (prefix_len no_mark text) (length text)) (Some (prefix_len no_mark text)) None (le-ltb (prefix_len no_mark text) (length text) past))

pub parts_found : (front query : List ℕ) → list_all no_mark front ≡ true → parts_at 63 (front ++ 63 ∷ query) ≡ Some (front, query)
parts_found front query h =
    let e = prefix_all no_mark front (63 ∷ query) h refl in
    let before = take_at front (63 ∷ query) (length front) refl in
    let behind : drop (length front + 1) (front ++ 63 ∷ query) ≡ query = sym (drop-drop 1 (length front) (front ++ 63 ∷ query)) ∙ ap (drop 1) (drop_at front (63 ∷ query) (length front) refl) in
    cut_found (front ++ 63 ∷ query) (length front) e (omega (arith, length-append front (63 ∷ query))) ∙ ap (λ (xs : List ℕ). Some (xs, drop (length front + 1) (front ++ 63 ∷ query))) before ∙ ap (λ (xs : List ℕ). Some (front, xs)) behind

pub parts_none : (front : List ℕ) → list_all no_mark front ≡ true → parts_at 63 front ≡ None
parts_none front h = let e : prefix_len no_mark front ≡ length front = ap (prefix_len no_mark) (sym (append-nil front)) ∙ prefix_all no_mark front [] h refl in cut_none front (omega (arith, e))

pub parts_cases : (text : List ℕ) → ((front : List ℕ) × (query : List ℕ) × (text ≡ front ++ 63 ∷ query) × (list_all no_mark front ≡ true)) ⊎ (list_all no_mark text ≡ true)
parts_cases text =
    ⊎_elim (λ found.
    let n = position_or_len is_mark text in
    let within = ltb-true n (length text) found in
    let byte = eqb-true _ 63 (passes_at_first is_mark text 0 within) in
    inl (take n text, after_first is_mark text, split_at_first is_mark text 0 within ∙ ap (λ (b : ℕ). before_first is_mark text ++ b ∷ after_first is_mark text) byte, all_of_prefix no_mark text n (omega arith)))
    (λ none. inr (subst (λ (xs : List ℕ). list_all no_mark xs ≡ true) (take-length text) (all_of_prefix no_mark text (length text) (ltb-false (position_or_len is_mark text) (length text) none)))) (cases_Bool (ltb (position_or_len is_mark text) (length text)))
