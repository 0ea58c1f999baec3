-- Digits, the '-' between them, and the grammar against its reading.
use Rattle.std.proofs.Common.{◌≡◌, ℕ, ◌+◌, ◌-◌, ◌*◌, ◌^◌, ◌<◌, ◌≤◌, min, leb, true, false, not, length-append, zero, suc, length, get_or, take, drop, List, [], ◌∷◌, ◌++◌, Option, Some, None, refl, ap, sym, subst, ◌∙◌, arith, ⊎_elim, inl, inr, ◌⊎◌, ltb, if◌then◌else◌}
use Rattle.std.specs.Char.{is_ascii_digit, digit_value}
use Rattle.std.specs.Str.{all_ascii_digits}
use Rattle.std.specs.Str.Parse.{digits_value}
use Rattle.std.proofs.lemmas.Bool.{and_parts, and_from, and_left, and_right, cond-true, cond-false, lt-ltb, le-ltb, le-leb, leb-true, ltb-true}
use Rattle.std.proofs.lemmas.List.{take_more}
use Rattle.std.proofs.lemmas.Int.Digits.{digits_value_more}
use Rattle.std.specs.Char.{to_ascii_lowercase}
use Rattle.std.specs.Prelude.{codes, bytes_eq}
use Rattle.std.specs.Str.{str_to_ascii_lowercase}
use Rattle.std.specs.Option.{option_map_or}
use Rattle.std.specs.List.{position_or_len, before_first, after_first}
use Rattle.std.proofs.lemmas.Bool.{cases_Bool, ne_eqb, eqb-true, not_from_false}
use Rattle.std.proofs.lemmas.List.{length-map, take_at, drop_at, take-append-drop, drop-drop}
use Rattle.std.proofs.lemmas.List.Sums.{split_at_first, passes_at_first}
use Rattle.std.proofs.lemmas.Slice.Eq.{bytes_eq-Decides}
use Rattle.byte_range.specs.declared.want.Want.{Want}
use Rattle.byte_range.specs.declared.want.Want.TheVariants.{All, From, Last}
use Rattle.byte_range.specs.Want.{IsUnit, IsNumber, IsRange, Reads, number_of, between, range_of, is_dash, set_of, has_unit, want_of}

-- one more digit at the end
all_ascii_digits-push : (xs : List ℕ) (c : ℕ) → all_ascii_digits xs ≡ true → is_ascii_digit c ≡ true → all_ascii_digits (xs ++ c ∷ []) ≡ true
all_ascii_digits-push [] c h d = and_from (is_ascii_digit c) true d refl
all_ascii_digits-push (x ∷ xs) c h d =
    let parts = and_parts (is_ascii_digit x) (all_ascii_digits xs) h in
    and_from (is_ascii_digit x) _ parts.0 (all_ascii_digits-push xs c parts.1 d)

pub digits_more : (xs : List ℕ) (i : ℕ) → i < length xs → all_ascii_digits (take i xs) ≡ true → is_ascii_digit (get_or xs i 0) ≡ true → all_ascii_digits (take (i + 1) xs) ≡ true
digits_more xs i h before here = rw (take_more xs i 0 h) (all_ascii_digits-push (take i xs) (get_or xs i 0) before here)

-- a byte that is no digit
pub digits_none : (xs : List ℕ) (i : ℕ) → i < length xs → is_ascii_digit (get_or xs i 0) ≡ false → all_ascii_digits xs ≡ false
digits_none [] i h n = absurd (omega arith)
digits_none (x ∷ xs) zero h n = and_left (is_ascii_digit x) (all_ascii_digits xs) n
digits_none (x ∷ xs) (suc i) h n = and_right (is_ascii_digit x) (all_ascii_digits xs) (digits_none xs i (omega arith) n)

pub digit_range : (c : ℕ) → is_ascii_digit c ≡ true → (48 ≤ c) × (c ≤ 57)
digit_range c h =
    let parts = and_parts (leb 48 c) (leb c 57) h in
    (leb-true 48 c parts.0, leb-true c 57 parts.1)

digit_value-digit : (c : ℕ) → is_ascii_digit c ≡ true → digit_value c ≡ c - 48
digit_value-digit c h =
    let range = digit_range c h in
    cond-false (ltb c 48) _ _ (le-ltb c 48 range.0) ∙ cond-true (ltb c 58) _ _ (lt-ltb c 58 (omega arith))

capped : (v n d cap : ℕ) → n ≡ min v cap → min (min (n * 10) cap + d) cap ≡ min (v * 10 + d) cap
capped v n d cap e = omega arith

-- what the digit adds, where the number stops at the largest
pub value_more : (xs : List ℕ) (i n : ℕ) → i < length xs → is_ascii_digit (get_or xs i 0) ≡ true → n ≡ min (digits_value 10 (take i xs)) (2 ^ 64 - 1) → min (min (n * 10) (2 ^ 64 - 1) + (get_or xs i 0 - 48)) (2 ^ 64 - 1) ≡ min (digits_value 10 (take (i + 1) xs)) (2 ^ 64 - 1)
value_more xs i n h digit before =
    rw (digits_value_more 10 xs i h, digit_value-digit (get_or xs i 0) digit) (capped (digits_value 10 (take i xs)) n (get_or xs i 0 - 48) (2 ^ 64 - 1) before)

pub number_of-none : (xs : List ℕ) → all_ascii_digits xs ≡ false → number_of xs ≡ None
number_of-none [] h = refl
number_of-none (b ∷ bs) h = cond-false (all_ascii_digits (b ∷ bs)) _ _ h

pub number_of-some : (xs : List ℕ) → 0 < length xs → all_ascii_digits xs ≡ true → number_of xs ≡ Some (min (digits_value 10 xs) (2 ^ 64 - 1))
number_of-some [] n h = absurd (omega arith)
number_of-some (b ∷ bs) n h = cond-true (all_ascii_digits (b ∷ bs)) _ _ h

-- a text is a number, or none
number_cases : (ds : List ℕ) → ((n : ℕ) × (number_of ds ≡ Some n) × IsNumber ds n) ⊎ (number_of ds ≡ None)
number_cases [] = inr refl
number_cases (b ∷ bs) =
    ⊎_elim (λ digits. inl (min (digits_value 10 (b ∷ bs)) (2 ^ 64 - 1), number_of-some (b ∷ bs) (omega arith) digits, (omega arith, digits, refl))) (λ other. inr (number_of-none (b ∷ bs) other)) (cases_Bool (all_ascii_digits (b ∷ bs)))

number_is : (ds : List ℕ) (n : ℕ) → IsNumber ds n → number_of ds ≡ Some n
number_is ds n h = number_of-some ds h.0 h.1 ∙ ap Some (sym h.2)

-- where the '-' behind digits is
dash_at : (first last : List ℕ) → all_ascii_digits first ≡ true → position_or_len is_dash (first ++ 45 ∷ last) ≡ length first
dash_at [] last h = refl
dash_at (b ∷ first) last h =
    let parts = and_parts (is_ascii_digit b) (all_ascii_digits first) h in
    let range = digit_range b parts.0 in
    let other = ne_eqb b 45 (λ e. omega arith) in
    let rest = dash_at first last parts.1 in
    cond-true (not (is_dash b)) _ _ (not_from_false (is_dash b) other) ∙ omega (arith, rest)

-- a set is read as it is cut at its '-'
set_of-cut : (first last : List ℕ) → all_ascii_digits first ≡ true → set_of (first ++ 45 ∷ last) ≡ range_of first last
set_of-cut first last digits =
    let at = dash_at first last digits in
    let within : position_or_len is_dash (first ++ 45 ∷ last) < length (first ++ 45 ∷ last) = omega (arith, at, length-append first (45 ∷ last)) in
    let front : before_first is_dash (first ++ 45 ∷ last) ≡ first = take_at first (45 ∷ last) _ (sym at) in
    let behind : after_first is_dash (first ++ 45 ∷ last) ≡ last = sym (drop-drop 1 (position_or_len is_dash (first ++ 45 ∷ last)) (first ++ 45 ∷ last)) ∙ ap (drop 1) (drop_at first (45 ∷ last) _ (sym at)) in
    cond-true (ltb (position_or_len is_dash (first ++ 45 ∷ last)) (length (first ++ 45 ∷ last))) _ _ (lt-ltb _ _ within) ∙ ap (λ (xs : List ℕ). range_of xs (after_first is_dash (first ++ 45 ∷ last))) front ∙ ap (λ (xs : List ℕ). range_of first xs) behind

-- the unit is six bytes long
unit_length : (unit : List ℕ) → IsUnit unit → length unit ≡ 6
unit_length unit h = sym (length-map unit to_ascii_lowercase) ∙ ap length h

-- a text is read as it is cut behind its unit and at its '-'
want_of-cut : (unit first last : List ℕ) → IsUnit unit → all_ascii_digits first ≡ true → want_of (unit ++ (first ++ 45 ∷ last)) ≡ range_of first last
want_of-cut unit first last u digits =
    let six = unit_length unit u in
    let front = take_at unit (first ++ 45 ∷ last) 6 six in
    let behind = drop_at unit (first ++ 45 ∷ last) 6 six in
    let has : has_unit (unit ++ (first ++ 45 ∷ last)) ≡ true = ap (λ (xs : List ℕ). bytes_eq (str_to_ascii_lowercase xs) (codes "bytes=")) front ∙ (bytes_eq-Decides (str_to_ascii_lowercase unit) (codes "bytes=")).1 u in
    cond-true (has_unit (unit ++ (first ++ 45 ∷ last))) _ _ has ∙ ap set_of behind ∙ set_of-cut first last digits

-- each way to write a range
range_of-last : (ds : List ℕ) (n : ℕ) → number_of ds ≡ Some n → range_of [] ds ≡ Last n
range_of-last ds n h = ap (λ (o : Option ℕ). option_map_or Last o All) h

range_of-from : (b : ℕ) (ds : List ℕ) (n : ℕ) → number_of (b ∷ ds) ≡ Some n → range_of (b ∷ ds) [] ≡ From n None
range_of-from b ds n h = ap (λ (o : Option ℕ). option_map_or (λ x. From x None) o All) h

range_of-between : (b : ℕ) (ds : List ℕ) (d : ℕ) (es : List ℕ) (first last : ℕ) → number_of (b ∷ ds) ≡ Some first → number_of (d ∷ es) ≡ Some last → range_of (b ∷ ds) (d ∷ es) ≡ (if leb first last then From first (Some last) else All)
range_of-between b ds d es first last f l =
    ap (λ (o : Option ℕ). between o (number_of (d ∷ es))) f ∙ ap (λ (o : Option ℕ). between (Some first) o) l

range_cases : (unit first last : List ℕ) → IsUnit unit → (range_of first last ≡ All) ⊎ IsRange (unit ++ (first ++ 45 ∷ last)) (range_of first last)
range_cases unit [] last u =
    ⊎_elim (λ some. inr (subst (λ (w : Want). IsRange (unit ++ 45 ∷ last) w) (sym (range_of-last last some.0 some.1)) (unit, last, refl, u, some.2))) (λ none. inl (ap (λ (o : Option ℕ). option_map_or Last o All) none)) (number_cases last)
range_cases unit (b ∷ first) [] u =
    ⊎_elim (λ some. inr (subst (λ (w : Want). IsRange (unit ++ ((b ∷ first) ++ 45 ∷ [])) w) (sym (range_of-from b first some.0 some.1)) (unit, b ∷ first, refl, u, some.2))) (λ none. inl (ap (λ (o : Option ℕ). option_map_or (λ x. From x None) o All) none)) (number_cases (b ∷ first))
range_cases unit (b ∷ first) (d ∷ last) u =
    ⊎_elim (λ some. ⊎_elim (λ other. both_cases unit b first d last u some.0 other.0 some.1 other.1 some.2 other.2) (λ none. inl (ap (λ (o : Option ℕ). between o (number_of (d ∷ last))) some.1 ∙ ap (λ (o : Option ℕ). between (Some some.0) o) none)) (number_cases (d ∷ last))) (λ none. inl (ap (λ (o : Option ℕ). between o (number_of (d ∷ last))) none)) (number_cases (b ∷ first))
  where
    both_cases : (unit : List ℕ) (b : ℕ) (first : List ℕ) (d : ℕ) (last : List ℕ) → IsUnit unit → (m n : ℕ) → number_of (b ∷ first) ≡ Some m → number_of (d ∷ last) ≡ Some n → IsNumber (b ∷ first) m → IsNumber (d ∷ last) n → (range_of (b ∷ first) (d ∷ last) ≡ All) ⊎ IsRange (unit ++ ((b ∷ first) ++ 45 ∷ d ∷ last)) (range_of (b ∷ first) (d ∷ last))
    both_cases unit b first d last u m n f l fs ls =
        let same = range_of-between b first d last m n f l in
        ⊎_elim (λ e. inr (subst (λ (w : Want). IsRange (unit ++ ((b ∷ first) ++ 45 ∷ d ∷ last)) w) (sym (same ∙ cond-true (leb m n) _ _ e)) (unit, b ∷ first, d ∷ last, refl, u, fs, ls, leb-true m n e))) (λ e. inl (same ∙ cond-false (leb m n) _ _ e)) (cases_Bool (leb m n))

-- what is read is all, or is written there
read_is_written : (text : List ℕ) → (want_of text ≡ All) ⊎ IsRange text (want_of text)
read_is_written text = ⊎_elim (λ has. with_unit text has) (λ none. inl (cond-false (has_unit text) _ _ none)) (cases_Bool (has_unit text))
  where
    with_dash : (text : List ℕ) → has_unit text ≡ true → ltb (position_or_len is_dash (drop 6 text)) (length (drop 6 text)) ≡ true → (want_of text ≡ All) ⊎ IsRange text (want_of text)
    with_dash text has dash =
        let within = ltb-true _ _ dash in
        let unit : IsUnit (take 6 text) = (bytes_eq-Decides (str_to_ascii_lowercase (take 6 text)) (codes "bytes=")).0 has in
        let same : want_of text ≡ range_of (before_first is_dash (drop 6 text)) (after_first is_dash (drop 6 text)) = cond-true (has_unit text) _ _ has ∙ cond-true (ltb (position_or_len is_dash (drop 6 text)) (length (drop 6 text))) _ _ dash in
        let byte = eqb-true _ 45 (passes_at_first is_dash (drop 6 text) 0 within) in
        let set = split_at_first is_dash (drop 6 text) 0 within ∙ ap (λ (x : ℕ). before_first is_dash (drop 6 text) ++ x ∷ after_first is_dash (drop 6 text)) byte in
        let whole = sym (take-append-drop 6 text) ∙ ap (λ (xs : List ℕ). take 6 text ++ xs) set in
        ⊎_elim (λ all. inl (same ∙ all)) (λ r. inr (subst (λ (w : Want). IsRange text w) (sym same) (subst (λ (xs : List ℕ). IsRange xs (range_of (before_first is_dash (drop 6 text)) (after_first is_dash (drop 6 text)))) (sym whole) r))) (range_cases (take 6 text) (before_first is_dash (drop 6 text)) (after_first is_dash (drop 6 text)) unit)

    with_unit : (text : List ℕ) → has_unit text ≡ true → (want_of text ≡ All) ⊎ IsRange text (want_of text)
    with_unit text has =
        ⊎_elim (λ dash. with_dash text has dash) (λ none. inl (cond-true (has_unit text) _ _ has ∙ cond-false (ltb (position_or_len is_dash (drop 6 text)) (length (drop 6 text))) _ _ none)) (cases_Bool (ltb (position_or_len is_dash (drop 6 text)) (length (drop 6 text))))

-- the numbers that are written are the numbers that are read
from_is_read : (ds : List ℕ) (n : ℕ) → IsNumber ds n → range_of ds [] ≡ From n None
from_is_read [] n h = absurd (omega (arith, h.0))
from_is_read (b ∷ ds) n h = range_of-from b ds n (number_is (b ∷ ds) n h)

between_is_read : (ds es : List ℕ) (first last : ℕ) → IsNumber ds first → IsNumber es last → first ≤ last → range_of ds es ≡ From first (Some last)
between_is_read [] es first last f l order = absurd (omega (arith, f.0))
between_is_read (b ∷ ds) [] first last f l order = absurd (omega (arith, l.0))
between_is_read (b ∷ ds) (d ∷ es) first last f l order =
    range_of-between b ds d es first last (number_is (b ∷ ds) first f) (number_is (d ∷ es) last l) ∙ cond-true (leb first last) _ _ (le-leb first last order)

-- what is written is read
pub written_is_read : (text : List ℕ) (want : Want) → IsRange text want → want_of text ≡ want
written_is_read text All h = absurd h
written_is_read text (From first None) h =
    ap want_of h.2 ∙ want_of-cut h.0 h.1 [] h.3 h.4.1 ∙ from_is_read h.1 first h.4
written_is_read text (From first (Some last)) h =
    ap want_of h.3 ∙ want_of-cut h.0 h.1 h.2 h.4 h.5.1 ∙ between_is_read h.1 h.2 first last h.5 h.6 h.7
written_is_read text (Last count) h =
    ap want_of h.2 ∙ want_of-cut h.0 [] h.1 h.3 refl ∙ range_of-last h.1 count (number_is h.1 count h.4)

pub Reads-from : (text : List ℕ) (want : Want) → want_of text ≡ want → Reads text want
Reads-from text All e =
    λ want r. subst (λ (w : Want). IsRange text w) (sym (written_is_read text want r) ∙ e) r
Reads-from text (From first last) e =
    ⊎_elim (λ all. absurd (not_all (sym all ∙ e))) (λ r. subst (λ (w : Want). IsRange text w) e r) (read_is_written text)
  where
    not_all : {first : ℕ} {last : Option ℕ} → All ≡ From first last → ⊥
    not_all h = cc
Reads-from text (Last count) e =
    ⊎_elim (λ all. absurd (not_all (sym all ∙ e))) (λ r. subst (λ (w : Want). IsRange text w) e r) (read_is_written text)
  where
    not_all : {count : ℕ} → All ≡ Last count → ⊥
    not_all h = cc

reading_is : (text : List ℕ) (want : Want) → Reads text want → want_of text ≡ want
reading_is text All r = ⊎_elim (λ all. all) (λ w. absurd (r (want_of text) w)) (read_is_written text)
reading_is text (From first last) r = written_is_read text (From first last) r
reading_is text (Last count) r = written_is_read text (Last count) r

pub one_reading : (text : List ℕ) (want other : Want) → Reads text want → Reads text other → want ≡ other
one_reading text want other r s = sym (reading_is text want r) ∙ reading_is text other s
