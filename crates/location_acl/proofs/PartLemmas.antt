-- The parts of a text before and after the first byte of some value.
use Rattle.std.proofs.Common.{◌≡◌, ℕ, ◌+◌, suc, Bool, true, false, not, cond, ltb, List, [], ◌∷◌, ◌++◌, length, length-append, append_assoc, get_or, take, drop, Option, Some, None, refl, ap, sym, ◌∙◌, arith, ⊎_elim}
use Rattle.std.specs.Prelude.{◌==◌}
use Rattle.std.specs.Option.{option_map}
use Rattle.std.specs.List.{position_or_len, before_first, after_first, list_all, take_while}
use Rattle.std.proofs.lemmas.Bool.{eqb-true, ltb-true, ltb-false, lt-ltb, eq-eqb, and_parts, and_from, cases_Bool, cond-true, cond-false}
use Rattle.std.proofs.lemmas.List.Sums.{split_at_first, passes_at_first, take_while-cons}
use Rattle.std.proofs.lemmas.List.{take_at, drop_at, take_all}
use Rattle.listing.specs.Word.{parts_at}

some_parts : (t : Bool) (place : ℕ) (make : ℕ → List ℕ × List ℕ) (parts : List ℕ × List ℕ) → option_map make (cond t (Some place) None) ≡ Some parts → (t ≡ true) × (make place ≡ parts)
some_parts true place make parts is = (refl, cc)
some_parts false place make parts is = absurd (cc)

-- the two parts and the byte between them are the text
pub parts_are : (byte : ℕ) (text front rest : List ℕ) → parts_at byte text ≡ Some (front, rest) → text ≡ front ++ byte ∷ rest
unfolding parts_at
parts_are byte text front rest is =
    let found = some_parts _ _ (λ (place : ℕ). (take place text, drop (place + 1) text)) (front, rest) is in
    let within = ltb-true _ _ found.0 in
    let same : byte ≡ get_or text (position_or_len (λ (x : ℕ). x == byte) text) 0 = sym (eqb-true _ byte (passes_at_first (λ (x : ℕ). x == byte) text 0 within)) in
    split_at_first (λ (x : ℕ). x == byte) text 0 within ∙ ap (λ (x : ℕ). before_first (λ (y : ℕ). y == byte) text ++ x ∷ after_first (λ (y : ℕ). y == byte) text) (sym same) ∙ ap (λ (p : List ℕ × List ℕ). p.0 ++ byte ∷ p.1) found.1

-- none of the bytes has this value
abbrev pub is_free : ℕ → List ℕ → Bool
is_free byte xs = list_all (λ x. not (x == byte)) xs

all_while : (p : ℕ → Bool) (xs : List ℕ) → list_all p (take_while p xs) ≡ true
all_while p [] = refl
all_while p (x ∷ xs) =
    ⊎_elim (λ t. ap (λ (ys : List ℕ). list_all p ys) (take_while-cons p x xs ∙ cond-true (p x) _ _ t) ∙ and_from _ _ t (all_while p xs))
    (λ f. ap (λ (ys : List ℕ). list_all p ys) (take_while-cons p x xs ∙ cond-false (p x) _ _ f)) (cases_Bool (p x))

-- the first part has no such byte
pub front_is_free : (byte : ℕ) (text front rest : List ℕ) → parts_at byte text ≡ Some (front, rest) → is_free byte front ≡ true
unfolding parts_at
front_is_free byte text front rest is =
    let found = some_parts _ _ (λ (place : ℕ). (take place text, drop (place + 1) text)) (front, rest) is in
    ap (λ (p : List ℕ × List ℕ). is_free byte p.0) (sym found.1) ∙ all_while (λ (x : ℕ). not (x == byte)) text

-- where such a byte stands, the first part ends
first_at : (byte : ℕ) (front rest : List ℕ) → is_free byte front ≡ true → position_or_len (λ (x : ℕ). x == byte) (front ++ byte ∷ rest) ≡ length front
first_at byte [] rest free = cond-false (not (byte == byte)) _ _ (ap not (eq-eqb byte byte refl))
first_at byte (x ∷ front) rest free =
    let parts = and_parts (not (x == byte)) (is_free byte front) free in
    cond-true (not (x == byte)) _ _ parts.0 ∙ ap (λ (k : ℕ). 1 + k) (first_at byte front rest parts.1) ∙ (let e : 1 + length front ≡ suc (length front) = omega arith in e)

pub parts_from : (byte : ℕ) (text front rest : List ℕ) → text ≡ front ++ byte ∷ rest → is_free byte front ≡ true → parts_at byte text ≡ Some (front, rest)
unfolding parts_at
parts_from byte text front rest is free =
    let place = first_at byte front rest free in
    let within : ltb (length front) (length (front ++ byte ∷ rest)) ≡ true = lt-ltb _ _ (omega (arith, length-append front (byte ∷ rest))) in
    let behind : drop (length front + 1) (front ++ byte ∷ rest) ≡ rest = ap (λ (xs : List ℕ). drop (length front + 1) xs) (sym (append_assoc front (byte ∷ []) rest)) ∙ drop_at (front ++ byte ∷ []) rest (length front + 1) (omega (arith, length-append front (byte ∷ []))) in
    ap (λ (xs : List ℕ). parts_at byte xs) is
    ∙ ap (λ (k : ℕ). option_map (λ (place : ℕ). (take place (front ++ byte ∷ rest), drop (place + 1) (front ++ byte ∷ rest))) (cond (ltb k (length (front ++ byte ∷ rest))) (Some k) None)) place
    ∙ ap (λ (o : Option ℕ). option_map (λ (place : ℕ). (take place (front ++ byte ∷ rest), drop (place + 1) (front ++ byte ∷ rest))) o) (cond-true _ _ _ within)
    ∙ ap (λ (xs : List ℕ). Some (xs, drop (length front + 1) (front ++ byte ∷ rest))) (take_at front (byte ∷ rest) (length front) refl)
    ∙ ap (λ (xs : List ℕ). Some (front, xs)) behind

-- a text without two parts has no such byte
pub text_is_free : (byte : ℕ) (text : List ℕ) → parts_at byte text ≡ None → is_free byte text ≡ true
unfolding parts_at
text_is_free byte text is =
    ⊎_elim (λ t. absurd (let e = ap (λ (o : Option ℕ). option_map (λ (place : ℕ). (take place text, drop (place + 1) text)) o) (sym (cond-true _ _ None t)) ∙ is in cc))
    (λ f. ap (is_free byte) (sym (take_all (position_or_len (λ (x : ℕ). x == byte) text) text (ltb-false _ _ f))) ∙ all_while (λ (x : ℕ). not (x == byte)) text)
    (cases_Bool (ltb (position_or_len (λ (x : ℕ). x == byte) text) (length text)))

-- two ways to cut at such a byte are one, where the first parts have none
pub one_cut : (byte : ℕ) (front rest other more : List ℕ) → is_free byte front ≡ true → is_free byte other ≡ true → front ++ byte ∷ rest ≡ other ++ byte ∷ more → (front ≡ other) × (rest ≡ more)
one_cut byte front rest other more free clear same =
    let e : Some (front, rest) ≡ Some (other, more) = sym (parts_from byte (front ++ byte ∷ rest) front rest refl free) ∙ parts_from byte (front ++ byte ∷ rest) other more same clear in
    let pair : (front, rest) ≡ (other, more) = cc in
    (ap (λ (p : List ℕ × List ℕ). p.0) pair, ap (λ (p : List ℕ × List ℕ). p.1) pair)
