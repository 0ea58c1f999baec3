-- The place of a fault in the text of a block.
use Rattle.std.proofs.Common.{◌≡◌, ℕ, ◌+◌, ◌-◌, ◌*◌, ◌<◌, ◌≤◌, zero, suc, leb, ltb, eqb, Bool, true, false, cond, not, List, [], ◌∷◌, ◌++◌, length, get_or, take, Option, Some, None, IsSome, refl, ap, sym, subst, ◌∙◌, arith, ⊎_elim, append_assoc, append-nil, length-append, lit≤}
use Rattle.std.specs.Prelude.{◌&&◌, nat_lt, nat_le, option_map}
use Rattle.std.specs.Char.{is_ascii_digit, digit_value}
use Rattle.std.specs.Str.{all_ascii_digits}
use Rattle.std.specs.Str.Parse.{digits_value, digits_value_after}
use Rattle.std.proofs.lemmas.Bool.{cases_lt, and_parts, and_from, cond-true, lt-ltb, le-leb, leb-true, ltb-true}
use Rattle.std.proofs.lemmas.List.{take_more, length-take-le}
use Rattle.std.proofs.Math.Seq.{take-length}
use Rattle.std.proofs.lemmas.Int.Digits.{digits_value_push}
use Rattle.location_acl.specs.declared.ip.Ip.{Ip}
use Rattle.location_acl.specs.Ip.{IsAddress}
use Rattle.location_acl.specs.Block.{base_of, most_of, length_with, IsLength, IsSomeBlock, IsFitting}
use Rattle.listing.specs.Fronts.{IsLongestFront}
use Rattle.location_acl.proofs.FrontLemmas.{Begins, take_longer, place_same}
use Rattle.location_acl.proofs.PartLemmas.{is_free, one_cut}
use Rattle.location_acl.proofs.BlockLemmas.{base_from, base_is, address_is_free, digit_value_is}

-- a place behind which nothing is accepted
pub stops_if : (A : List ℕ → Type 0) (text : List ℕ) (at : ℕ) → at ≤ length text → Begins A (take at text) → ((more : List ℕ) → at < length text → A (take at text ++ get_or text at 0 ∷ more) → ⊥) → IsLongestFront A text at
stops_if A text at within begins bad = record {
  within = within;
  begins = begins;
  longest = λ n rest fits accepted. ⊎_elim (λ longer.
      let more = take_longer text at n longer fits in
      let same = ap (λ (xs : List ℕ). xs ++ rest) more.1 ∙ append_assoc (take at text) (get_or text at 0 ∷ more.0) rest in
      absurd (bad (more.0 ++ rest) (omega arith) (subst A same accepted)))
      (λ less. less) (cases_lt at n);
}

digits_of_part : (xs : List ℕ) (b : ℕ) (more : List ℕ) → all_ascii_digits (xs ++ b ∷ more) ≡ true → is_ascii_digit b ≡ true
digits_of_part [] b more digits = (and_parts (is_ascii_digit b) (all_ascii_digits more) digits).0
digits_of_part (x ∷ xs) b more digits = digits_of_part xs b more (and_parts (is_ascii_digit x) (all_ascii_digits (xs ++ b ∷ more)) digits).1

value_append : (n : ℕ) (xs ys : List ℕ) → digits_value_after 10 n (xs ++ ys) ≡ digits_value_after 10 (digits_value_after 10 n xs) ys
value_append n [] ys = refl
value_append n (x ∷ xs) ys = value_append (n * 10 + digit_value x) xs ys

value_grows : (n : ℕ) (xs : List ℕ) → n ≤ digits_value_after 10 n xs
value_grows n [] = omega arith
value_grows n (x ∷ xs) = let h = value_grows (n * 10 + digit_value x) xs in omega arith

-- digits begin a length
pub length_begins : (six : Bool) (digits : List ℕ) → all_ascii_digits digits ≡ true → length digits ≤ 3 → digits_value 10 digits ≤ most_of six → Begins (IsFitting six) digits
length_begins six [] digits few most = (48 ∷ [], (0, record { some = lit≤ tt; few = lit≤ tt; digits = refl; valued = refl }, (let h : 0 ≤ most_of six = omega arith in h)))
length_begins six (x ∷ xs) digits few most =
    ([], (digits_value 10 (x ∷ xs), subst (λ (ys : List ℕ). IsLength ys (digits_value 10 (x ∷ xs))) (sym (append-nil (x ∷ xs))) (record { some = omega arith; few = few; digits = digits; valued = refl }), most))

-- a byte with which no length goes on
pub length_stops : (six : Bool) (front : List ℕ) (b : ℕ) (more : List ℕ) → length_with six (digits_value 10 front) (length front) b ≡ None → IsFitting six (front ++ b ∷ more) → ⊥
length_stops six front b more none h =
    let digit = digits_of_part front b more h.1.digits in
    let value = digit_value_is b digit in
    let short : ltb (length front) 3 ≡ true = lt-ltb (length front) 3 (omega (arith, h.1.few, length-append front (b ∷ more))) in
    let large : digits_value 10 front * 10 + (b - 48) ≤ h.0 = omega (arith, value.0, value_grows (digits_value 10 front * 10 + digit_value b) more, value_append 0 front (b ∷ more), h.1.valued) in
    let fits : leb (digits_value 10 front * 10 + (b - 48)) (most_of six) ≡ true = le-leb (digits_value 10 front * 10 + (b - 48)) (most_of six) (omega (arith, h.2)) in
    let some = cond-true _ (Some (digits_value 10 front * 10 + (b - 48))) None (and_from (ltb (length front) 3) _ short (and_from (is_ascii_digit b) _ digit fits)) in
    let clash : None ≡ Some (digits_value 10 front * 10 + (b - 48)) = sym none ∙ some in
    absurd (cc)

-- a text that an address of this kind begins, and that has no `/`, begins a block as far
some_block : (six : Bool) (text : List ℕ) (base : Ip) → base_of six text ≡ Some base → (behind : List ℕ) → IsFitting six behind → IsSomeBlock six (text ++ 47 ∷ behind)
some_block six text base read behind fits =
    let b = base_from six text base read in
    (record { base = base; length = fits.0 }, (record { front = text; behind = behind; parts = refl; address = b.0; kind = b.1; long = fits.1 }, fits.2))

zero_fits : (six : Bool) → IsFitting six (48 ∷ [])
zero_fits true = (0, record { some = lit≤ tt; few = lit≤ tt; digits = refl; valued = refl }, lit≤ tt)
zero_fits false = (0, record { some = lit≤ tt; few = lit≤ tt; digits = refl; valued = refl }, lit≤ tt)

some_base : {A : Type 0} (o : Option A) → IsSome o → (x : A) × (o ≡ Some x)
some_base None some = absurd (cc)
some_base (Some x) some = (x, refl)

is_some_base : {A : Type 0} (o : Option A) (x : A) → o ≡ Some x → IsSome o
is_some_base None x is = absurd (cc)
is_some_base (Some y) x is = refl

base_begins_block : (six : Bool) (front : List ℕ) → Begins (λ other. IsSome (base_of six other)) front → Begins (IsSomeBlock six) front
base_begins_block six front h =
    let b = some_base (base_of six (front ++ h.0)) h.1 in
    (h.0 ++ 47 ∷ 48 ∷ [], subst (λ (xs : List ℕ). IsSomeBlock six xs) (append_assoc front h.0 (47 ∷ 48 ∷ [])) (some_block six (front ++ h.0) b.0 b.1 (48 ∷ []) (zero_fits six)))

-- what stands before the `/` goes on behind a text that has none
longer_front : (xs rest front behind : List ℕ) → is_free 47 xs ≡ true → xs ++ rest ≡ front ++ 47 ∷ behind → (more : List ℕ) × (front ≡ xs ++ more)
longer_front [] rest front behind free same = (front, refl)
longer_front (x ∷ xs) rest [] behind free same =
    let first : x ≡ 47 = cc in
    let no = (and_parts (not (eqb x 47)) _ free).0 in
    let e : not (eqb 47 47) ≡ true = ap (λ (k : ℕ). not (eqb k 47)) (sym first) ∙ no in
    absurd (cc)
longer_front (x ∷ xs) rest (y ∷ front) behind free same =
    let first : x ≡ y = cc in
    let others : xs ++ rest ≡ front ++ 47 ∷ behind = cc in
    let deep = longer_front xs rest front behind (and_parts (not (eqb x 47)) _ free).1 others in
    (deep.0, ap (λ (k : ℕ). k ∷ front) (sym first) ∙ ap (λ (ys : List ℕ). x ∷ ys) deep.1)

block_begins_base : (six : Bool) (front : List ℕ) → is_free 47 front ≡ true → Begins (IsSomeBlock six) front → Begins (λ other. IsSome (base_of six other)) front
block_begins_base six front free h =
    let parts = h.1.1.0 in
    let more = longer_front front h.0 parts.front parts.behind free parts.parts in
    (more.0, is_some_base _ h.1.0.base (base_is six (front ++ more.0) h.1.0.base (subst (λ (xs : List ℕ). IsAddress xs h.1.0.base) more.1 parts.address) parts.kind))

free_take : (n : ℕ) (xs : List ℕ) → is_free 47 xs ≡ true → is_free 47 (take n xs) ≡ true
free_take zero xs free = refl
free_take (suc n) [] free = refl
free_take (suc n) (x ∷ xs) free =
    let parts = and_parts (not (eqb x 47)) (is_free 47 xs) free in
    and_from (not (eqb x 47)) _ parts.0 (free_take n xs parts.1)

-- a text without `/`
pub place_without : (six : Bool) (text : List ℕ) (at : ℕ) → is_free 47 text ≡ true → IsLongestFront (λ other. IsSome (base_of six other)) text at → IsLongestFront (IsSomeBlock six) text at
place_without six text at free p =
    record { within = p.within; begins = base_begins_block six (take at text) p.begins; longest = λ n rest fits accepted. let base = block_begins_base six (take n text) (free_take n text free) (rest, accepted) in p.longest n base.0 fits base.1 }

-- the front of a text with two parts
take_front : (n : ℕ) (front rest : List ℕ) → n ≤ length front → take n (front ++ rest) ≡ take n front
take_front zero front rest within = refl
take_front (suc n) [] rest within = absurd (omega arith)
take_front (suc n) (x ∷ front) rest within = ap (λ (ys : List ℕ). x ∷ ys) (take_front n front rest (omega arith))

take_past : (m : ℕ) (front behind : List ℕ) (b : ℕ) → take (length front + 1 + m) (front ++ b ∷ behind) ≡ front ++ b ∷ take m behind
take_past m [] behind b = ap (λ (k : ℕ). take k (b ∷ behind)) (let e : 0 + 1 + m ≡ suc m = omega arith in e)
take_past m (x ∷ front) behind b =
    ap (λ (k : ℕ). take k (x ∷ (front ++ b ∷ behind))) (let e : suc (length front) + 1 + m ≡ suc (length front + 1 + m) = omega arith in e) ∙ ap (λ (ys : List ℕ). x ∷ ys) (take_past m front behind b)

-- a text whose first part is no address
pub place_before : (six : Bool) (text front behind : List ℕ) (at : ℕ) → text ≡ front ++ 47 ∷ behind → is_free 47 front ≡ true → base_of six front ≡ None → IsLongestFront (λ other. IsSome (base_of six other)) front at → IsLongestFront (IsSomeBlock six) text at
place_before six text front behind at is free none p = subst (λ (xs : List ℕ). IsLongestFront (IsSomeBlock six) xs at) (sym is) (record {
  within = omega (arith, p.within, length-append front (47 ∷ behind));
  begins = subst (λ (xs : List ℕ). Begins (IsSomeBlock six) xs) (sym (take_front at front (47 ∷ behind) p.within)) (base_begins_block six (take at front) p.begins);
  longest = λ n rest fits accepted. longest n fits (rest, accepted);
})
  where
    longest : (n : ℕ) → n ≤ length (front ++ 47 ∷ behind) → Begins (IsSomeBlock six) (take n (front ++ 47 ∷ behind)) → n ≤ at
    longest n fits begun =
        ⊎_elim (λ past.
        let m : n ≡ length front + 1 + (n - length front - 1) = omega arith in
        let parts = begun.1.1.0 in
        let text_is : front ++ 47 ∷ (take (n - length front - 1) behind ++ begun.0) ≡ parts.front ++ 47 ∷ parts.behind =
        sym (ap (λ (xs : List ℕ). xs ++ begun.0) (ap (λ (k : ℕ). take k (front ++ 47 ∷ behind)) m ∙ take_past (n - length front - 1) front behind 47) ∙ append_assoc front (47 ∷ take (n - length front - 1) behind) begun.0) ∙ parts.parts in
        let cut = one_cut 47 front (take (n - length front - 1) behind ++ begun.0) parts.front parts.behind free (address_is_free parts.front begun.1.0.base parts.address) text_is in
        let clash : None ≡ Some begun.1.0.base = sym none ∙ ap (base_of six) cut.0 ∙ base_is six parts.front begun.1.0.base parts.address parts.kind in
        absurd (cc))
        (λ before. let base = block_begins_base six (take n front) (free_take n front free) (subst (λ (xs : List ℕ). Begins (IsSomeBlock six) xs) (take_front n front (47 ∷ behind) before) begun) in
        p.longest n base.0 before base.1)
        (cases_lt (length front) n)

-- a text whose second part is no length
pub place_behind : (six : Bool) (text front behind : List ℕ) (base : Ip) (at k : ℕ) → text ≡ front ++ 47 ∷ behind → is_free 47 front ≡ true → base_of six front ≡ Some base → IsLongestFront (IsFitting six) behind k → at ≡ length text - length behind + k → IsLongestFront (IsSomeBlock six) text at
place_behind six text front behind base at k is free read p at_is =
    let place : at ≡ length front + 1 + k = omega (arith, at_is, ap length is, length-append front (47 ∷ behind)) in
    subst (λ (xs : List ℕ). IsLongestFront (IsSomeBlock six) xs at) (sym is) (subst (λ (j : ℕ). IsLongestFront (IsSomeBlock six) (front ++ 47 ∷ behind) j) (sym place) (record {
      within = omega (arith, p.within, length-append front (47 ∷ behind));
      begins = (p.begins.0, subst (λ (xs : List ℕ). IsSomeBlock six xs) (sym (ap (λ (xs : List ℕ). xs ++ p.begins.0) (take_past k front behind 47) ∙ append_assoc front (47 ∷ take k behind) p.begins.0)) (some_block six front base read (take k behind ++ p.begins.0) p.begins.1));
      longest = λ n rest fits accepted. longest n fits (rest, accepted);
    }))
  where
    longest : (n : ℕ) → n ≤ length (front ++ 47 ∷ behind) → Begins (IsSomeBlock six) (take n (front ++ 47 ∷ behind)) → n ≤ length front + 1 + k
    longest n fits begun =
        ⊎_elim (λ past.
        let m : n ≡ length front + 1 + (n - length front - 1) = omega arith in
        let parts = begun.1.1.0 in
        let text_is : front ++ 47 ∷ (take (n - length front - 1) behind ++ begun.0) ≡ parts.front ++ 47 ∷ parts.behind =
        sym (ap (λ (xs : List ℕ). xs ++ begun.0) (ap (λ (k : ℕ). take k (front ++ 47 ∷ behind)) m ∙ take_past (n - length front - 1) front behind 47) ∙ append_assoc front (47 ∷ take (n - length front - 1) behind) begun.0) ∙ parts.parts in
        let cut = one_cut 47 front (take (n - length front - 1) behind ++ begun.0) parts.front parts.behind free (address_is_free parts.front begun.1.0.base parts.address) text_is in
        let fitting : IsFitting six (take (n - length front - 1) behind ++ begun.0) = subst (λ (xs : List ℕ). IsFitting six xs) (sym cut.1) (begun.1.0.length, parts.long, begun.1.1.1) in
        omega (arith, p.longest (n - length front - 1) begun.0 (omega (arith, length-append front (47 ∷ behind))) fitting))
        (λ before. omega arith)
        (cases_lt (length front) n)

-- a byte with which a length goes on
chosen : {A : Type 0} (t : Bool) (x y : A) → cond t (Some x) None ≡ Some y → (t ≡ true) × (x ≡ y)
chosen true x y is = (refl, cc)
chosen false x y is = absurd (cc)

pub most-le : (six : Bool) → most_of six ≤ 128
most-le true = lit≤ tt
most-le false = lit≤ tt

pub length_goes : (six : Bool) (text : List ℕ) (at number next : ℕ) → at < length text → all_ascii_digits (take at text) ≡ true → number ≡ digits_value 10 (take at text) → length_with six number at (get_or text at 0) ≡ Some next → (at + 1 ≤ 3) × (all_ascii_digits (take (at + 1) text) ≡ true) × (next ≡ digits_value 10 (take (at + 1) text)) × (next ≤ most_of six)
length_goes six text at number next within digits is goes =
    let g = chosen (nat_lt at 3 && (is_ascii_digit (get_or text at 0) && nat_le (number * 10 + (get_or text at 0 - 48)) (most_of six))) (number * 10 + (get_or text at 0 - 48)) next goes in
    let p = and_parts (nat_lt at 3) _ g.0 in
    let q = and_parts (is_ascii_digit (get_or text at 0)) _ p.1 in
    let value = digit_value_is (get_or text at 0) q.0 in
    let taken = take_more text at 0 within in (
      omega (arith, ltb-true _ _ p.0),
      ap all_ascii_digits taken ∙ digits_push (take at text) (get_or text at 0) digits q.0,
      sym g.1 ∙ (let e : number * 10 + (get_or text at 0 - 48) ≡ digits_value 10 (take at text) * 10 + digit_value (get_or text at 0) = omega (arith, value.0) in e) ∙ sym (ap (digits_value 10) taken ∙ digits_value_push 10 (take at text) (get_or text at 0)),
      omega (arith, g.1, leb-true _ _ q.1),
    )
  where
    digits_push : (xs : List ℕ) (c : ℕ) → all_ascii_digits xs ≡ true → is_ascii_digit c ≡ true → all_ascii_digits (xs ++ c ∷ []) ≡ true
    digits_push [] c h d = and_from (is_ascii_digit c) true d refl
    digits_push (x ∷ xs) c h d =
        let parts = and_parts (is_ascii_digit x) (all_ascii_digits xs) h in
        and_from (is_ascii_digit x) _ parts.0 (digits_push xs c parts.1 d)

-- digits behind which no length goes on, or the end
pub length_place : (six : Bool) (text : List ℕ) (at number : ℕ) → at ≤ 3 → at ≤ length text → all_ascii_digits (take at text) ≡ true → number ≡ digits_value 10 (take at text) → number ≤ most_of six → (at < length text → length_with six number at (get_or text at 0) ≡ None) → IsLongestFront (IsFitting six) text at
length_place six text at number few within digits is most none =
    let len = length-take-le at text within in
    stops_if (IsFitting six) text at within (length_begins six (take at text) digits (omega (arith, len)) (omega (arith, is)))
    (λ more short fits. length_stops six (take at text) (get_or text at 0) more (ap (λ (k : ℕ). length_with six k (length (take at text)) (get_or text at 0)) (sym is) ∙ ap (λ (k : ℕ). length_with six number k (get_or text at 0)) len ∙ none short) fits)

-- an address as a whole begins one
pub whole_place : (A : List ℕ → Type 0) (text : List ℕ) → A text → IsLongestFront A text (length text)
whole_place A text accepted = record { within = omega arith; begins = ([], subst A (sym (ap (λ (xs : List ℕ). xs ++ []) (take-length text) ∙ append-nil text)) accepted); longest = λ n rest fits accepted. fits }

pub base_accepted : (six : Bool) (text : List ℕ) (base : Ip) → Some base ≡ base_of six text → IsSome (base_of six text)
base_accepted six text base is = is_some_base (base_of six text) base (sym is)

map_some : {A B : Type 0} (f : A → B) (o : Option A) → IsSome o → IsSome (option_map f o)
map_some f None some = absurd (cc)
map_some f (Some x) some = refl

some_of_map : {A B : Type 0} (f : A → B) (o : Option A) → IsSome (option_map f o) → IsSome o
some_of_map f None some = absurd (cc)
some_of_map f (Some x) some = refl

pub place_mapped : {A B : Type 0} (f : A → B) (of : List ℕ → Option A) (text : List ℕ) (at : ℕ) → IsLongestFront (λ other. IsSome (of other)) text at → IsLongestFront (λ other. IsSome (option_map f (of other))) text at
place_mapped f of text at p = place_same (λ other. IsSome (of other)) (λ other. IsSome (option_map f (of other))) text at (λ t h. map_some f (of t) h) (λ t h. some_of_map f (of t) h) p
