-- The places of faults: the longest prefix with which some provider id begins.
use Rattle.std.proofs.Common.{◌≡◌, ℕ, ◌+◌, ◌-◌, ◌<◌, ◌≤◌, Bool, true, false, cond, List, [], ◌∷◌, ◌++◌, length, get_or, take, drop, min, zero, suc, refl, ap, sym, subst, ◌∙◌, arith, Option, Some, None, ltb, leb, eqb, ◌&&◌, append_assoc, append-nil, length-append, ⊎_elim, inl, inr, Ok, Err}
use Rattle.std.proofs.lemmas.Bool.{cases_Bool, cond-true, cond-false, ltb-true, lt-ltb, leb-true, le-leb, eqb-true, eq-eqb, and_parts, and_from, both_ways, cases_lt, ne_eqb}
use Rattle.std.proofs.lemmas.List.{take-append-drop, take_at, drop_at, take-append-le, length-take}
use Rattle.std.proofs.Math.Seq.{get_or-append_seam, take-append-add}
use Rattle.std.proofs.lemmas.List.Sums.{prefix_len-le-length}
use Rattle.std.specs.List.{prefix_len, list_all}
use Rattle.std.specs.Option.{option_map_or}
use Rattle.std.specs.Char.{is_ascii_digit}
use Rattle.std.specs.declared.result.Result.{Result}
use Rattle.cdni_base.specs.declared.provider.ProviderId.{ProviderId}
use Rattle.cdni_base.specs.declared.provider.ProviderFault.{ProviderFault}
use Rattle.cdni_base.specs.declared.provider.ProviderFault.TheVariants.{Bad, Memory}
use Rattle.targets.specs.Endpoint.{is_name_byte}
use Rattle.listing.specs.Fronts.{IsLongestFront}
use Rattle.cdni_base.specs.Provider.{IsProvider, as_length, wrong_qualifier, wrong_number, wrong_place, ReadsProvider, ProviderStands}
use Rattle.targets.proofs.EndpointLemmas.{prefix_all, all_of_prefix}
use Rattle.targets.proofs.FrontLemmas.{take_front, prefix_from_all, all_of_take, heads, tails, ok_err, err_same}
use Rattle.cdni_base.proofs.ProviderLemmas.{digits_all, as_right, cut_at, two_more, three_more}

-- an id that is written of its parts
written : (digits qualifier : List ℕ) → 0 < length digits → length digits ≤ 10 → list_all is_ascii_digit digits ≡ true → 0 < length qualifier → length qualifier ≤ 64 → list_all is_name_byte qualifier ≡ true → IsProvider (65 ∷ 83 ∷ (digits ++ 58 ∷ qualifier))
written digits qualifier some few all some_bytes few_bytes names = (digits, qualifier, refl, omega arith, few, digits_all digits ∙ all, omega arith, few_bytes, names)

seconds : (a b c d : ℕ) (xs ys : List ℕ) → a ∷ b ∷ xs ≡ c ∷ d ∷ ys → b ≡ d
seconds a b c d xs ys e = ap (λ (zs : List ℕ). get_or zs 1 0) e

behind_two : (a b c d : ℕ) (xs ys : List ℕ) → a ∷ b ∷ xs ≡ c ∷ d ∷ ys → xs ≡ ys
behind_two a b c d xs ys e = ap (drop 2) e

-- a text that does not begin with `AS`
as_begins : IsProvider (65 ∷ 83 ∷ 48 ∷ 58 ∷ 97 ∷ [])
as_begins = written (48 ∷ []) (97 ∷ []) (omega arith) (omega arith) refl (omega arith) (omega arith) refl

nothing_front : IsLongestFront IsProvider [] 0
nothing_front = record { within = omega arith; begins = (65 ∷ 83 ∷ 48 ∷ 58 ∷ 97 ∷ [], as_begins); longest = λ n rest fits is. fits }

first_longest : (byte : ℕ) (bytes : List ℕ) → eqb byte 65 ≡ false → (n : ℕ) (rest : List ℕ) → n ≤ length (byte ∷ bytes) → IsProvider (take n (byte ∷ bytes) ++ rest) → n ≤ 0
first_longest byte bytes other zero rest fits is = omega arith
first_longest byte bytes other (suc n) rest fits is = absurd (both_ways (eqb byte 65) other (eq-eqb byte 65 (heads byte 65 (take n bytes ++ rest) (83 ∷ (is.0 ++ 58 ∷ is.1)) is.2)))

first_front : (byte : ℕ) (bytes : List ℕ) → eqb byte 65 ≡ false → IsLongestFront IsProvider (byte ∷ bytes) 0
first_front byte bytes other = record { within = omega arith; begins = (65 ∷ 83 ∷ 48 ∷ 58 ∷ 97 ∷ [], as_begins); longest = first_longest byte bytes other }

alone_front : IsLongestFront IsProvider (65 ∷ []) 1
alone_front = record { within = omega arith; begins = (83 ∷ 48 ∷ 58 ∷ 97 ∷ [], as_begins); longest = λ n rest fits is. fits }

second_longest : (byte : ℕ) (bytes : List ℕ) → eqb byte 83 ≡ false → (n : ℕ) (rest : List ℕ) → n ≤ length (65 ∷ byte ∷ bytes) → IsProvider (take n (65 ∷ byte ∷ bytes) ++ rest) → n ≤ 1
second_longest byte bytes other zero rest fits is = omega arith
second_longest byte bytes other (suc zero) rest fits is = omega arith
second_longest byte bytes other (suc (suc n)) rest fits is = absurd (both_ways (eqb byte 83) other (eq-eqb byte 83 (seconds 65 byte 65 83 (take n bytes ++ rest) (is.0 ++ 58 ∷ is.1) is.2)))

second_front : (byte : ℕ) (bytes : List ℕ) → eqb byte 83 ≡ false → IsLongestFront IsProvider (65 ∷ byte ∷ bytes) 1
second_front byte bytes other = record { within = omega arith; begins = (83 ∷ 48 ∷ 58 ∷ 97 ∷ [], as_begins); longest = second_longest byte bytes other }

-- the number
same_digits : (xs ys more other : List ℕ) → list_all is_ascii_digit xs ≡ true → list_all is_ascii_digit ys ≡ true → xs ++ 58 ∷ more ≡ ys ++ 58 ∷ other → length xs ≡ length ys
same_digits xs ys more other all also e = sym (prefix_all is_ascii_digit xs (58 ∷ more) all refl) ∙ ap (prefix_len is_ascii_digit) e ∙ prefix_all is_ascii_digit ys (58 ∷ other) also refl

number_begins : (bytes : List ℕ) (k : ℕ) → k ≤ prefix_len is_ascii_digit bytes → k ≤ 10 → (rest : List ℕ) × IsProvider (65 ∷ 83 ∷ (take k bytes ++ rest))
number_begins bytes zero within few = (48 ∷ 58 ∷ 97 ∷ [], as_begins)
number_begins bytes (suc k) within few =
    let bound = prefix_len-le-length is_ascii_digit bytes in
    let long = length-take (suc k) bytes in
    (58 ∷ 97 ∷ [], written (take (suc k) bytes) (97 ∷ []) (omega arith) (omega arith) (all_of_prefix is_ascii_digit bytes (suc k) within) (omega arith) (omega arith) refl)

abbrev is_number : List ℕ → ℕ → Bool
is_number bytes count = ltb 0 count && leb count 10 && eqb (get_or (65 ∷ 83 ∷ bytes) (count + 2) 0) 58

number_within : (bytes rest : List ℕ) (m : ℕ) → is_number bytes (prefix_len is_ascii_digit bytes) ≡ false → m ≤ length bytes → IsProvider (65 ∷ 83 ∷ (take m bytes ++ rest)) → m ≤ min (prefix_len is_ascii_digit bytes) 10
number_within bytes rest m wrong within is =
    let digits = is.0 in
    let all : list_all is_ascii_digit digits ≡ true = sym (digits_all digits) ∙ is.5 in
    let e : take m bytes ++ rest ≡ digits ++ 58 ∷ is.1 = behind_two 65 83 65 83 (take m bytes ++ rest) (digits ++ 58 ∷ is.1) is.2 in
    elim (cases_lt (length digits) m) [
      | inl past ↦ let j = length digits + 1 in
          let whole : take j (digits ++ 58 ∷ is.1) ≡ digits ++ 58 ∷ [] = ap (take j) (sym (append_assoc digits (58 ∷ []) is.1)) ∙ take_at (digits ++ 58 ∷ []) is.1 j (length-append digits (58 ∷ [])) in
          let front : take j bytes ≡ digits ++ 58 ∷ [] = take_front j m bytes rest (digits ++ 58 ∷ is.1) e (omega arith) within ∙ whole in
          let parts : bytes ≡ digits ++ 58 ∷ drop j bytes = sym (take-append-drop j bytes) ∙ ap (λ (xs : List ℕ). xs ++ drop j bytes) front ∙ append_assoc digits (58 ∷ []) (drop j bytes) in
          let count : prefix_len is_ascii_digit bytes ≡ length digits = ap (prefix_len is_ascii_digit) parts ∙ prefix_all is_ascii_digit digits (58 ∷ drop j bytes) all refl in
          let colon : get_or (65 ∷ 83 ∷ bytes) (length digits + 2) 0 ≡ 58 = ap (λ (n : ℕ). get_or (65 ∷ 83 ∷ bytes) n 0) (two_more (length digits)) ∙ ap (λ (xs : List ℕ). get_or xs (length digits) 0) parts ∙ get_or-append_seam digits 58 (drop j bytes) 0 in
          let right : is_number bytes (length digits) ≡ true = and_from _ _ (and_from _ _ (lt-ltb 0 (length digits) (omega (arith, is.3))) (le-leb (length digits) 10 is.4)) (eq-eqb (get_or (65 ∷ 83 ∷ bytes) (length digits + 2) 0) 58 colon) in
          absurd (both_ways (is_number bytes (prefix_len is_ascii_digit bytes)) wrong (ap (is_number bytes) count ∙ right))
      | inr still ↦ let front : take m bytes ≡ take m digits = take_front m m bytes rest (digits ++ 58 ∷ is.1) e (omega arith) within ∙ take-append-le m digits (58 ∷ is.1) still in
          let count = prefix_from_all is_ascii_digit m bytes (ap (list_all is_ascii_digit) front ∙ all_of_take is_ascii_digit m digits all) within in
          omega (arith, count, is.4)
    ]

number_longest : (bytes : List ℕ) → is_number bytes (prefix_len is_ascii_digit bytes) ≡ false → (n : ℕ) (rest : List ℕ) → n ≤ length (65 ∷ 83 ∷ bytes) → IsProvider (take n (65 ∷ 83 ∷ bytes) ++ rest) → n ≤ min (prefix_len is_ascii_digit bytes) 10 + 2
number_longest bytes wrong zero rest fits is = omega arith
number_longest bytes wrong (suc zero) rest fits is = omega arith
number_longest bytes wrong (suc (suc m)) rest fits is = omega (arith, number_within bytes rest m wrong (omega arith) is)

number_front : (bytes : List ℕ) → is_number bytes (prefix_len is_ascii_digit bytes) ≡ false → IsLongestFront IsProvider (65 ∷ 83 ∷ bytes) (min (prefix_len is_ascii_digit bytes) 10 + 2)
number_front bytes wrong =
    let k = min (prefix_len is_ascii_digit bytes) 10 in
    let bound = prefix_len-le-length is_ascii_digit bytes in
    record {
      within = omega arith;
      begins = subst (λ (n : ℕ). (rest : List ℕ) × IsProvider (take n (65 ∷ 83 ∷ bytes) ++ rest)) (sym (two_more k)) (number_begins bytes k (omega arith) (omega arith));
      longest = number_longest bytes wrong;
    }

-- the qualifier
qualifier_begins : (digits bytes : List ℕ) (k : ℕ) → 0 < length digits → length digits ≤ 10 → list_all is_ascii_digit digits ≡ true → k ≤ prefix_len is_name_byte bytes → k ≤ 64 → (rest : List ℕ) × IsProvider (65 ∷ 83 ∷ (digits ++ 58 ∷ (take k bytes ++ rest)))
qualifier_begins digits bytes zero some few all within short = (97 ∷ [], written digits (97 ∷ []) some few all (omega arith) (omega arith) refl)
qualifier_begins digits bytes (suc k) some few all within short =
    let bound = prefix_len-le-length is_name_byte bytes in
    let long = length-take (suc k) bytes in
    let same : take (suc k) bytes ++ [] ≡ take (suc k) bytes = append-nil (take (suc k) bytes) in
    ([], subst (λ (xs : List ℕ). IsProvider (65 ∷ 83 ∷ (digits ++ 58 ∷ xs))) (sym same) (written digits (take (suc k) bytes) some few all (omega arith) (omega arith) (all_of_prefix is_name_byte bytes (suc k) within)))

qualifier_within : (digits bytes rest : List ℕ) (m : ℕ) → list_all is_ascii_digit digits ≡ true → m ≤ length bytes → IsProvider (65 ∷ 83 ∷ (digits ++ 58 ∷ (take m bytes ++ rest))) → m ≤ min (prefix_len is_name_byte bytes) 64
qualifier_within digits bytes rest m all within is =
    let e : digits ++ 58 ∷ (take m bytes ++ rest) ≡ is.0 ++ 58 ∷ is.1 = behind_two 65 83 65 83 (digits ++ 58 ∷ (take m bytes ++ rest)) (is.0 ++ 58 ∷ is.1) is.2 in
    let size = same_digits digits is.0 (take m bytes ++ rest) is.1 all (sym (digits_all is.0) ∙ is.5) e in
    let tail : 58 ∷ (take m bytes ++ rest) ≡ 58 ∷ is.1 = sym (drop_at digits (58 ∷ (take m bytes ++ rest)) (length digits) refl) ∙ ap (drop (length digits)) e ∙ ap (λ (n : ℕ). drop n (is.0 ++ 58 ∷ is.1)) size ∙ drop_at is.0 (58 ∷ is.1) (length is.0) refl in
    let same : take m bytes ++ rest ≡ is.1 = tails 58 58 (take m bytes ++ rest) is.1 tail in
    let front : take m bytes ≡ take m is.1 = take_front m m bytes rest is.1 same (omega arith) within in
    let count = prefix_from_all is_name_byte m bytes (ap (list_all is_name_byte) front ∙ all_of_take is_name_byte m is.1 is.8) within in
    let long : m ≤ length is.1 = omega (arith, length-take m bytes, length-append (take m bytes) rest, ap length same) in
    omega (arith, count, is.7)

abbrev id_text : List ℕ → List ℕ → List ℕ
id_text digits bytes = 65 ∷ 83 ∷ (digits ++ 58 ∷ bytes)

id_parts : (digits bytes : List ℕ) → id_text digits bytes ≡ (65 ∷ 83 ∷ (digits ++ 58 ∷ [])) ++ bytes
id_parts digits bytes = ap (λ (xs : List ℕ). 65 ∷ 83 ∷ xs) (sym (append_assoc digits (58 ∷ []) bytes))

id_size : (digits : List ℕ) → length (65 ∷ 83 ∷ (digits ++ 58 ∷ [])) ≡ length digits + 3
id_size digits = omega (arith, length-append digits (58 ∷ []))

id_take : (digits bytes rest : List ℕ) (m : ℕ) → take (length digits + 3 + m) (id_text digits bytes) ++ rest ≡ id_text digits (take m bytes ++ rest)
id_take digits bytes rest m =
    let front = 65 ∷ 83 ∷ (digits ++ 58 ∷ []) in
    ap (λ (k : ℕ). take (k + m) (id_text digits bytes) ++ rest) (sym (id_size digits)) ∙ ap (λ (xs : List ℕ). take (length front + m) xs ++ rest) (id_parts digits bytes) ∙ ap (λ (xs : List ℕ). xs ++ rest) (take-append-add front bytes m) ∙ append_assoc front (take m bytes) rest ∙ sym (id_parts digits (take m bytes ++ rest))

qualifier_longest : (digits bytes : List ℕ) → list_all is_ascii_digit digits ≡ true → (n : ℕ) (rest : List ℕ) → n ≤ length (id_text digits bytes) → IsProvider (take n (id_text digits bytes) ++ rest) → n ≤ length digits + 3 + min (prefix_len is_name_byte bytes) 64
qualifier_longest digits bytes all n rest fits is = elim (cases_lt (length digits + 3) n) [
  | inr short ↦ omega arith
  | inl past ↦ let m = n - (length digits + 3) in
      let size : n ≡ length digits + 3 + m = omega arith in
      let whole = ap (λ (k : ℕ). take k (id_text digits bytes) ++ rest) size ∙ id_take digits bytes rest m in
      let within : m ≤ length bytes = omega (arith, length-append digits (58 ∷ bytes)) in
      omega (arith, qualifier_within digits bytes rest m all within (subst IsProvider whole is))
]

qualifier_front : (digits bytes : List ℕ) → 0 < length digits → length digits ≤ 10 → list_all is_ascii_digit digits ≡ true → IsLongestFront IsProvider (id_text digits bytes) (length digits + 3 + min (prefix_len is_name_byte bytes) 64)
qualifier_front digits bytes some few all =
    let k = min (prefix_len is_name_byte bytes) 64 in
    let bound = prefix_len-le-length is_name_byte bytes in
    let more = qualifier_begins digits bytes k some few all (omega arith) (omega arith) in
    record {
      within = omega (arith, length-append digits (58 ∷ bytes));
      begins = (more.0, subst IsProvider (sym (id_take digits bytes more.0 k)) more.1);
      longest = qualifier_longest digits bytes all;
    }

-- the place that is found is that place
some_same : (a b : ℕ) → Some a ≡ Some b → a ≡ b
some_same a b h = cc

none_some : (a : ℕ) → None ≡ Some a → ⊥
none_some a h = cc

wrong_of : (b : Bool) (x at : ℕ) → cond b None (Some x) ≡ Some at → x ≡ at
wrong_of true x at e = absurd (none_some at e)
wrong_of false x at e = some_same x at e

number_stands : (bytes : List ℕ) (at : ℕ) → wrong_number (65 ∷ 83 ∷ bytes) (prefix_len is_ascii_digit bytes) ≡ Some at → IsLongestFront IsProvider (65 ∷ 83 ∷ bytes) at
number_stands bytes at e =
    let text = 65 ∷ 83 ∷ bytes in
    let count = prefix_len is_ascii_digit bytes in
    let size = prefix_len is_name_byte (drop (count + 3) text) in
    ⊎_elim (λ right.
    let counted = and_parts (ltb 0 count && leb count 10) (eqb (get_or text (count + 2) 0) 58) right in
    let range = and_parts (ltb 0 count) (leb count 10) counted.0 in
    let colon : get_or bytes count 0 ≡ 58 = ap (λ (n : ℕ). get_or text n 0) (sym (two_more count)) ∙ eqb-true (get_or text (count + 2) 0) 58 counted.1 in
    let digits = take count bytes in
    let qualifier = drop (count + 1) bytes in
    let parts : bytes ≡ digits ++ 58 ∷ qualifier = cut_at bytes count colon in
    let long : length digits ≡ count = omega (arith, length-take count bytes, prefix_len-le-length is_ascii_digit bytes) in
    let tail : drop (count + 3) text ≡ qualifier = ap (λ (n : ℕ). drop n text) (three_more count) in
    let place : count + 3 + min size 64 ≡ at = wrong_of (ltb 0 size && leb size 64 && eqb (count + 3 + size) (length text)) (count + 3 + min size 64) at (sym (cond-true (is_number bytes count) (wrong_qualifier text (count + 3) size) (Some (min count 10 + 2)) right) ∙ e) in
    let same : length digits + 3 + min (prefix_len is_name_byte qualifier) 64 ≡ at = omega (arith, long, ap (prefix_len is_name_byte) tail, place) in
    let front = qualifier_front digits qualifier (omega (arith, long, ltb-true 0 count range.0)) (omega (arith, long, leb-true count 10 range.1)) (all_of_prefix is_ascii_digit bytes count (omega arith)) in
    subst (λ (t : List ℕ). IsLongestFront IsProvider t at) (ap (λ (xs : List ℕ). 65 ∷ 83 ∷ xs) (sym parts)) (subst (IsLongestFront IsProvider (id_text digits qualifier)) same front))
    (λ wrong. subst (IsLongestFront IsProvider text) (some_same (min count 10 + 2) at (sym (cond-false (is_number bytes count) (wrong_qualifier text (count + 3) size) (Some (min count 10 + 2)) wrong) ∙ e)) (number_front bytes wrong)) (cases_Bool (is_number bytes count))

no_as : (text : List ℕ) (n at : ℕ) → as_length text ≡ n → n < 2 → wrong_place text ≡ Some at → n ≡ at
unfolding wrong_place
no_as text n at e small h =
    let other : eqb (as_length text) 2 ≡ false = ne_eqb (as_length text) 2 (λ two. omega arith) in
    sym e ∙ some_same (as_length text) at (sym (cond-false (eqb (as_length text) 2) (wrong_number text (prefix_len is_ascii_digit (drop 2 text))) (Some (as_length text)) other) ∙ h)

provider_stands_at : (text : List ℕ) (at : ℕ) → wrong_place text ≡ Some at → IsLongestFront IsProvider text at
provider_stands_at [] at e = subst (IsLongestFront IsProvider []) (no_as [] 0 at refl (omega arith) e) nothing_front
provider_stands_at (a ∷ []) at e =
    ⊎_elim (λ here. subst (λ (b : ℕ). IsLongestFront IsProvider (b ∷ []) at) (sym (eqb-true a 65 here)) (subst (IsLongestFront IsProvider (65 ∷ [])) (no_as (a ∷ []) 1 at (cond-true (eqb a 65) 1 0 here) (omega arith) e) alone_front))
    (λ gone. subst (IsLongestFront IsProvider (a ∷ [])) (no_as (a ∷ []) 0 at (cond-false (eqb a 65) 1 0 gone) (omega arith) e) (first_front a [] gone)) (cases_Bool (eqb a 65))
provider_stands_at (a ∷ b ∷ bytes) at e =
    ⊎_elim (λ here. with_a a b bytes at here e) (λ gone. subst (IsLongestFront IsProvider (a ∷ b ∷ bytes)) (no_as (a ∷ b ∷ bytes) 0 at (cond-false (eqb a 65) (cond (eqb b 83) 2 1) 0 gone) (omega arith) e) (first_front a (b ∷ bytes) gone)) (cases_Bool (eqb a 65))
  where
    with_s : (bytes : List ℕ) (at : ℕ) → wrong_place (65 ∷ 83 ∷ bytes) ≡ Some at → IsLongestFront IsProvider (65 ∷ 83 ∷ bytes) at
    with_s bytes at e = number_stands bytes at (sym (as_right bytes) ∙ e)

    with_a : (a b : ℕ) (bytes : List ℕ) (at : ℕ) → eqb a 65 ≡ true → wrong_place (a ∷ b ∷ bytes) ≡ Some at → IsLongestFront IsProvider (a ∷ b ∷ bytes) at
    with_a a b bytes at first e =
        let is_a = eqb-true a 65 first in
        ⊎_elim (λ here.
        let is_s = eqb-true b 83 here in
        let same : a ∷ b ∷ bytes ≡ 65 ∷ 83 ∷ bytes = ap (λ (x : ℕ). x ∷ b ∷ bytes) is_a ∙ ap (λ (x : ℕ). 65 ∷ x ∷ bytes) is_s in
        subst (λ (t : List ℕ). IsLongestFront IsProvider t at) (sym same) (with_s bytes at (ap wrong_place (sym same) ∙ e)))
        (λ gone.
        let one : as_length (a ∷ b ∷ bytes) ≡ 1 = cond-true (eqb a 65) (cond (eqb b 83) 2 1) 0 first ∙ cond-false (eqb b 83) 2 1 gone in
        subst (IsLongestFront IsProvider (a ∷ b ∷ bytes)) (no_as (a ∷ b ∷ bytes) 1 at one (omega arith) e) (subst (λ (x : ℕ). IsLongestFront IsProvider (x ∷ b ∷ bytes) 1) (sym is_a) (second_front b bytes gone))) (cases_Bool (eqb b 83))

bad_same : (a b : ℕ) → Bad a ≡ Bad b → a ≡ b
bad_same a b h = cc

abbrev answer_at : List ℕ → Option ℕ → Result ProviderId ProviderFault
answer_at text place = option_map_or (λ at. Err (Bad at)) place (Ok (record { 0 = text }))

fault_at : (text : List ℕ) (place : Option ℕ) (at : ℕ) → answer_at text place ≡ Err (Bad at) → place ≡ Some at
fault_at text None at e = absurd (ok_err (record { 0 = text }) (Bad at) e)
fault_at text (Some n) at e = ap Some (bad_same n at (err_same (Bad n) (Bad at) e))

-- where the faults of a reader stand
pub provider_stands : (text : List ℕ) (result : Result ProviderId ProviderFault) → ReadsProvider text result → ProviderStands text result
provider_stands text (Ok id) e = tt
provider_stands text (Err (Bad at)) e = provider_stands_at text at (fault_at text (wrong_place text) at e)
provider_stands text (Err Memory) e = tt
