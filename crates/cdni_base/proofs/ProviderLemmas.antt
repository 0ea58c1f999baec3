-- The grammar of provider ids against its reading.
use Rattle.std.proofs.Common.{◌≡◌, ℕ, ◌+◌, ◌<◌, ◌≤◌, Bool, true, false, cond, List, [], ◌∷◌, ◌++◌, length, get_or, take, drop, min, zero, suc, refl, ap, sym, subst, ◌∙◌, arith, Option, Some, None, ltb, leb, eqb, ◌&&◌, append_assoc, add-one, append-nil, length-append, length-drop, Ok, Err}
use Rattle.std.proofs.lemmas.Bool.{cond-true, ltb-true, lt-ltb, leb-true, le-leb, eqb-true, eq-eqb, and_parts, and_from, both_ways}
use Rattle.std.proofs.lemmas.List.{take-append-drop, drop_at, length-take, drop-drop}
use Rattle.std.proofs.Math.Seq.{get_or-append_seam, take-suc, take-length}
use Rattle.std.proofs.lemmas.List.Sums.{prefix_len-le-length}
use Rattle.std.specs.List.{prefix_len, list_all}
use Rattle.std.specs.Option.{option_map_or}
use Rattle.std.specs.Char.{is_ascii_digit}
use Rattle.std.specs.Str.{all_ascii_digits}
use Rattle.std.specs.declared.result.Result.{Result}
use Rattle.cdni_base.specs.declared.provider.ProviderId.{ProviderId}
use Rattle.cdni_base.specs.declared.provider.ProviderFault.{ProviderFault}
use Rattle.cdni_base.specs.declared.provider.ProviderFault.TheVariants.{Bad, Memory}
use Rattle.targets.specs.Endpoint.{is_name_byte}
use Rattle.cdni_base.specs.Provider.{IsProvider, IsProviderId, as_length, wrong_qualifier, wrong_number, wrong_place, provider_of, ReadsProvider, AnswersProvider}
use Rattle.targets.proofs.EndpointLemmas.{ok_same, err_ok, prefix_all, all_of_prefix}

-- digits as bytes that are all digits
pub digits_all : (digits : List ℕ) → all_ascii_digits digits ≡ list_all is_ascii_digit digits
digits_all [] = refl
digits_all (byte ∷ bytes) = ap (λ (x : Bool). is_ascii_digit byte && x) (digits_all bytes)

prefix_whole : (test : ℕ → Bool) (text : List ℕ) → list_all test text ≡ true → prefix_len test text ≡ length text
prefix_whole test text all = ap (prefix_len test) (sym (append-nil text)) ∙ prefix_all test text [] all refl

behind : (digits qualifier : List ℕ) → drop (length digits + 1) (digits ++ 58 ∷ qualifier) ≡ qualifier
behind digits qualifier = sym (drop-drop 1 (length digits) (digits ++ 58 ∷ qualifier)) ∙ ap (drop 1) (drop_at digits (58 ∷ qualifier) (length digits) refl)

-- an id has no wrong place
qualifier_right : (text : List ℕ) (start count : ℕ) → 0 < count → count ≤ 64 → start + count ≡ length text → wrong_qualifier text start count ≡ None
qualifier_right text start count some fits ends =
    cond-true (ltb 0 count && leb count 64 && eqb (start + count) (length text)) None (Some (start + min count 64)) (and_from _ _ (and_from _ _ (lt-ltb 0 count some) (le-leb count 64 fits)) (eq-eqb (start + count) (length text) ends))

number_right : (text : List ℕ) (count size : ℕ) → 0 < count → count ≤ 10 → get_or text (count + 2) 0 ≡ 58 → prefix_len is_name_byte (drop (count + 3) text) ≡ size → 0 < size → size ≤ 64 → count + 3 + size ≡ length text → wrong_number text count ≡ None
number_right text count size some fits colon long some_size fits_size ends =
    cond-true (ltb 0 count && leb count 10 && eqb (get_or text (count + 2) 0) 58) (wrong_qualifier text (count + 3) (prefix_len is_name_byte (drop (count + 3) text))) (Some (min count 10 + 2)) (and_from _ _ (and_from _ _ (lt-ltb 0 count some) (le-leb count 10 fits)) (eq-eqb (get_or text (count + 2) 0) 58 colon))
    ∙ ap (wrong_qualifier text (count + 3)) long ∙ qualifier_right text (count + 3) size some_size fits_size ends

pub as_right : (rest : List ℕ) → wrong_place (65 ∷ 83 ∷ rest) ≡ wrong_number (65 ∷ 83 ∷ rest) (prefix_len is_ascii_digit rest)
unfolding wrong_place
as_right rest = refl

pub two_more : (n : ℕ) → n + 2 ≡ suc (suc n)
two_more n = omega arith

pub three_more : (n : ℕ) → n + 3 ≡ suc (suc (n + 1))
three_more n = omega arith

written_right : (digits qualifier : List ℕ) → 0 < length digits → length digits ≤ 10 → all_ascii_digits digits ≡ true → 0 < length qualifier → length qualifier ≤ 64 → list_all is_name_byte qualifier ≡ true → wrong_place (65 ∷ 83 ∷ (digits ++ 58 ∷ qualifier)) ≡ None
written_right digits qualifier some fits all some_bytes fits_bytes names =
    let rest = digits ++ 58 ∷ qualifier in
    let text = 65 ∷ 83 ∷ rest in
    let count : prefix_len is_ascii_digit rest ≡ length digits = prefix_all is_ascii_digit digits (58 ∷ qualifier) (sym (digits_all digits) ∙ all) refl in
    let colon : get_or text (length digits + 2) 0 ≡ 58 = ap (λ (n : ℕ). get_or text n 0) (two_more (length digits)) ∙ get_or-append_seam digits 58 qualifier 0 in
    let tail : drop (length digits + 3) text ≡ qualifier = ap (λ (n : ℕ). drop n text) (three_more (length digits)) ∙ behind digits qualifier in
    let size : prefix_len is_name_byte (drop (length digits + 3) text) ≡ length qualifier = ap (prefix_len is_name_byte) tail ∙ prefix_whole is_name_byte qualifier names in
    as_right rest ∙ ap (wrong_number text) count ∙ number_right text (length digits) (length qualifier) some fits colon size some_bytes fits_bytes (omega (arith, length-append digits (58 ∷ qualifier)))

pub provider_right : (text : List ℕ) → IsProvider text → wrong_place text ≡ None
provider_right text is = ap wrong_place is.2 ∙ written_right is.0 is.1 (omega (arith, is.3)) is.4 is.5 (omega (arith, is.6)) is.7 is.8

-- a text without a wrong place is an id
guarded_none : (b : Bool) (read : Option ℕ) (at : ℕ) → cond b read (Some at) ≡ None → (b ≡ true) × (read ≡ None)
guarded_none true read at e = (refl, e)
guarded_none false read at e = absurd (cc)

two_of : (x y : Bool) → ◌≡◌ {A = ℕ} (cond x (cond y 2 1) 0) 2 → (x ≡ true) × (y ≡ true)
two_of true true e = (refl, refl)
two_of true false e = absurd (omega (arith, e))
two_of false y e = absurd (omega (arith, e))

as_first : (text : List ℕ) → as_length text ≡ 2 → (rest : List ℕ) × (text ≡ 65 ∷ 83 ∷ rest)
as_first [] e = absurd (omega (arith, e))
as_first (a ∷ []) e = absurd (both_ways (eqb 0 83) refl (two_of (eqb a 65) (eqb 0 83) e).1)
as_first (a ∷ b ∷ rest) e =
    let both = two_of (eqb a 65) (eqb b 83) e in
    (rest, ap (λ (x : ℕ). x ∷ b ∷ rest) (eqb-true a 65 both.0) ∙ ap (λ (x : ℕ). 65 ∷ x ∷ rest) (eqb-true b 83 both.1))

past_end : (bytes : List ℕ) (n : ℕ) → get_or bytes n 0 ≡ 58 → n < length bytes
past_end [] n h = absurd (omega (arith, h))
past_end (x ∷ xs) zero h = omega arith
past_end (x ∷ xs) (suc n) h = omega (arith, past_end xs n h)

-- a list is cut at a byte
pub cut_at : (bytes : List ℕ) (n : ℕ) → get_or bytes n 0 ≡ 58 → bytes ≡ take n bytes ++ 58 ∷ drop (n + 1) bytes
cut_at bytes n h =
    let front : take (n + 1) bytes ≡ take n bytes ++ 58 ∷ [] = ap (λ (k : ℕ). take k bytes) (add-one n) ∙ take-suc bytes n 0 (past_end bytes n h) ∙ ap (λ (b : ℕ). take n bytes ++ b ∷ []) h in
    sym (take-append-drop (n + 1) bytes) ∙ ap (λ (xs : List ℕ). xs ++ drop (n + 1) bytes) front ∙ append_assoc (take n bytes) (58 ∷ []) (drop (n + 1) bytes)

all_taken : (text : List ℕ) (n : ℕ) → prefix_len is_name_byte text ≡ n → n ≡ length text → list_all is_name_byte text ≡ true
all_taken text n e long =
    let whole : length text ≤ prefix_len is_name_byte text = omega arith in
    subst (λ (xs : List ℕ). list_all is_name_byte xs ≡ true) (take-length text) (all_of_prefix is_name_byte text (length text) whole)

right_number : (rest : List ℕ) → wrong_number (65 ∷ 83 ∷ rest) (prefix_len is_ascii_digit rest) ≡ None → IsProvider (65 ∷ 83 ∷ rest)
right_number rest e =
    let text = 65 ∷ 83 ∷ rest in
    let count = prefix_len is_ascii_digit rest in
    let size = prefix_len is_name_byte (drop (count + 3) text) in
    let number = guarded_none (ltb 0 count && leb count 10 && eqb (get_or text (count + 2) 0) 58) (wrong_qualifier text (count + 3) size) (min count 10 + 2) e in
    let counted = and_parts (ltb 0 count && leb count 10) (eqb (get_or text (count + 2) 0) 58) number.0 in
    let range = and_parts (ltb 0 count) (leb count 10) counted.0 in
    let colon : get_or rest count 0 ≡ 58 = ap (λ (n : ℕ). get_or text n 0) (sym (two_more count)) ∙ eqb-true (get_or text (count + 2) 0) 58 counted.1 in
    let qualifier = drop (count + 1) rest in
    let same : drop (count + 3) text ≡ qualifier = ap (λ (n : ℕ). drop n text) (three_more count) in
    let named = guarded_none (ltb 0 size && leb size 64 && eqb (count + 3 + size) (length text)) None (count + 3 + min size 64) number.1 in
    let sized = and_parts (ltb 0 size && leb size 64) (eqb (count + 3 + size) (length text)) named.0 in
    let bounds = and_parts (ltb 0 size) (leb size 64) sized.0 in
    let ends : count + 3 + size ≡ length text = eqb-true (count + 3 + size) (length text) sized.1 in
    let long : size ≡ length qualifier = omega (arith, ends, length-drop (count + 1) rest) in
    let names = all_taken qualifier size (ap (prefix_len is_name_byte) (sym same)) long in
    let within = prefix_len-le-length is_ascii_digit rest in
    let counted_digits : length (take count rest) ≡ count = omega (arith, length-take count rest, within) in
    let digits : all_ascii_digits (take count rest) ≡ true = digits_all (take count rest) ∙ all_of_prefix is_ascii_digit rest count (omega arith) in
    (take count rest, qualifier, ap (λ (xs : List ℕ). 65 ∷ 83 ∷ xs) (cut_at rest count colon), omega (arith, counted_digits, ltb-true 0 count range.0), omega (arith, counted_digits, leb-true count 10 range.1), digits, omega (arith, long, ltb-true 0 size bounds.0), omega (arith, long, leb-true size 64 bounds.1), names)

starts_right : (text : List ℕ) → wrong_place text ≡ None → as_length text ≡ 2
unfolding wrong_place
starts_right text e = eqb-true (as_length text) 2 (guarded_none (eqb (as_length text) 2) (wrong_number text (prefix_len is_ascii_digit (drop 2 text))) (as_length text) e).0

pub right_provider : (text : List ℕ) → wrong_place text ≡ None → IsProvider text
right_provider text e =
    let first = as_first text (starts_right text e) in
    subst IsProvider (sym first.1) (right_number first.0 (sym (as_right first.0) ∙ ap wrong_place (sym first.1) ∙ e))

abbrev answer_at : List ℕ → Option ℕ → Result ProviderId ProviderFault
answer_at text place = option_map_or (λ at. Err (Bad at)) place (Ok (record { 0 = text }))

provider_at : (text : List ℕ) (place : Option ℕ) (id : ProviderId) → wrong_place text ≡ place → answer_at text place ≡ Ok id → IsProviderId text id
provider_at text None id e h = (right_provider text e, sym (ap (λ (x : ProviderId). x.0) (ok_same (record { 0 = text }) id h)))
provider_at text (Some at) id e h = absurd (err_ok id (Bad at) h)

pub provider_is_read : (text : List ℕ) (id : ProviderId) → IsProviderId text id → provider_of text ≡ Ok id
provider_is_read text id is = ap (answer_at text) (provider_right text is.0) ∙ ap (λ (x : List ℕ). Ok (record { 0 = x })) (sym is.1)

-- what a reader answers, in the words of the grammar
pub provider_answers : (text : List ℕ) (result : Result ProviderId ProviderFault) → ReadsProvider text result → AnswersProvider text result
provider_answers text (Ok id) e = provider_at text (wrong_place text) id refl e
provider_answers text (Err (Bad at)) e = λ id is. err_ok id (Bad at) (sym e ∙ provider_is_read text id is)
provider_answers text (Err Memory) e = tt

pub one_provider_id : (text : List ℕ) (id other : ProviderId) → IsProviderId text id → IsProviderId text other → id ≡ other
one_provider_id text id other is also = ap (λ (x : List ℕ). record { 0 = x }) (is.1 ∙ sym also.1)
