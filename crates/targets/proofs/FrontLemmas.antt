-- The places of faults: the longest prefix with which some endpoint begins.
use Rattle.std.proofs.Common.{◌≡◌, ℕ, ◌+◌, ◌-◌, ◌*◌, ◌<◌, ◌≤◌, Bool, true, false, List, [], ◌∷◌, ◌++◌, length, get_or, take, drop, min, zero, suc, refl, ap, sym, subst, ◌∙◌, arith, Option, Some, None, ltb, leb, eqb, ◌&&◌, ◌||◌, append_assoc, append-nil, length-append, add-one, ⊎_elim, inl, inr, ◌⊎◌, Ok, Err}
use Rattle.std.proofs.lemmas.Bool.{cases_Bool, cond-true, cond-false, ltb-true, lt-ltb, leb-true, le-leb, eqb-true, eq-eqb, and_parts, and_from, or_cases, or_left, or_right, both_ways, cases_lt}
use Rattle.std.proofs.lemmas.List.{take-append-drop, take_at, drop_at, take-take, take-append-le, length-take}
use Rattle.std.proofs.Math.Seq.{take-append-add}
use Rattle.std.proofs.lemmas.List.Sums.{prefix_len-le-length}
use Rattle.std.specs.List.{prefix_len, list_all}
use Rattle.std.specs.Char.{is_ascii_digit}
use Rattle.std.specs.Str.{str_to_ascii_lowercase, all_ascii_digits}
use Rattle.std.specs.declared.result.Result.{Result}
use Rattle.targets.specs.declared.endpoint.Endpoint.{Endpoint}
use Rattle.targets.specs.declared.endpoint.EndpointFault.{EndpointFault}
use Rattle.targets.specs.declared.endpoint.EndpointFault.TheVariants.{BadHost, BadPort, Memory}
use Rattle.targets.specs.Endpoint.{is_name_byte, is_address_byte, host_length, host_front, port_front, port_number, port_of_digits, port_of, endpoint_at, endpoint_of, ReadsEndpoint}
use Rattle.targets.specs.Grammar.{IsName, IsBracketed, IsHost, IsPort, IsPortPart}
use Rattle.listing.specs.Fronts.{IsLongestFront}
use Rattle.targets.specs.Fronts.{IsSomeEndpoint, StandsAtFront}
use Rattle.targets.proofs.EndpointLemmas.{all_of_prefix, folded, folded-le, value_is, host_of_length, first_cases, host_length-le, host_is_read, bracketed_is_read, name_length, host_rest, name_first, endpoint_parts, no_endpoint, port_after, no_port_after, no_port, of_number, digits_port}

-- a prefix of both sides
pub take_front : (j m : ℕ) (xs rest ys : List ℕ) → take m xs ++ rest ≡ ys → j ≤ m → m ≤ length xs → take j xs ≡ take j ys
take_front j m xs rest ys e within fits =
    let long = length-take m xs in
    sym (take-take j m xs within) ∙ sym (take-append-le j (take m xs) rest (omega arith)) ∙ ap (take j) e

pub prefix_from_all : (test : ℕ → Bool) (n : ℕ) (xs : List ℕ) → list_all test (take n xs) ≡ true → n ≤ length xs → n ≤ prefix_len test xs
prefix_from_all test zero xs h fits = omega arith
prefix_from_all test (suc n) [] h fits = absurd (omega arith)
prefix_from_all test (suc n) (x ∷ xs) h fits =
    let p = and_parts (test x) (list_all test (take n xs)) h in
    let rest = prefix_from_all test n xs p.1 (omega arith) in
    omega (arith, cond-true (test x) (1 + prefix_len test xs) 0 p.0)

pub all_of_take : (test : ℕ → Bool) (n : ℕ) (xs : List ℕ) → list_all test xs ≡ true → list_all test (take n xs) ≡ true
all_of_take test zero xs h = refl
all_of_take test (suc n) [] h = refl
all_of_take test (suc n) (x ∷ xs) h = let p = and_parts (test x) (list_all test xs) h in and_from (test x) (list_all test (take n xs)) p.0 (all_of_take test n xs p.1)

all_append : (test : ℕ → Bool) (xs ys : List ℕ) → list_all test xs ≡ true → list_all test ys ≡ true → list_all test (xs ++ ys) ≡ true
all_append test [] ys h k = k
all_append test (x ∷ xs) ys h k = let p = and_parts (test x) (list_all test xs) h in and_from (test x) (list_all test (xs ++ ys)) p.0 (all_append test xs ys p.1 k)

pub heads : (a b : ℕ) (xs ys : List ℕ) → a ∷ xs ≡ b ∷ ys → a ≡ b
heads a b xs ys e = ap (λ (zs : List ℕ). get_or zs 0 0) e

pub tails : (a b : ℕ) (xs ys : List ℕ) → a ∷ xs ≡ b ∷ ys → xs ≡ ys
tails a b xs ys e = ap (drop 1) e

-- the first byte of a host
first_of_host : (byte : ℕ) (bytes host rest : List ℕ) → byte ∷ bytes ≡ host ++ rest → IsHost host → (is_name_byte byte ≡ true) ⊎ (byte ≡ 91)
first_of_host byte bytes [] rest e (inl name) = absurd (omega (arith, name.0))
first_of_host byte bytes (x ∷ xs) rest e (inl name) = inl (ap is_name_byte (heads byte x bytes (xs ++ rest) e) ∙ (and_parts (is_name_byte x) (list_all is_name_byte xs) name.2).0)
first_of_host byte bytes host rest e (inr bracketed) = inr (heads byte 91 bytes ((bracketed.0 ++ 93 ∷ []) ++ rest) (e ∙ ap (λ (xs : List ℕ). xs ++ rest) bracketed.1))

-- short endpoints
one_letter : IsSomeEndpoint (97 ∷ [])
one_letter = (record { host = 97 ∷ []; port = None }, (97 ∷ [], [], refl, inl (omega arith, omega arith, refl), refl, inl refl))

lone_host : (host : List ℕ) → IsHost host → IsSomeEndpoint host
lone_host host is = (record { host = str_to_ascii_lowercase host; port = None }, (host, [], sym (append-nil host), is, refl, inl refl))

with_port : (host rest : List ℕ) (port : Option ℕ) → IsHost host → IsPortPart rest port → IsSomeEndpoint (host ++ rest)
with_port host rest port is part = (record { host = str_to_ascii_lowercase host; port = port }, (host, rest, refl, is, refl, part))

address_host : (address : List ℕ) → 0 < length address → length address ≤ 253 → list_all is_address_byte address ≡ true → IsHost (91 ∷ (address ++ 93 ∷ []))
address_host address some fits all = let long = length-append address (93 ∷ []) in inr (address, refl, some, omega arith, all)

-- a text that begins with no host and no bracket
bad_name : (byte : ℕ) (bytes : List ℕ) → eqb byte 91 ≡ false → host_length (byte ∷ bytes) ≡ 0 → is_name_byte byte ≡ false
bad_name byte bytes other none =
    ⊎_elim (λ here. absurd (omega (arith, name_length byte bytes other, cond-true (is_name_byte byte) (1 + prefix_len is_name_byte bytes) 0 here))) (λ gone. gone) (cases_Bool (is_name_byte byte))

no_front : (byte : ℕ) (bytes : List ℕ) → eqb byte 91 ≡ false → host_front (byte ∷ bytes) ≡ 0
unfolding host_front
no_front byte bytes other = cond-false (eqb byte 91) _ 0 other

no_front_of_nothing : host_front [] ≡ 0
unfolding host_front
no_front_of_nothing = refl

front_of_bracket : (bytes : List ℕ) → host_front (91 ∷ bytes) ≡ min (prefix_len is_address_byte bytes + 1) 254
unfolding host_front
front_of_bracket bytes = refl

nothing_longer : (byte : ℕ) (bytes : List ℕ) → eqb byte 91 ≡ false → is_name_byte byte ≡ false → (n : ℕ) (rest : List ℕ) → n ≤ length (byte ∷ bytes) → IsSomeEndpoint (take n (byte ∷ bytes) ++ rest) → n ≤ 0
nothing_longer byte bytes other bad zero rest fits is = omega arith
nothing_longer byte bytes other bad (suc n) rest fits is =
    elim (first_of_host byte (take n bytes ++ rest) is.1.0 is.1.1 is.1.2 is.1.3) [
      | inl name ↦ absurd (both_ways (is_name_byte byte) bad name)
      | inr bracket ↦ absurd (both_ways (eqb byte 91) other (eq-eqb byte 91 bracket))
    ]

bad_byte_front : (byte : ℕ) (bytes : List ℕ) → eqb byte 91 ≡ false → host_length (byte ∷ bytes) ≡ 0 → IsLongestFront IsSomeEndpoint (byte ∷ bytes) 0
bad_byte_front byte bytes other none = record { within = omega arith; begins = (97 ∷ [], one_letter); longest = nothing_longer byte bytes other (bad_name byte bytes other none) }

nothing_front : IsLongestFront IsSomeEndpoint [] 0
nothing_front = record { within = omega arith; begins = (97 ∷ [], one_letter); longest = λ n rest fits is. fits }

-- a text that begins with a bracket and no host
bracket_begins : (bytes : List ℕ) (k : ℕ) → k ≤ prefix_len is_address_byte bytes → k ≤ 253 → (rest : List ℕ) × IsSomeEndpoint (take (suc k) (91 ∷ bytes) ++ rest)
bracket_begins bytes zero within fits = (49 ∷ 93 ∷ [], lone_host (91 ∷ 49 ∷ 93 ∷ []) (address_host (49 ∷ []) (omega arith) (omega arith) refl))
bracket_begins bytes (suc k) within fits =
    let bound = prefix_len-le-length is_address_byte bytes in
    let long = length-take (suc k) bytes in
    (93 ∷ [], lone_host (91 ∷ (take (suc k) bytes ++ 93 ∷ [])) (address_host (take (suc k) bytes) (omega arith) (omega arith) (all_of_prefix is_address_byte bytes (suc k) within)))

name_bracket : (bytes host after : List ℕ) → 91 ∷ bytes ≡ host ++ after → IsName host → ⊥
name_bracket bytes [] after e name = absurd (omega (arith, name.0))
name_bracket bytes (x ∷ xs) after e name =
    let h = ap is_name_byte (heads 91 x bytes (xs ++ after) e) ∙ (and_parts (is_name_byte x) (list_all is_name_byte xs) name.2).0 in both_ways (is_name_byte 91) refl h

bracket_within : (bytes rest host after : List ℕ) (m : ℕ) → host_length (91 ∷ bytes) ≡ 0 → m ≤ length bytes → 91 ∷ (take m bytes ++ rest) ≡ host ++ after → IsBracketed host → suc m ≤ min (prefix_len is_address_byte bytes + 1) 254
bracket_within bytes rest host after m none fits e is =
    let address = is.0 in
    let long : length host ≡ length address + 2 = ap length is.1 ∙ omega (arith, length-append address (93 ∷ [])) in
    let same : take m bytes ++ rest ≡ address ++ 93 ∷ after = tails 91 91 (take m bytes ++ rest) ((address ++ 93 ∷ []) ++ after) (e ∙ ap (λ (xs : List ℕ). xs ++ after) is.1) ∙ append_assoc address (93 ∷ []) after in
    elim (cases_lt (length address) m) [
      | inl closed ↦ let j = length address + 1 in
          let whole : take j (address ++ 93 ∷ after) ≡ address ++ 93 ∷ [] = ap (take j) (sym (append_assoc address (93 ∷ []) after)) ∙ take_at (address ++ 93 ∷ []) after j (length-append address (93 ∷ [])) in
          let front : take j bytes ≡ address ++ 93 ∷ [] = take_front j m bytes rest (address ++ 93 ∷ after) same (omega arith) fits ∙ whole in
          let text : 91 ∷ bytes ≡ host ++ drop j bytes = ap (λ (xs : List ℕ). 91 ∷ xs) (sym (take-append-drop j bytes) ∙ ap (λ (xs : List ℕ). xs ++ drop j bytes) front) ∙ ap (λ (xs : List ℕ). xs ++ drop j bytes) (sym is.1) in
          let read : host_length (91 ∷ bytes) ≡ length host = ap host_length text ∙ bracketed_is_read host (drop j bytes) is in
          absurd (omega (arith, read, long, none))
      | inr open_still ↦ let front : take m bytes ≡ take m address = take_front m m bytes rest (address ++ 93 ∷ after) same (omega arith) fits ∙ take-append-le m address (93 ∷ after) open_still in
          let count = prefix_from_all is_address_byte m bytes (ap (list_all is_address_byte) front ∙ all_of_take is_address_byte m address is.4) fits in
          omega (arith, count, long, is.3)
    ]

bracket_host : (bytes rest host after : List ℕ) (m : ℕ) → host_length (91 ∷ bytes) ≡ 0 → m ≤ length bytes → 91 ∷ (take m bytes ++ rest) ≡ host ++ after → IsHost host → suc m ≤ min (prefix_len is_address_byte bytes + 1) 254
bracket_host bytes rest host after m none fits e (inl name) = absurd (name_bracket (take m bytes ++ rest) host after e name)
bracket_host bytes rest host after m none fits e (inr is) = bracket_within bytes rest host after m none fits e is

bracket_longest : (bytes : List ℕ) → host_length (91 ∷ bytes) ≡ 0 → (n : ℕ) (rest : List ℕ) → n ≤ length (91 ∷ bytes) → IsSomeEndpoint (take n (91 ∷ bytes) ++ rest) → n ≤ min (prefix_len is_address_byte bytes + 1) 254
bracket_longest bytes none zero rest fits is = omega arith
bracket_longest bytes none (suc m) rest fits is = bracket_host bytes rest is.1.0 is.1.1 m none (omega arith) is.1.2 is.1.3

bracket_front : (bytes : List ℕ) → host_length (91 ∷ bytes) ≡ 0 → IsLongestFront IsSomeEndpoint (91 ∷ bytes) (min (prefix_len is_address_byte bytes + 1) 254)
bracket_front bytes none =
    let k = min (prefix_len is_address_byte bytes) 253 in
    let e : min (prefix_len is_address_byte bytes + 1) 254 ≡ suc k = omega arith in
    let bound = prefix_len-le-length is_address_byte bytes in
    record {
      within = omega arith;
      begins = subst (λ (n : ℕ). (rest : List ℕ) × IsSomeEndpoint (take n (91 ∷ bytes) ++ rest)) (sym e) (bracket_begins bytes k (omega arith) (omega arith));
      longest = bracket_longest bytes none;
    }

-- where no prefix is a host
bad_host_front : (text : List ℕ) → host_length text ≡ 0 → IsLongestFront IsSomeEndpoint text (host_front text)
bad_host_front text =
    first_cases (λ t. host_length t ≡ 0 → IsLongestFront IsSomeEndpoint t (host_front t)) (λ none. subst (IsLongestFront IsSomeEndpoint []) (sym no_front_of_nothing) nothing_front)
    (λ bytes none. subst (IsLongestFront IsSomeEndpoint (91 ∷ bytes)) (sym (front_of_bracket bytes)) (bracket_front bytes none))
    (λ byte bytes other none. subst (IsLongestFront IsSomeEndpoint (byte ∷ bytes)) (sym (no_front byte bytes other)) (bad_byte_front byte bytes other none)) text

-- digits with which some port begins
abbrev goes_on : ℕ → ℕ → ℕ → Bool
goes_on value count byte = is_ascii_digit byte && ltb count 5 && leb (value * 10 + (byte - 48)) 65535 && (ltb 0 (value * 10 + (byte - 48)) || ltb count 4)

record IsPortFront (value count : ℕ) (digits : List ℕ) (k : ℕ) : Type 0 where
  same : port_front value count digits ≡ count + k
  within : k ≤ length digits
  all : all_ascii_digits (take k digits) ≡ true
  most : folded value (take k digits) ≤ 65535
  few : count + k ≤ 5
  room : (0 < folded value (take k digits)) ⊎ (count + k ≤ 4)

still_room : (value count : ℕ) → (0 < value) ⊎ (count ≤ 4) → (0 < value) ⊎ (count + 0 ≤ 4)
still_room value count (inl some) = inl some
still_room value count (inr few) = inr (omega arith)

room_after : (value count byte : ℕ) → goes_on value count byte ≡ true → (0 < value * 10 + (byte - 48)) ⊎ (count + 1 ≤ 4)
room_after value count byte here =
    let v = value * 10 + (byte - 48) in
    let p = and_parts (is_ascii_digit byte && ltb count 5 && leb v 65535) (ltb 0 v || ltb count 4) here in
    elim (or_cases (ltb 0 v) (ltb count 4) p.1) [ inl some ↦ inl (ltb-true 0 v some) | inr few ↦ inr (omega (arith, ltb-true count 4 few)) ]

more_room : (value count k : ℕ) → (0 < value) ⊎ (count + 1 + k ≤ 4) → (0 < value) ⊎ (count + suc k ≤ 4)
more_room value count k (inl some) = inl some
more_room value count k (inr few) = inr (omega arith)

port_front_is : (value count : ℕ) (digits : List ℕ) → count ≤ 5 → value ≤ 65535 → (0 < value) ⊎ (count ≤ 4) → (k : ℕ) × IsPortFront value count digits k
port_front_is value count [] few most room = (0, record { same = omega arith; within = omega arith; all = refl; most = most; few = omega arith; room = still_room value count room })
port_front_is value count (byte ∷ bytes) few most room =
    let v = value * 10 + (byte - 48) in
    ⊎_elim (λ here.
    let p = and_parts (is_ascii_digit byte && ltb count 5 && leb v 65535) (ltb 0 v || ltb count 4) here in
    let q = and_parts (is_ascii_digit byte && ltb count 5) (leb v 65535) p.0 in
    let r = and_parts (is_ascii_digit byte) (ltb count 5) q.0 in
    let below : count + 1 ≤ 5 = omega (arith, ltb-true count 5 r.1) in
    let next = port_front_is v (count + 1) bytes below (leb-true v 65535 q.1) (room_after value count byte here) in
    let k = next.0 in
    let is = next.1 in (
      suc k,
      record {
        same = cond-true (goes_on value count byte) (port_front v (count + 1) bytes) count here ∙ omega (arith, is.same);
        within = omega (arith, is.within);
        all = and_from (is_ascii_digit byte) (all_ascii_digits (take k bytes)) r.0 is.all;
        most = is.most;
        few = omega (arith, is.few);
        room = more_room (folded v (take k bytes)) count k is.room;
      },
    ))
    (λ gone. (
      0,
      record {
        same = cond-false (goes_on value count byte) (port_front v (count + 1) bytes) count gone ∙ omega arith;
        within = omega arith;
        all = refl;
        most = most;
        few = omega arith;
        room = still_room value count room;
      },
    )) (cases_Bool (goes_on value count byte))

count-le : (value count : ℕ) (digits : List ℕ) → count ≤ port_front value count digits
count-le value count [] = omega arith
count-le value count (byte ∷ bytes) =
    let v = value * 10 + (byte - 48) in
    ⊎_elim (λ here. omega (arith, cond-true (goes_on value count byte) (port_front v (count + 1) bytes) count here, count-le v (count + 1) bytes)) (λ gone. omega (arith, cond-false (goes_on value count byte) (port_front v (count + 1) bytes) count gone)) (cases_Bool (goes_on value count byte))

last_room : (value count k : ℕ) (bytes : List ℕ) → count + suc k ≤ 5 → (0 < folded value (take k bytes)) ⊎ (count + suc k ≤ 4) → (ltb 0 value || ltb count 4) ≡ true
last_room value count zero bytes few (inl some) = or_left (ltb 0 value) (ltb count 4) (lt-ltb 0 value some)
last_room value count (suc k) bytes few (inl some) = or_right (ltb 0 value) (ltb count 4) (lt-ltb count 4 (omega arith))
last_room value count k bytes few (inr less) = or_right (ltb 0 value) (ltb count 4) (lt-ltb count 4 (omega arith))

less_room : (value count k : ℕ) → (0 < value) ⊎ (count + suc k ≤ 4) → (0 < value) ⊎ (count + 1 + k ≤ 4)
less_room value count k (inl some) = inl some
less_room value count k (inr few) = inr (omega arith)

front_at_least : (value count : ℕ) (digits : List ℕ) (k : ℕ) → k ≤ length digits → all_ascii_digits (take k digits) ≡ true → folded value (take k digits) ≤ 65535 → count + k ≤ 5 → (0 < folded value (take k digits)) ⊎ (count + k ≤ 4) → count + k ≤ port_front value count digits
front_at_least value count digits zero within all most few room = omega (arith, count-le value count digits)
front_at_least value count [] (suc k) within all most few room = absurd (omega arith)
front_at_least value count (byte ∷ bytes) (suc k) within all most few room =
    let v = value * 10 + (byte - 48) in
    let p = and_parts (is_ascii_digit byte) (all_ascii_digits (take k bytes)) all in
    let small : v ≤ 65535 = omega (arith, folded-le v (take k bytes)) in
    let here : goes_on value count byte ≡ true = and_from _ _ (and_from _ _ (and_from _ _ p.0 (lt-ltb count 5 (omega arith))) (le-leb v 65535 small)) (last_room v count k bytes few room) in
    let rest = front_at_least v (count + 1) bytes k (omega arith) p.1 most (omega arith) (less_room (folded v (take k bytes)) count k room) in
    omega (arith, cond-true (goes_on value count byte) (port_front v (count + 1) bytes) count here, rest)

-- a port goes on from there
folded-push : (n : ℕ) (digits : List ℕ) (byte : ℕ) → folded n (digits ++ byte ∷ []) ≡ folded n digits * 10 + (byte - 48)
folded-push n [] byte = refl
folded-push n (b ∷ bs) byte = folded-push (n * 10 + (b - 48)) bs byte

digits-push : (digits : List ℕ) → all_ascii_digits digits ≡ true → all_ascii_digits (digits ++ 49 ∷ []) ≡ true
digits-push [] h = refl
digits-push (b ∷ bs) h = let p = and_parts (is_ascii_digit b) (all_ascii_digits bs) h in and_from (is_ascii_digit b) (all_ascii_digits (bs ++ 49 ∷ [])) p.0 (digits-push bs p.1)

some_folded : (digits : List ℕ) → 0 < folded 0 digits → 0 < length digits
some_folded [] h = absurd (omega arith)
some_folded (b ∷ bs) h = omega arith

goes_on_with : (digits : List ℕ) → all_ascii_digits digits ≡ true → folded 0 digits ≤ 65535 → length digits ≤ 5 → (0 < folded 0 digits) ⊎ (length digits ≤ 4) → (rest : List ℕ) × (port : Option ℕ) × IsPortPart (58 ∷ (digits ++ rest)) port
goes_on_with digits all most few room = elim (cases_lt 0 (folded 0 digits)) [
  | inl some ↦ ([], Some (folded 0 digits), (digits, ap (λ (xs : List ℕ). 58 ∷ xs) (append-nil digits), (some_folded digits some, few, all, sym (value_is digits all), some, most)))
  | inr none ↦ zeros room none
]
  where
    zeros : (0 < folded 0 digits) ⊎ (length digits ≤ 4) → folded 0 digits ≤ 0 → (rest : List ℕ) × (port : Option ℕ) × IsPortPart (58 ∷ (digits ++ rest)) port
    zeros (inl some) none = absurd (omega arith)
    zeros (inr short) none =
        let more = digits-push digits all in
        let long = length-append digits (49 ∷ []) in
        let value : folded 0 (digits ++ 49 ∷ []) ≡ 1 = folded-push 0 digits 49 ∙ omega arith in
        (49 ∷ [], Some 1, (digits ++ 49 ∷ [], refl, (omega arith, omega arith, more, sym (value_is (digits ++ 49 ∷ []) more) ∙ value, omega arith, omega arith)))

port_goes_on : (digits : List ℕ) → (rest : List ℕ) × (port : Option ℕ) × IsPortPart (58 ∷ (take (port_front 0 0 digits) digits ++ rest)) port
port_goes_on digits =
    let front = port_front_is 0 0 digits (omega arith) (omega arith) (inr (omega arith)) in
    let k = front.0 in
    let is = front.1 in
    let same : port_front 0 0 digits ≡ k = is.same ∙ omega arith in
    let long : length (take k digits) ≡ k = omega (arith, length-take k digits, is.within) in
    let room = as_length (folded 0 (take k digits)) k (length (take k digits)) long is.room in
    subst (λ (n : ℕ). (rest : List ℕ) × (port : Option ℕ) × IsPortPart (58 ∷ (take n digits ++ rest)) port) (sym same) (goes_on_with (take k digits) is.all is.most (omega (arith, long, is.few)) room)
  where
    as_length : (value k size : ℕ) → size ≡ k → (0 < value) ⊎ (0 + k ≤ 4) → (0 < value) ⊎ (size ≤ 4)
    as_length value k size e (inl some) = inl some
    as_length value k size e (inr few) = inr (omega arith)

-- no port goes further
digits_take : (k : ℕ) (digits : List ℕ) → all_ascii_digits digits ≡ true → all_ascii_digits (take k digits) ≡ true
digits_take zero digits h = refl
digits_take (suc k) [] h = refl
digits_take (suc k) (b ∷ bs) h = let p = and_parts (is_ascii_digit b) (all_ascii_digits bs) h in and_from (is_ascii_digit b) (all_ascii_digits (take k bs)) p.0 (digits_take k bs p.1)

folded-take-le : (n k : ℕ) (digits : List ℕ) → folded n (take k digits) ≤ folded n digits
folded-take-le n zero digits = folded-le n digits
folded-take-le n (suc k) [] = omega arith
folded-take-le n (suc k) (b ∷ bs) = folded-take-le (n * 10 + (b - 48)) k bs

whole_take : (k : ℕ) (digits : List ℕ) → length digits ≤ k → take k digits ≡ digits
whole_take zero [] h = refl
whole_take zero (b ∷ bs) h = absurd (omega arith)
whole_take (suc k) [] h = refl
whole_take (suc k) (b ∷ bs) h = ap (λ (xs : List ℕ). b ∷ xs) (whole_take k bs (omega arith))

digit_bound : (digits written rest : List ℕ) (m port : ℕ) → m ≤ length digits → take m digits ++ rest ≡ written → IsPort written port → m ≤ port_front 0 0 digits
digit_bound digits written rest m port within e is =
    let value : folded 0 written ≡ port = value_is written is.2 ∙ is.3 in
    let taken : length (take m digits) ≡ m = omega (arith, length-take m digits) in
    let long : m ≤ length written = omega (arith, taken, length-append (take m digits) rest, ap length e) in
    let front : take m digits ≡ take m written = take_front m m digits rest written e (omega arith) within in
    let most : folded 0 (take m digits) ≤ 65535 = rw front (omega (arith, folded-take-le 0 m written, value, is.5)) in
    let all : all_ascii_digits (take m digits) ≡ true = ap all_ascii_digits front ∙ digits_take m written is.2 in
    let room : (0 < folded 0 (take m digits)) ⊎ (0 + m ≤ 4) = elim (cases_lt 4 m) [
      | inl five ↦ let whole : take m written ≡ written = whole_take m written (omega (arith, is.1)) in inl (rw (front, whole, value) is.4)
      | inr four ↦ inr (omega arith)
    ] in
    omega (arith, front_at_least 0 0 digits m within all most (omega (arith, is.1)) room)

-- where a port stops
abbrev PortStops : List ℕ → ℕ → Type 0
PortStops text front = ((byte : ℕ) × (bytes : List ℕ) × (text ≡ byte ∷ bytes) × (eqb byte 58 ≡ false) × (front ≡ 0)) ⊎ ((digits : List ℕ) × (text ≡ 58 ∷ digits) × (front ≡ port_front 0 0 digits + 1))

pub err_same : {A B : Type 0} (a b : B) → ◌≡◌ {A = Result A B} (Err a) (Err b) → a ≡ b
err_same a b h = cc

pub ok_err : {A B : Type 0} (a : A) (b : B) → ◌≡◌ {A = Result A B} (Ok a) (Err b) → ⊥
ok_err a b h = cc

number_stops : (digits : List ℕ) (number : Option ℕ) (front : ℕ) → of_number number (port_front 0 0 digits + 1) ≡ Err front → front ≡ port_front 0 0 digits + 1
number_stops digits None front e = sym (err_same (port_front 0 0 digits + 1) front e)
number_stops digits (Some n) front e = absurd (ok_err (Some n) front e)

digits_stop : (digits : List ℕ) (front : ℕ) → port_of_digits digits ≡ Err front → front ≡ port_front 0 0 digits + 1
digits_stop [] front e = absurd (ok_err None front e)
digits_stop (digit ∷ digits) front e = number_stops (digit ∷ digits) (port_number (digit ∷ digits)) front (sym (digits_port digit digits) ∙ e)

port_stops : (text : List ℕ) (front : ℕ) → port_of text ≡ Err front → PortStops text front
port_stops [] front e = absurd (ok_err None front (sym no_port ∙ e))
port_stops (byte ∷ bytes) front e =
    ⊎_elim (λ here.
    let colon = eqb-true byte 58 here in
    inr (bytes, ap (λ (b : ℕ). b ∷ bytes) colon, digits_stop bytes front (sym (port_after bytes) ∙ ap (λ (b : ℕ). port_of (b ∷ bytes)) (sym colon) ∙ e)))
    (λ gone. inl (byte, bytes, refl, gone, sym (err_same 0 front (sym (no_port_after byte bytes gone) ∙ e)))) (cases_Bool (eqb byte 58))

-- the part behind a host in a longer text
colon_first : (byte : ℕ) (bytes : List ℕ) (port : Option ℕ) → IsPortPart (byte ∷ bytes) port → byte ≡ 58
colon_first byte bytes None (inl e) = absurd (omega (arith, ap length e))
colon_first byte bytes None (inr e) = heads byte 58 bytes [] e
colon_first byte bytes (Some port) is = heads byte 58 bytes is.0 is.1

part_bound : (digits rest : List ℕ) (m : ℕ) (port : Option ℕ) → m ≤ length digits → IsPortPart (58 ∷ (take m digits ++ rest)) port → m ≤ port_front 0 0 digits
part_bound digits rest m None within (inl e) = absurd (omega (arith, ap length e))
part_bound digits rest m None within (inr e) = omega (arith, ap length e, length-append (take m digits) rest, length-take m digits)
part_bound digits rest m (Some port) within is = digit_bound digits is.0 rest m port within (tails 58 58 (take m digits ++ rest) is.0 is.1) is.2

after_host : (text rest : List ℕ) (front m : ℕ) (port : Option ℕ) → PortStops text front → m ≤ length text → IsPortPart (take m text ++ rest) port → m ≤ front
after_host text rest front zero port stops within is = omega arith
after_host text rest front (suc m) port (inl other) within is =
    let first = colon_first other.0 (take m other.1 ++ rest) port (subst (λ (t : List ℕ). IsPortPart (take (suc m) t ++ rest) port) other.2 is) in absurd (both_ways (eqb other.0 58) other.3 (eq-eqb other.0 58 first))
after_host text rest front (suc m) port (inr digits) within is =
    let fits : m ≤ length digits.0 = omega (arith, ap length digits.1) in
    let bound = part_bound digits.0 rest m port fits (subst (λ (t : List ℕ). IsPortPart (take (suc m) t ++ rest) port) digits.1 is) in
    omega (arith, digits.2)

-- the host of a longer text is the same
prefix_more : (test : ℕ → Bool) (xs rest : List ℕ) → list_all test xs ≡ true → prefix_len test (xs ++ rest) ≡ length xs + prefix_len test rest
prefix_more test [] rest all = omega arith
prefix_more test (x ∷ xs) rest all =
    let p = and_parts (test x) (list_all test xs) all in
    let h = prefix_more test xs rest p.1 in
    cond-true (test x) (1 + prefix_len test (xs ++ rest)) 0 p.0 ∙ omega arith

name_of_host : (host : List ℕ) → IsName host → (rest : List ℕ) → host_length (host ++ rest) ≡ min (length host + prefix_len is_name_byte rest) 255
name_of_host [] name rest = absurd (omega (arith, name.0))
name_of_host (x ∷ xs) name rest =
    let p = and_parts (is_name_byte x) (list_all is_name_byte xs) name.2 in
    name_length x (xs ++ rest) (name_first x p.0) ∙ omega (arith, prefix_more is_name_byte (x ∷ xs) rest name.2)

same_host : (host text rest : List ℕ) (m : ℕ) → IsHost host → host_length (host ++ text) ≡ length host → 0 < m → m ≤ length text → host_length (host ++ (take m text ++ rest)) ≡ length host
same_host host text rest m (inr is) same some within = bracketed_is_read host (take m text ++ rest) is
same_host host text rest zero (inl name) same some within = absurd (omega arith)
same_host host [] rest (suc m) (inl name) same some within = absurd (omega arith)
same_host host (byte ∷ bytes) rest (suc m) (inl name) same some within =
    let before = name_of_host host name (byte ∷ bytes) in
    let after = name_of_host host name (byte ∷ (take m bytes ++ rest)) in
    ⊎_elim (λ here. omega (arith, before, after, name.1, cond-true (is_name_byte byte) (1 + prefix_len is_name_byte bytes) 0 here, cond-true (is_name_byte byte) (1 + prefix_len is_name_byte (take m bytes ++ rest)) 0 here, same))
    (λ gone. omega (arith, after, name.1, cond-false (is_name_byte byte) (1 + prefix_len is_name_byte (take m bytes ++ rest)) 0 gone)) (cases_Bool (is_name_byte byte))

-- where what follows the longest host is no port
port_longest : (host text : List ℕ) (front : ℕ) → IsHost host → host_length (host ++ text) ≡ length host → PortStops text front → (n : ℕ) (rest : List ℕ) → n ≤ length (host ++ text) → IsSomeEndpoint (take n (host ++ text) ++ rest) → n ≤ length host + front
port_longest host text front is_host same stops n rest fits is = elim (cases_lt (length host) n) [
  | inr short ↦ omega arith
  | inl long ↦ let m = n - length host in
      let size : n ≡ length host + m = omega arith in
      let within : m ≤ length text = omega (arith, length-append host text) in
      let whole : take n (host ++ text) ++ rest ≡ host ++ (take m text ++ rest) = ap (λ (k : ℕ). take k (host ++ text) ++ rest) size ∙ ap (λ (xs : List ℕ). xs ++ rest) (take-append-add host text m) ∙ append_assoc host (take m text) rest in
      let parts : host ++ (take m text ++ rest) ≡ is.1.0 ++ is.1.1 = sym whole ∙ is.1.2 in
      let first : length is.1.0 ≡ length host = sym (host_is_read is.1.0 is.1.1 is.1.3 (host_rest is.1.1 is.0.port is.1.5)) ∙ ap host_length (sym parts) ∙ same_host host text rest m is_host same (omega arith) within in
      let behind : is.1.1 ≡ take m text ++ rest = sym (drop_at is.1.0 is.1.1 (length is.1.0) refl) ∙ ap (λ (k : ℕ). drop k (is.1.0 ++ is.1.1)) first ∙ ap (drop (length host)) (sym parts) ∙ drop_at host (take m text ++ rest) (length host) refl in
      let bound = after_host text rest front m is.0.port stops within (subst (λ (xs : List ℕ). IsPortPart xs is.0.port) behind is.1.5) in
      omega arith
]

front-le : (digits : List ℕ) → port_front 0 0 digits ≤ length digits
front-le digits = let front = port_front_is 0 0 digits (omega arith) (omega arith) (inr (omega arith)) in omega (arith, front.1.same, front.1.within)

port_begins : (host text : List ℕ) (front : ℕ) → IsHost host → PortStops text front → (length host + front ≤ length (host ++ text)) × ((rest : List ℕ) × IsSomeEndpoint (take (length host + front) (host ++ text) ++ rest))
port_begins host text front is (inl other) =
    let none : length host + front ≡ length host = omega (arith, other.4) in
    (omega (arith, length-append host text), ([], subst IsSomeEndpoint (sym (append-nil (take (length host + front) (host ++ text)) ∙ ap (λ (k : ℕ). take k (host ++ text)) none ∙ take_at host text (length host) refl)) (lone_host host is)))
port_begins host text front is (inr digits) =
    let pf = port_front 0 0 digits.0 in
    let bound = front-le digits.0 in
    let more = port_goes_on digits.0 in
    let part : take front text ≡ 58 ∷ take pf digits.0 = ap (λ (k : ℕ). take k text) (digits.2 ∙ add-one pf) ∙ ap (take (suc pf)) digits.1 in
    let whole : take (length host + front) (host ++ text) ++ more.0 ≡ host ++ (58 ∷ (take pf digits.0 ++ more.0)) = ap (λ (xs : List ℕ). xs ++ more.0) (take-append-add host text front ∙ ap (λ (xs : List ℕ). host ++ xs) part) ∙ append_assoc host (58 ∷ take pf digits.0) more.0 in
    (omega (arith, length-append host text, digits.2, ap length digits.1), (more.0, subst IsSomeEndpoint (sym whole) (with_port host (58 ∷ (take pf digits.0 ++ more.0)) more.1 is more.2)))

bad_port_front : (host text : List ℕ) (front : ℕ) → IsHost host → host_length (host ++ text) ≡ length host → port_of text ≡ Err front → IsLongestFront IsSomeEndpoint (host ++ text) (length host + front)
bad_port_front host text front is same e =
    let stops = port_stops text front e in
    let begins = port_begins host text front is stops in
    record { within = begins.0; begins = begins.1; longest = port_longest host text front is same stops }

port_not_host : (a b : ℕ) → ◌≡◌ {A = EndpointFault} (BadHost a) (BadPort b) → ⊥
port_not_host a b h = cc

host_same : (a b : ℕ) → ◌≡◌ {A = EndpointFault} (BadHost a) (BadHost b) → a ≡ b
host_same a b h = cc

port_same : (a b : ℕ) → ◌≡◌ {A = EndpointFault} (BadPort a) (BadPort b) → a ≡ b
port_same a b h = cc

-- the fault of what is read at a host
fault_at : (host : List ℕ) (read : Result (Option ℕ) ℕ) (fault : EndpointFault) → endpoint_at host read ≡ Err fault → (front : ℕ) × (read ≡ Err front) × (fault ≡ BadPort (length host + front))
fault_at host (Ok port) fault e = absurd (ok_err (record { host = str_to_ascii_lowercase host; port = port }) fault e)
fault_at host (Err front) fault e = (front, refl, sym (err_same (BadPort (length host + front)) fault e))

-- each fault of an endpoint, and its place
fault_cases : (text : List ℕ) (fault : EndpointFault) → endpoint_of text ≡ Err fault → ((host_length text ≡ 0) × (fault ≡ BadHost (host_front text))) ⊎ ((front : ℕ) × (fault ≡ BadPort front) × IsLongestFront IsSomeEndpoint text front)
fault_cases text fault e = elim (cases_lt 0 (host_length text)) [
  | inr none ↦ let zero_is : host_length text ≡ 0 = omega arith in inl (zero_is, err_same fault (BadHost (host_front text)) (sym e ∙ no_endpoint text zero_is))
  | inl some ↦ let n = host_length text in
      let host = take n text in
      let rest = drop n text in
      let is = host_of_length text some in
      let found = fault_at host (port_of rest) fault (sym (endpoint_parts text n refl some) ∙ e) in
      let parts : host ++ rest ≡ text = take-append-drop n text in
      let long : n ≡ length host = omega (arith, length-take n text, host_length-le text) in
      let front = bad_port_front host rest found.0 is (ap host_length parts ∙ long) found.1 in
      inr (length host + found.0, found.2, subst (λ (t : List ℕ). IsLongestFront IsSomeEndpoint t (length host + found.0)) parts front)
]

pub bad_host_stands : (text : List ℕ) (at : ℕ) → endpoint_of text ≡ Err (BadHost at) → IsLongestFront IsSomeEndpoint text at
bad_host_stands text at e = elim (fault_cases text (BadHost at) e) [
  | inl host ↦ subst (IsLongestFront IsSomeEndpoint text) (sym (host_same at (host_front text) host.1)) (bad_host_front text host.0)
  | inr port ↦ absurd (port_not_host at port.0 port.1)
]

pub bad_port_stands : (text : List ℕ) (at : ℕ) → endpoint_of text ≡ Err (BadPort at) → IsLongestFront IsSomeEndpoint text at
bad_port_stands text at e = elim (fault_cases text (BadPort at) e) [
  | inl host ↦ absurd (port_not_host (host_front text) at (sym host.1))
  | inr port ↦ subst (IsLongestFront IsSomeEndpoint text) (sym (port_same at port.0 port.1)) port.2
]

-- where the faults of a reader stand
pub endpoint_stands : (text : List ℕ) (result : Result Endpoint EndpointFault) → ReadsEndpoint text result → StandsAtFront text result
endpoint_stands text (Ok endpoint) e = tt
endpoint_stands text (Err (BadHost at)) e = bad_host_stands text at e
endpoint_stands text (Err (BadPort at)) e = bad_port_stands text at e
endpoint_stands text (Err Memory) e = tt
