-- The grammar of endpoints against its reading.
use Rattle.std.proofs.Common.{◌≡◌, ℕ, ◌+◌, ◌-◌, ◌*◌, ◌^◌, ◌<◌, ◌≤◌, Bool, true, false, cond, List, [], ◌∷◌, ◌++◌, length, get_or, take, drop, min, zero, suc, refl, ap, sym, subst, ◌∙◌, arith, rules, Option, Some, None, ltb, leb, eqb, ◌&&◌, append_assoc, length-append, add-one, ⊎_elim, inl, inr, Ok, Err}
use Rattle.std.proofs.lemmas.Bool.{cases_Bool, cond-true, cond-false, ltb-true, lt-ltb, leb-true, le-leb, eqb-true, eq-eqb, ne_eqb, and_parts, and_from, cases_lt}
use Rattle.std.proofs.lemmas.List.{take-append-drop, take_at, drop_at, length-take}
use Rattle.std.proofs.Math.Seq.{take-suc, get_or-append_seam}
use Rattle.std.proofs.lemmas.List.Sums.{prefix_len-le-length}
use Rattle.std.specs.List.{prefix_len, list_all}
use Rattle.std.specs.Option.{option_map_or, option_and_then}
use Rattle.std.specs.Str.{str_to_ascii_lowercase, all_ascii_digits}
use Rattle.std.specs.Str.Parse.{digits_value}
use Rattle.std.proofs.lemmas.Str.Parse.{IsNumeralModel, numerals_by_fold}
use Rattle.std.specs.declared.result.Result.{Result}
use Rattle.listing.specs.Number.{number_after, number_of_digits}
use Rattle.targets.specs.declared.endpoint.Endpoint.{Endpoint}
use Rattle.targets.specs.declared.endpoint.EndpointFault.{EndpointFault}
use Rattle.targets.specs.declared.endpoint.EndpointFault.TheVariants.{BadHost, BadPort, Memory}
use Rattle.targets.specs.Endpoint.{is_name_byte, is_address_byte, host_length, host_front, port_front, in_port_range, port_number, port_of_digits, port_of, endpoint_at, endpoint_of, ReadsEndpoint}
use Rattle.targets.specs.Grammar.{IsName, IsBracketed, IsHost, IsPort, IsPortPart, IsEndpoint, AnswersEndpoint}

pub ok_same : {A B : Type 0} (a b : A) → ◌≡◌ {A = Result A B} (Ok a) (Ok b) → a ≡ b
ok_same a b h = cc

pub err_ok : {A B : Type 0} (a : A) (b : B) → ◌≡◌ {A = Result A B} (Err b) (Ok a) → ⊥
err_ok a b h = cc

pub some_same : {A : Type 0} (a b : A) → Some a ≡ Some b → a ≡ b
some_same a b h = cc

pub none_some : {A : Type 0} (a : A) → None ≡ Some a → ⊥
none_some a h = cc

-- bytes that pass, before one that does not
pub prefix_all : (test : ℕ → Bool) (xs rest : List ℕ) → list_all test xs ≡ true → prefix_len test rest ≡ 0 → prefix_len test (xs ++ rest) ≡ length xs
prefix_all test [] rest all stop = stop
prefix_all test (x ∷ xs) rest all stop =
    let p = and_parts (test x) (list_all test xs) all in
    let h = prefix_all test xs rest p.1 stop in
    cond-true (test x) (1 + prefix_len test (xs ++ rest)) 0 p.0 ∙ omega arith

pub all_of_prefix : (test : ℕ → Bool) (xs : List ℕ) (n : ℕ) → n ≤ prefix_len test xs → list_all test (take n xs) ≡ true
all_of_prefix test xs zero h = refl
all_of_prefix test [] (suc n) h = refl
all_of_prefix test (x ∷ xs) (suc n) h =
    ⊎_elim (λ here. let e = cond-true (test x) (1 + prefix_len test xs) 0 here in and_from (test x) (list_all test (take n xs)) here (all_of_prefix test xs n (omega (arith, e))))
    (λ gone. absurd (omega (arith, cond-false (test x) (1 + prefix_len test xs) 0 gone))) (cases_Bool (test x))

-- a byte of a name is no `[`
pub name_first : (byte : ℕ) → is_name_byte byte ≡ true → eqb byte 91 ≡ false
name_first byte h = ne_eqb byte 91 (λ e. let f : is_name_byte 91 ≡ true = ap is_name_byte (sym e) ∙ h in absurd (cc))

pub name_length : (byte : ℕ) (bytes : List ℕ) → eqb byte 91 ≡ false → host_length (byte ∷ bytes) ≡ min (prefix_len is_name_byte (byte ∷ bytes)) 255
unfolding host_length
name_length byte bytes h = cond-false (eqb byte 91) _ _ h

name_is_read : (host rest : List ℕ) → IsName host → prefix_len is_name_byte rest ≡ 0 → host_length (host ++ rest) ≡ length host
name_is_read [] rest name stop = absurd (omega (arith, name.0))
name_is_read (x ∷ xs) rest name stop =
    let parts = and_parts (is_name_byte x) (list_all is_name_byte xs) name.2 in
    let all = prefix_all is_name_byte (x ∷ xs) rest name.2 stop in
    name_length x (xs ++ rest) (name_first x parts.0) ∙ omega (arith, all, name.1)

bracketed_length : (bytes : List ℕ) (n : ℕ) → prefix_len is_address_byte bytes ≡ n → 0 < n → n ≤ 253 → get_or (91 ∷ bytes) (n + 1) 0 ≡ 93 → host_length (91 ∷ bytes) ≡ n + 2
unfolding host_length
bracketed_length bytes n e some fits close =
    rw e (cond-true (ltb 0 n && leb n 253 && eqb (get_or (91 ∷ bytes) (n + 1) 0) 93) (n + 2) 0 (and_from _ _ (and_from _ _ (lt-ltb 0 n some) (le-leb n 253 fits)) (eq-eqb _ 93 close)))

pub bracketed_is_read : (host rest : List ℕ) → IsBracketed host → host_length (host ++ rest) ≡ length host
bracketed_is_read host rest bracketed =
    let address = bracketed.0 in
    let behind : (address ++ 93 ∷ []) ++ rest ≡ address ++ 93 ∷ rest = append_assoc address (93 ∷ []) rest in
    let whole : host ++ rest ≡ 91 ∷ (address ++ 93 ∷ rest) = ap (λ (xs : List ℕ). xs ++ rest) bracketed.1 ∙ ap (λ (xs : List ℕ). 91 ∷ xs) behind in
    let count = prefix_all is_address_byte address (93 ∷ rest) bracketed.4 refl in
    let long : length host ≡ length address + 2 = ap length bracketed.1 ∙ omega (arith, length-append address (93 ∷ [])) in
    let close : get_or (91 ∷ (address ++ 93 ∷ rest)) (length address + 1) 0 ≡ 93 = rw (add-one (length address)) (get_or-append_seam address 93 rest 0) in
    ap host_length whole ∙ bracketed_length (address ++ 93 ∷ rest) (length address) count bracketed.2 (omega (arith, long, bracketed.3)) close ∙ sym long

pub host_is_read : (host rest : List ℕ) → IsHost host → prefix_len is_name_byte rest ≡ 0 → host_length (host ++ rest) ≡ length host
host_is_read host rest (inl name) stop = name_is_read host rest name stop
host_is_read host rest (inr bracketed) stop = bracketed_is_read host rest bracketed

-- the host that is read is one
no_length : (text : List ℕ) → text ≡ [] → host_length text ≡ 0
unfolding host_length
no_length text e = rw e refl

named : (byte : ℕ) (bytes : List ℕ) → eqb byte 91 ≡ false → 0 < host_length (byte ∷ bytes) → IsHost (take (host_length (byte ∷ bytes)) (byte ∷ bytes))
named byte bytes h some =
    let e = name_length byte bytes h in
    let long = length-take (host_length (byte ∷ bytes)) (byte ∷ bytes) in
    let bound = prefix_len-le-length is_name_byte (byte ∷ bytes) in
    inl (omega (arith, e, long, bound), omega (arith, e, long), all_of_prefix is_name_byte (byte ∷ bytes) (host_length (byte ∷ bytes)) (omega (arith, e)))

abbrev is_closed : List ℕ → Bool
is_closed bytes = ltb 0 (prefix_len is_address_byte bytes) && leb (prefix_len is_address_byte bytes) 253 && eqb (get_or (91 ∷ bytes) (prefix_len is_address_byte bytes + 1) 0) 93

closed_length : (bytes : List ℕ) → is_closed bytes ≡ true → host_length (91 ∷ bytes) ≡ prefix_len is_address_byte bytes + 2
unfolding host_length
closed_length bytes h = cond-true (is_closed bytes) (prefix_len is_address_byte bytes + 2) 0 h

open_length : (bytes : List ℕ) → is_closed bytes ≡ false → host_length (91 ∷ bytes) ≡ 0
unfolding host_length
open_length bytes h = cond-false (is_closed bytes) (prefix_len is_address_byte bytes + 2) 0 h

past_end : (bytes : List ℕ) (n : ℕ) → get_or bytes n 0 ≡ 93 → n < length bytes
past_end [] n h = absurd (omega (arith, h))
past_end (x ∷ xs) zero h = omega arith
past_end (x ∷ xs) (suc n) h = omega (arith, past_end xs n h)

closed : (bytes : List ℕ) → is_closed bytes ≡ true → IsHost (take (host_length (91 ∷ bytes)) (91 ∷ bytes))
closed bytes h =
    let n = prefix_len is_address_byte bytes in
    let parts = and_parts (ltb 0 n && leb n 253) (eqb (get_or (91 ∷ bytes) (n + 1) 0) 93) h in
    let sizes = and_parts (ltb 0 n) (leb n 253) parts.0 in
    let at : get_or bytes n 0 ≡ 93 = rw (add-one n) at (eqb-true (get_or (91 ∷ bytes) (n + 1) 0) 93 parts.1) in
    let within = past_end bytes n at in
    let same : host_length (91 ∷ bytes) ≡ suc (suc n) = closed_length bytes h ∙ omega arith in
    let text : take (host_length (91 ∷ bytes)) (91 ∷ bytes) ≡ 91 ∷ (take n bytes ++ 93 ∷ []) =
    ap (λ (k : ℕ). take k (91 ∷ bytes)) same ∙ ap (λ (xs : List ℕ). 91 ∷ xs) (take-suc bytes n 0 within ∙ ap (λ (b : ℕ). take n bytes ++ b ∷ []) at) in
    let some : 0 < length (take n bytes) = omega (arith, ltb-true 0 n sizes.0, length-take n bytes) in
    let short : length (take (host_length (91 ∷ bytes)) (91 ∷ bytes)) ≤ 255 = omega (arith, leb-true n 253 sizes.1, same, length-take (host_length (91 ∷ bytes)) (91 ∷ bytes)) in
    let whole : n ≤ prefix_len is_address_byte bytes = omega arith in
    inr (take n bytes, text, some, short, all_of_prefix is_address_byte bytes n whole)

bracketed : (bytes : List ℕ) → 0 < host_length (91 ∷ bytes) → IsHost (take (host_length (91 ∷ bytes)) (91 ∷ bytes))
bracketed bytes some = ⊎_elim (λ h. closed bytes h) (λ h. absurd (omega (arith, open_length bytes h))) (cases_Bool (is_closed bytes))

closed-le : (bytes : List ℕ) → is_closed bytes ≡ true → host_length (91 ∷ bytes) ≤ length (91 ∷ bytes)
closed-le bytes h =
    let n = prefix_len is_address_byte bytes in
    let parts = and_parts (ltb 0 n && leb n 253) (eqb (get_or (91 ∷ bytes) (n + 1) 0) 93) h in
    let at : get_or bytes n 0 ≡ 93 = rw (add-one n) at (eqb-true (get_or (91 ∷ bytes) (n + 1) 0) 93 parts.1) in
    omega (arith, past_end bytes n at, closed_length bytes h)

-- a property of what begins with `[`, and of what begins with another byte
pub first_cases : (P : List ℕ → Type 0) → P [] → ((bytes : List ℕ) → P (91 ∷ bytes)) → ((byte : ℕ) (bytes : List ℕ) → eqb byte 91 ≡ false → P (byte ∷ bytes)) → (text : List ℕ) → P text
first_cases P nothing bracket other [] = nothing
first_cases P nothing bracket other (byte ∷ bytes) = ⊎_elim (λ here. subst (λ (b : ℕ). P (b ∷ bytes)) (sym (eqb-true byte 91 here)) (bracket bytes)) (λ gone. other byte bytes gone) (cases_Bool (eqb byte 91))

pub host_of_length : (text : List ℕ) → 0 < host_length text → IsHost (take (host_length text) text)
host_of_length text =
    first_cases (λ t. 0 < host_length t → IsHost (take (host_length t) t)) (λ some. absurd (omega (arith, no_length [] refl))) bracketed named text

pub host_length-le : (text : List ℕ) → host_length text ≤ length text
host_length-le text =
    first_cases (λ t. host_length t ≤ length t) (omega (arith, no_length [] refl))
    (λ bytes. ⊎_elim (λ h. closed-le bytes h) (λ h. omega (arith, open_length bytes h)) (cases_Bool (is_closed bytes)))
    (λ byte bytes h. omega (arith, name_length byte bytes h, prefix_len-le-length is_name_byte (byte ∷ bytes))) text

-- the number that digits write, with no limit
abbrev pub folded : ℕ → List ℕ → ℕ
folded n [] = n
folded n (b ∷ bs) = folded (n * 10 + (b - 48)) bs

own : IsNumeralModel (λ ds. all_ascii_digits ds ≡ true) (folded 0)
own = numerals_by_fold _ (search rules) folded (search rules)

pub value_is : (digits : List ℕ) → all_ascii_digits digits ≡ true → folded 0 digits ≡ digits_value 10 digits
value_is digits all = own.same digits (own.to digits all)

pub folded-le : (n : ℕ) (bs : List ℕ) → n ≤ folded n bs
folded-le n [] = omega arith
folded-le n (b ∷ bs) = let h = folded-le (n * 10 + (b - 48)) bs in omega arith

guarded : {A : Type 0} (t : Bool) (o : Option A) (m : A) → cond t o None ≡ Some m → (t ≡ true) × (o ≡ Some m)
guarded true o m is = (refl, is)
guarded false o m is = absurd (cc)

folded_of_number : (n m : ℕ) (bs : List ℕ) → number_after n bs ≡ Some m → (all_ascii_digits bs ≡ true) × (folded n bs ≡ m)
folded_of_number n m [] is = (refl, some_same n m is)
folded_of_number n m (b ∷ bs) is =
    let g = guarded _ _ m is in
    let p = and_parts _ _ g.0 in
    let r = folded_of_number (n * 10 + (b - 48)) m bs g.1 in (and_from _ _ p.0 r.0, r.1)

number_of_folded : (n : ℕ) (bs : List ℕ) → all_ascii_digits bs ≡ true → folded n bs < 2 ^ 64 → number_after n bs ≡ Some (folded n bs)
number_of_folded n [] digits small = refl
number_of_folded n (b ∷ bs) digits small =
    let h = folded-le (n * 10 + (b - 48)) bs in
    let below : n * 10 + (b - 48) < 2 ^ 64 = omega arith in
    let p = and_parts _ _ digits in
    cond-true _ _ _ (and_from _ _ p.0 (lt-ltb _ _ below)) ∙ number_of_folded (n * 10 + (b - 48)) bs p.1 small

in_range_is : (n : ℕ) → 1 ≤ n → n ≤ 65535 → in_port_range n ≡ Some n
in_range_is n low high = cond-true (ltb 0 n && leb n 65535) (Some n) None (and_from _ _ (lt-ltb 0 n (omega arith)) (le-leb n 65535 high))

port_number_is : (digits : List ℕ) (port : ℕ) → IsPort digits port → port_number digits ≡ Some port
unfolding port_number
port_number_is digits port is =
    let value : folded 0 digits ≡ port = value_is digits is.2 ∙ is.3 in
    let number : number_of_digits digits ≡ Some port = number_of_folded 0 digits is.2 (omega (arith, value, is.5)) ∙ ap Some value in
    cond-true (leb (length digits) 5) _ None (le-leb (length digits) 5 is.1) ∙ ap (option_and_then in_port_range) number ∙ in_range_is port is.4 is.5

port_in_range : (number : Option ℕ) (port : ℕ) → option_and_then in_port_range number ≡ Some port → (number ≡ Some port) × (1 ≤ port) × (port ≤ 65535)
port_in_range None port e = absurd (none_some port e)
port_in_range (Some n) port e =
    let g = guarded (ltb 0 n && leb n 65535) (Some n) port e in
    let parts = and_parts (ltb 0 n) (leb n 65535) g.0 in
    let same = some_same n port g.1 in
    (g.1, omega (arith, same, ltb-true 0 n parts.0), omega (arith, same, leb-true n 65535 parts.1))

port_of_number : (digits : List ℕ) (port : ℕ) → 0 < length digits → port_number digits ≡ Some port → IsPort digits port
unfolding port_number
port_of_number digits port some e =
    let g = guarded (leb (length digits) 5) (option_and_then in_port_range (number_of_digits digits)) port e in
    let range = port_in_range (number_of_digits digits) port g.1 in
    let number = folded_of_number 0 port digits range.0 in
    (some, leb-true (length digits) 5 g.0, number.0, sym (value_is digits number.0) ∙ number.1, range.1, range.2)

-- what follows a host
pub port_after : (digits : List ℕ) → port_of (58 ∷ digits) ≡ port_of_digits digits
unfolding port_of
port_after digits = cond-false (eqb (length (58 ∷ digits)) 0) (Ok None) (port_of_digits digits) (ne_eqb (length (58 ∷ digits)) 0 (λ e. omega (arith, e)))

pub no_port_after : (byte : ℕ) (bytes : List ℕ) → eqb byte 58 ≡ false → port_of (byte ∷ bytes) ≡ Err 0
unfolding port_of
no_port_after byte bytes h = cond-false (eqb (length (byte ∷ bytes)) 0) (Ok None) _ (ne_eqb (length (byte ∷ bytes)) 0 (λ e. omega (arith, e))) ∙ cond-false (eqb byte 58) (port_of_digits bytes) (Err 0) h

pub no_port : port_of [] ≡ Ok None
unfolding port_of
no_port = refl

abbrev pub of_number : Option ℕ → ℕ → Result (Option ℕ) ℕ
of_number number front = option_map_or (λ n. Ok (Some n)) number (Err front)

pub digits_port : (digit : ℕ) (digits : List ℕ) → port_of_digits (digit ∷ digits) ≡ of_number (port_number (digit ∷ digits)) (port_front 0 0 (digit ∷ digits) + 1)
digits_port digit digits = cond-false (eqb (length (digit ∷ digits)) 0) (Ok None) _ (ne_eqb (length (digit ∷ digits)) 0 (λ e. omega (arith, e)))

some_digits : (digits : List ℕ) (port : ℕ) → IsPort digits port → port_of_digits digits ≡ Ok (Some port)
some_digits [] port is = absurd (omega (arith, is.0))
some_digits (digit ∷ digits) port is = digits_port digit digits ∙ ap (λ (o : Option ℕ). of_number o (port_front 0 0 (digit ∷ digits) + 1)) (port_number_is (digit ∷ digits) port is)

-- the port that is read is one, and a port is read
port_is_read : (text : List ℕ) (port : Option ℕ) → IsPortPart text port → port_of text ≡ Ok port
port_is_read text None (inl e) = ap port_of e ∙ no_port
port_is_read text None (inr e) = ap port_of e ∙ port_after []
port_is_read text (Some port) is = ap port_of is.1 ∙ port_after is.0 ∙ some_digits is.0 port is.2

number_read : (digits : List ℕ) (number port : Option ℕ) (front : ℕ) → port_number digits ≡ number → 0 < length digits → of_number number front ≡ Ok port → IsPortPart (58 ∷ digits) port
number_read digits None port front e some h = absurd (err_ok port front h)
number_read digits (Some n) port front e some h = subst (λ (p : Option ℕ). IsPortPart (58 ∷ digits) p) (ok_same (Some n) port h) (digits, refl, port_of_number digits n some e)

digits_read : (digits : List ℕ) (port : Option ℕ) → port_of_digits digits ≡ Ok port → IsPortPart (58 ∷ digits) port
digits_read [] port e = subst (λ (p : Option ℕ). IsPortPart (58 ∷ []) p) (ok_same None port e) (inr refl)
digits_read (digit ∷ digits) port e = number_read (digit ∷ digits) (port_number (digit ∷ digits)) port (port_front 0 0 (digit ∷ digits) + 1) refl (omega arith) (sym (digits_port digit digits) ∙ e)

port_of_read : (text : List ℕ) (port : Option ℕ) → port_of text ≡ Ok port → IsPortPart text port
port_of_read [] port e = subst (λ (p : Option ℕ). IsPortPart [] p) (ok_same None port (sym no_port ∙ e)) (inl refl)
port_of_read (byte ∷ bytes) port e =
    ⊎_elim (λ here.
    let is = eqb-true byte 58 here in
    subst (λ (b : ℕ). IsPortPart (b ∷ bytes) port) (sym is) (digits_read bytes port (sym (port_after bytes) ∙ subst (λ (b : ℕ). port_of (b ∷ bytes) ≡ Ok port) is e)))
    (λ gone. absurd (err_ok port 0 (sym (no_port_after byte bytes gone) ∙ e))) (cases_Bool (eqb byte 58))

pub host_rest : (rest : List ℕ) (port : Option ℕ) → IsPortPart rest port → prefix_len is_name_byte rest ≡ 0
host_rest rest None (inl e) = rw e refl
host_rest rest None (inr e) = rw e refl
host_rest rest (Some port) is = rw is.1 refl

pub some_host : (host : List ℕ) → IsHost host → 0 < length host
some_host host (inl name) = name.0
some_host host (inr bracketed) = omega (arith, ap length bracketed.1)

pub endpoint_parts : (text : List ℕ) (n : ℕ) → host_length text ≡ n → 0 < n → endpoint_of text ≡ endpoint_at (take n text) (port_of (drop n text))
unfolding endpoint_of
endpoint_parts text n e some = rw e (cond-false (eqb n 0) (Err (BadHost (host_front text))) (endpoint_at (take n text) (port_of (drop n text))) (ne_eqb n 0 (λ z. omega (arith, z))))

pub no_endpoint : (text : List ℕ) → host_length text ≡ 0 → endpoint_of text ≡ Err (BadHost (host_front text))
unfolding endpoint_of
no_endpoint text e = rw e refl

pub endpoint_is_read : (text : List ℕ) (endpoint : Endpoint) → IsEndpoint text endpoint → endpoint_of text ≡ Ok endpoint
endpoint_is_read text endpoint is =
    let host = is.0 in
    let rest = is.1 in
    let long = host_is_read host rest is.3 (host_rest rest endpoint.port is.5) in
    ap endpoint_of is.2 ∙ endpoint_parts (host ++ rest) (length host) long (some_host host is.3) ∙ ap (λ (h : List ℕ). endpoint_at h (port_of (drop (length host) (host ++ rest)))) (take_at host rest (length host) refl) ∙ ap (λ (r : List ℕ). endpoint_at host (port_of r)) (drop_at host rest (length host) refl) ∙ ap (endpoint_at host) (port_is_read rest endpoint.port is.5) ∙ ap (λ (h : List ℕ). Ok (record { host = h; port = endpoint.port })) (sym is.4)

at_read : (host rest : List ℕ) (read : Result (Option ℕ) ℕ) (endpoint : Endpoint) → port_of rest ≡ read → endpoint_at host read ≡ Ok endpoint → (endpoint.host ≡ str_to_ascii_lowercase host) × IsPortPart rest endpoint.port
at_read host rest (Err at) endpoint e h = absurd (err_ok endpoint (BadPort (length host + at)) h)
at_read host rest (Ok port) endpoint e h =
    let same = ok_same (record { host = str_to_ascii_lowercase host; port = port }) endpoint h in
    (ap (λ (x : Endpoint). x.host) (sym same), port_of_read rest endpoint.port (e ∙ ap (λ (x : Endpoint). Ok x.port) same))

pub endpoint_of_read : (text : List ℕ) (endpoint : Endpoint) → endpoint_of text ≡ Ok endpoint → IsEndpoint text endpoint
endpoint_of_read text endpoint e = elim (cases_lt 0 (host_length text)) [
  | inl some ↦ let n = host_length text in
      let parts = at_read (take n text) (drop n text) (port_of (drop n text)) endpoint refl (sym (endpoint_parts text n refl some) ∙ e) in
      (take n text, drop n text, sym (take-append-drop n text), host_of_length text some, parts.0, parts.1)
  | inr none ↦ absurd (err_ok endpoint (BadHost (host_front text)) (sym (no_endpoint text (omega arith)) ∙ e))
]

pub one_endpoint : (text : List ℕ) (endpoint other : Endpoint) → IsEndpoint text endpoint → IsEndpoint text other → endpoint ≡ other
one_endpoint text endpoint other is also = ok_same endpoint other (sym (endpoint_is_read text endpoint is) ∙ endpoint_is_read text other also)

refused : (text : List ℕ) (fault : EndpointFault) → endpoint_of text ≡ Err fault → (endpoint : Endpoint) → IsEndpoint text endpoint → ⊥
refused text fault e endpoint is = err_ok endpoint fault (sym e ∙ endpoint_is_read text endpoint is)

-- what a reader answers, in the words of the grammar
pub endpoint_answers : (text : List ℕ) (result : Result Endpoint EndpointFault) → ReadsEndpoint text result → AnswersEndpoint text result
endpoint_answers text (Ok endpoint) e = endpoint_of_read text endpoint e
endpoint_answers text (Err (BadHost at)) e = refused text (BadHost at) e
endpoint_answers text (Err (BadPort at)) e = refused text (BadPort at) e
endpoint_answers text (Err Memory) e = tt
