-- What is written for a target is read again as that target.
use Rattle.std.proofs.Common.{◌≡◌, ◌≢◌, ℕ, ◌^◌, ◌<◌, ◌≤◌, Bool, true, false, cond, List, [], ◌∷◌, ◌++◌, length, refl, ap, sym, subst, ◌∙◌, arith, Option, Some, None, leb, eqb, ◌==◌, ◌&&◌, ◌||◌, append_assoc, ⊎_elim, inl, inr, ◌⊎◌, lit<, decimal}
use Rattle.std.proofs.lemmas.Bool.{cases_Bool, cond-true, cond-false, leb-true, eqb-true, and_parts, or_cases}
use Rattle.std.proofs.lemmas.List.{length-map, map-append}
use Rattle.std.proofs.lemmas.List.Folds.{list_all-map}
use Rattle.std.proofs.lemmas.Fmt.{digits_decimal, digits_value-decimal, decimal_nonempty, length-decimal-le}
use Rattle.std.proofs.lemmas.Str.Parse.{IsNumeralModel, numerals_by_value, tells_all_ascii_digits}
use Rattle.std.proofs.lemmas.Str.Ascii.{lowercase-lowercase}
use Rattle.std.specs.List.{list_all}
use Rattle.std.specs.Char.{is_ascii_alphanumeric, is_ascii_hexdigit, to_ascii_lowercase}
use Rattle.std.specs.Str.{str_to_ascii_lowercase, all_ascii_digits}
use Rattle.std.specs.Str.Parse.{digits_value}
use Rattle.std.specs.Int.{is_in_range}
use Rattle.targets.specs.declared.endpoint.Endpoint.{Endpoint}
use Rattle.targets.specs.declared.target.Protocol.{Protocol}
use Rattle.targets.specs.declared.target.Protocol.TheVariants.{Http, Https}
use Rattle.targets.specs.declared.target.Target.{Target}
use Rattle.targets.specs.Endpoint.{is_name_byte, is_address_byte}
use Rattle.targets.specs.Target.{is_https, port_or_default, scheme_text, port_text, query_text, url_text}
use Rattle.targets.specs.Grammar.{IsHost, IsPort, IsPortPart, IsEndpoint, IsPath, IsQuery, IsPathAndQuery, IsQueryAlone, IsAt, IsScheme, IsTarget}
use Rattle.targets.proofs.RowLemmas.{follows, hex_small}
use Rattle.targets.proofs.TargetLemmas.{all_imply}

-- a host in lower case is a host
pub lower_twice : (text : List ℕ) → str_to_ascii_lowercase (str_to_ascii_lowercase text) ≡ str_to_ascii_lowercase text
lower_twice [] = refl
lower_twice (byte ∷ bytes) = ap (λ (b : ℕ). b ∷ str_to_ascii_lowercase (str_to_ascii_lowercase bytes)) (lowercase-lowercase byte) ∙ ap (λ (xs : List ℕ). to_ascii_lowercase byte ∷ xs) (lower_twice bytes)

range_small : (low high byte : ℕ) → high < 128 → is_in_range low high byte ≡ true → byte < 128
range_small low high byte small h = let p = and_parts (leb low byte) (leb byte high) h in omega (arith, leb-true byte high p.1)

letter_small : (byte : ℕ) → is_ascii_alphanumeric byte ≡ true → byte < 128
letter_small byte h = elim (or_cases (is_in_range 48 57 byte || is_in_range 65 90 byte) (is_in_range 97 122 byte) h) [
  | inl front ↦ elim (or_cases (is_in_range 48 57 byte) (is_in_range 65 90 byte) front) [ inl a ↦ range_small 48 57 byte (lit< tt) a | inr b ↦ range_small 65 90 byte (lit< tt) b ]
  | inr c ↦ range_small 97 122 byte (lit< tt) c
]

same_small : (byte sign : ℕ) → sign < 128 → eqb byte sign ≡ true → byte < 128
same_small byte sign small h = omega (arith, eqb-true byte sign h)

name_small : (byte : ℕ) → is_name_byte byte ≡ true → byte < 128
name_small byte h = elim (or_cases (is_ascii_alphanumeric byte || byte == 46 || byte == 45) (byte == 95) h) [
  | inl front ↦ elim (or_cases (is_ascii_alphanumeric byte || byte == 46) (byte == 45) front) [
    | inl more ↦ elim (or_cases (is_ascii_alphanumeric byte) (byte == 46) more) [ inl letter ↦ letter_small byte letter | inr dot ↦ same_small byte 46 (lit< tt) dot ]
    | inr dash ↦ same_small byte 45 (lit< tt) dash
  ]
  | inr line ↦ same_small byte 95 (lit< tt) line
]

address_small : (byte : ℕ) → is_address_byte byte ≡ true → byte < 128
address_small byte h = elim (or_cases (is_ascii_hexdigit byte || byte == 58) (byte == 46) h) [
  | inl front ↦ elim (or_cases (is_ascii_hexdigit byte) (byte == 58) front) [ inl digit ↦ hex_small byte digit | inr colon ↦ same_small byte 58 (lit< tt) colon ]
  | inr dot ↦ same_small byte 46 (lit< tt) dot
]

lower_name : (byte : ℕ) → is_name_byte byte ≡ true → is_name_byte (to_ascii_lowercase byte) ≡ true
lower_name byte h = follows is_name_byte (λ b. is_name_byte (to_ascii_lowercase b)) refl byte (name_small byte h) h

lower_address : (byte : ℕ) → is_address_byte byte ≡ true → is_address_byte (to_ascii_lowercase byte) ≡ true
lower_address byte h = follows is_address_byte (λ b. is_address_byte (to_ascii_lowercase b)) refl byte (address_small byte h) h

all_lower : (test : ℕ → Bool) → ((byte : ℕ) → test byte ≡ true → test (to_ascii_lowercase byte) ≡ true) → (text : List ℕ) → list_all test text ≡ true → list_all test (str_to_ascii_lowercase text) ≡ true
all_lower test one text h = list_all-map test to_ascii_lowercase text ∙ all_imply test (λ b. test (to_ascii_lowercase b)) one text h

lower_length : (text : List ℕ) → length (str_to_ascii_lowercase text) ≡ length text
lower_length text = length-map text to_ascii_lowercase

lower_host : (host : List ℕ) → IsHost host → IsHost (str_to_ascii_lowercase host)
lower_host host (inl name) =
    let long = lower_length host in
    inl (omega (arith, long, name.0), omega (arith, long, name.1), all_lower is_name_byte lower_name host name.2)
lower_host host (inr bracketed) =
    let address = bracketed.0 in
    let long = lower_length host in
    let short = lower_length address in
    let text : str_to_ascii_lowercase host ≡ 91 ∷ (str_to_ascii_lowercase address ++ 93 ∷ []) = ap str_to_ascii_lowercase bracketed.1 ∙ ap (λ (xs : List ℕ). 91 ∷ xs) (map-append to_ascii_lowercase address (93 ∷ [])) in
    inr (str_to_ascii_lowercase address, text, omega (arith, short, bracketed.2), omega (arith, long, bracketed.3), all_lower is_address_byte lower_address address bracketed.4)

-- what is known of the parts of a target
own : IsNumeralModel (λ ds. all_ascii_digits ds ≡ true) (digits_value 10)
own = numerals_by_value (λ ds. all_ascii_digits ds ≡ true) tells_all_ascii_digits

record IsWritable (target : Target) : Type 0 where
  host : IsHost target.host
  lower : target.host ≡ str_to_ascii_lowercase target.host
  least : 1 ≤ target.port
  most : target.port ≤ 65535
  path : IsPath target.path
  query : IsQuery target.query

port_bounds : (text : List ℕ) (port : Option ℕ) (secure : Bool) → IsPortPart text port → (1 ≤ port_or_default secure port) × (port_or_default secure port ≤ 65535)
port_bounds text None secure is = (omega arith, omega arith)
port_bounds text (Some port) secure is = ⊎_elim (λ here. rw (cond-true (secure && eqb port 443) 80 port here) (omega arith, omega arith)) (λ gone. rw (cond-false (secure && eqb port 443) 80 port gone) (is.2.4, is.2.5)) (cases_Bool (secure && eqb port 443))

at_writable : (text : List ℕ) (endpoint : Endpoint) (secure : Bool) (target : Target) → IsEndpoint text endpoint → IsAt endpoint secure target → IsPath target.path → IsQuery target.query → IsWritable target
at_writable text endpoint secure target is at path query =
    let name : target.host ≡ str_to_ascii_lowercase is.0 = at.0 ∙ is.4 in
    let bounds = port_bounds is.1 endpoint.port secure is.5 in
    record {
      host = subst IsHost (sym name) (lower_host is.0 is.3);
      lower = name ∙ sym (lower_twice is.0) ∙ ap str_to_ascii_lowercase (sym name);
      least = omega (arith, at.1, bounds.0);
      most = omega (arith, at.1, bounds.1);
      path = path;
      query = query;
    }

root_path : (path : List ℕ) → path ≡ 47 ∷ [] → IsPath path
root_path path e = ([], e, ([], refl, tt))

tail_path : (rest path : List ℕ) (query : Option (List ℕ)) → IsPathAndQuery rest path query ⊎ IsQueryAlone rest path query → IsPath path × IsQuery query
tail_path rest path query (inl is) = (is.1, is.2)
tail_path rest path query (inr is) = (root_path path is.1, is.2)

writable : (text : List ℕ) (host : Option (List ℕ)) (secure : Bool) (target : Target) → IsTarget text host secure target → IsWritable target
writable text host secure target (fits, inl is) = let tail = tail_path is.2 target.path target.query is.9 in at_writable is.1 is.4 (is_https is.3) target is.7 is.8 tail.0 tail.1
writable text None secure target (fits, inr is) = absurd is
writable text (Some host) secure target (fits, inr is) = at_writable host is.0 secure target is.1 is.2 is.3.1 is.3.2

-- the port that is written
abbrev port_option : ℕ → Option ℕ
port_option port = cond (eqb port 80) None (Some port)

written_port : (port : ℕ) → 1 ≤ port → port ≤ 65535 → IsPortPart (port_text port) (port_option port)
written_port port least most =
    ⊎_elim (λ here. rw (cond-true (eqb port 80) [] (58 ∷ decimal port) here, cond-true (eqb port 80) None (Some port) here) (inl refl))
    (λ gone.
    let small : port < 2 ^ 64 = omega arith in
    let digits : IsPort (decimal port) port = (decimal_nonempty port small, length-decimal-le 5 port (lit< tt) (omega arith) small, digits_decimal own port small, digits_value-decimal own port small, least, most) in
    rw (cond-false (eqb port 80) [] (58 ∷ decimal port) gone, cond-false (eqb port 80) None (Some port) gone) (decimal port, refl, digits)) (cases_Bool (eqb port 80))

read_port : (port : ℕ) (https : Bool) → (https ≡ true → port ≢ 443) → port_or_default https (port_option port) ≡ port
read_port port https other =
    ⊎_elim (λ here. ap (port_or_default https) (cond-true (eqb port 80) None (Some port) here) ∙ sym (eqb-true port 80 here))
    (λ gone. ap (port_or_default https) (cond-false (eqb port 80) None (Some port) gone) ∙ ⊎_elim (λ absent. let both = and_parts https (eqb port 443) absent in absurd (other both.0 (eqb-true port 443 both.1))) (λ there. cond-false (https && eqb port 443) 80 port there) (cases_Bool (https && eqb port 443))) (cases_Bool (eqb port 80))

protocol_of : Bool → Protocol
protocol_of true = Https
protocol_of false = Http

written_scheme : (https : Bool) → IsScheme (scheme_text https) (protocol_of https)
unfolding protocol_of
written_scheme true = refl
written_scheme false = refl

protocol_is : (https : Bool) → is_https (protocol_of https) ≡ https
unfolding protocol_of
protocol_is true = refl
protocol_is false = refl

pub written_is_read : (text : List ℕ) (host other : Option (List ℕ)) (secure with_secure https : Bool) (target : Target) → IsTarget text host secure target → (https ≡ true → target.port ≢ 443) → length (url_text https target) ≤ 4096 → IsTarget (url_text https target) other with_secure target
written_is_read text host other secure with_secure https target is port fits =
    let parts = writable text host secure target is in
    let authority = target.host ++ port_text target.port in
    let rest = target.path ++ query_text target.query in
    let endpoint : Endpoint = record { host = target.host; port = port_option target.port } in
    let whole : IsEndpoint authority endpoint = (target.host, port_text target.port, refl, parts.host, parts.lower, written_port target.port parts.least parts.most) in
    let at : IsAt endpoint (is_https (protocol_of https)) target = (refl, sym (read_port target.port https port) ∙ ap (λ (b : Bool). port_or_default b (port_option target.port)) (sym (protocol_is https))) in
    let text_is = ap (λ (xs : List ℕ). xs ++ target.path ++ query_text target.query) (append_assoc (scheme_text https) target.host (port_text target.port)) ∙ append_assoc (scheme_text https ++ authority) target.path (query_text target.query) ∙ append_assoc (scheme_text https) authority rest in
    (fits, inl (scheme_text https, authority, rest, protocol_of https, endpoint, text_is, written_scheme https, whole, at, inl (refl, parts.path, parts.query)))
