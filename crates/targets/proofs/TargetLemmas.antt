-- The grammar of targets against its reading.
use Rattle.std.proofs.Common.{◌≡◌, ℕ, ◌+◌, ◌-◌, ◌<◌, ◌≤◌, Bool, true, false, cond, List, [], ◌∷◌, ◌++◌, length, get_or, take, drop, suc, refl, ap, sym, subst, ◌∙◌, arith, Option, Some, None, ltb, eqb, ◌||◌, append-nil, ⊎_elim, inl, inr, ◌⊎◌, Ok, Err}
use Rattle.std.proofs.lemmas.Bool.{cases_Bool, cond-true, cond-false, lt-ltb, le-ltb, eqb-true, ne_eqb, and_parts, and_from, or_cases, or_from, both_ways, not_from_true, cases_lt}
use Rattle.std.proofs.lemmas.List.{take-append-drop, take_at, drop_at, drop-drop, take-map, length-map, length-take, map-append}
use Rattle.std.proofs.lemmas.List.Sums.{prefix_len-le-length}
use Rattle.std.proofs.lemmas.List.Folds.{list_all-append}
use Rattle.std.proofs.lemmas.Slice.Eq.{bytes_eq-Decides}
use Rattle.std.specs.List.{prefix_len, list_all}
use Rattle.std.specs.Option.{option_map_or}
use Rattle.std.specs.Char.{is_ascii_hexdigit, is_ascii_digit, to_ascii_lowercase}
use Rattle.std.specs.Str.{str_to_ascii_lowercase, all_ascii_digits}
use Rattle.std.specs.Prelude.{codes, bytes_eq}
use Rattle.std.specs.declared.result.Result.{Result}
use Rattle.targets.specs.declared.endpoint.Endpoint.{Endpoint}
use Rattle.targets.specs.declared.endpoint.EndpointFault.{EndpointFault}
use Rattle.targets.specs.declared.target.Protocol.{Protocol}
use Rattle.targets.specs.declared.target.Protocol.TheVariants.{Http, Https}
use Rattle.targets.specs.declared.target.Target.{Target}
use Rattle.targets.specs.declared.target.TargetFault.{TargetFault}
use Rattle.targets.specs.declared.target.TargetFault.TheVariants.{TooLong, NoHost, BadHost, NotOrigin, BadPercent, Memory}
use Rattle.targets.specs.Endpoint.{is_name_byte, is_address_byte, endpoint_of}
use Rattle.targets.specs.Target.{begins_with, scheme_of, scheme_length, is_https, is_before_path, is_taken, wrong_byte, first_wrong, path_or_root, port_or_default, target_with, target_at, bad_host, first_wrong_of_path, target_after, absolute_target_at, absolute_target, target_by, target_of, ReadsTarget, query_text}
use Rattle.targets.specs.Grammar.{IsHost, IsPortPart, IsEndpoint, is_path_byte, is_query_byte, IsPath, IsQuery, IsPathAndQuery, IsQueryAlone, IsAt, IsScheme, IsAbsolute, IsOfHost, IsTarget, AnswersTarget}
use Rattle.targets.proofs.EndpointLemmas.{ok_same, err_ok, some_same, none_some, prefix_all, endpoint_is_read, endpoint_of_read}
use Rattle.targets.proofs.RowLemmas.{follows, hex_small, taken_in, no_wrong, all_taken, row_taken, taken_row, taken-append, no_mark, path_is_query, path_unmarked, parts_found, parts_none, parts_cases}

-- paths and queries
hex_path : (byte : ℕ) → is_ascii_hexdigit byte ≡ true → is_path_byte byte ≡ true
hex_path byte h = follows is_ascii_hexdigit is_path_byte refl byte (hex_small byte h) h

hex_query : (byte : ℕ) → is_ascii_hexdigit byte ≡ true → is_query_byte byte ≡ true
hex_query byte h = follows is_ascii_hexdigit is_query_byte refl byte (hex_small byte h) h

path_taken : (path : List ℕ) → IsPath path → taken_in is_path_byte path ≡ true
path_taken path is = ap (taken_in is_path_byte) is.1 ∙ row_taken is_path_byte refl hex_path is.0 is.2

query_taken : (query : Option (List ℕ)) → IsQuery query → taken_in is_query_byte (query_text query) ≡ true
query_taken None is = refl
query_taken (Some text) is = row_taken is_query_byte refl hex_query text is

query_first : (query : Option (List ℕ)) → is_ascii_hexdigit (get_or (query_text query) 0 0) ≡ false
query_first None = refl
query_first (Some text) = refl

tail_taken : (front : List ℕ) (query : Option (List ℕ)) → taken_in is_path_byte front ≡ true → IsQuery query → taken_in is_query_byte (front ++ query_text query) ≡ true
tail_taken front query h is =
    taken-append is_query_byte front (query_text query) (query_first query) ∙ and_from (taken_in is_query_byte front) (taken_in is_query_byte (query_text query)) (path_is_query front (path_unmarked front h) ∙ h) (query_taken query is)

abbrev cut_target : Endpoint → Bool → List ℕ → Option (List ℕ × List ℕ) → Target
cut_target endpoint secure text parts = option_map_or (λ p. target_with endpoint secure p.0 (Some p.1)) parts (target_with endpoint secure text None)

target_of_parts : (endpoint : Endpoint) (secure : Bool) (front : List ℕ) (query : Option (List ℕ)) → list_all no_mark front ≡ true → target_at endpoint secure (front ++ query_text query) ≡ target_with endpoint secure front query
target_of_parts endpoint secure front None h = ap (target_at endpoint secure) (append-nil front) ∙ ap (cut_target endpoint secure front) (parts_none front h)
target_of_parts endpoint secure front (Some query) h = ap (cut_target endpoint secure (front ++ 63 ∷ query)) (parts_found front query h)

-- a walked text is a path, or nothing, and a query
text_parts : (text : List ℕ) → taken_in is_query_byte text ≡ true → (front : List ℕ) × (query : Option (List ℕ)) × (text ≡ front ++ query_text query) × (taken_in is_path_byte front ≡ true) × IsQuery query
text_parts text h =
    ⊎_elim (λ cut.
    let front = cut.0 in
    let query = cut.1 in
    let both = and_parts (taken_in is_query_byte front) (taken_in is_query_byte (63 ∷ query)) (sym (taken-append is_query_byte front (63 ∷ query) refl) ∙ ap (taken_in is_query_byte) (sym cut.2) ∙ h) in
    (front, Some query, cut.2, sym (path_is_query front cut.3) ∙ both.0, taken_row is_query_byte query both.1))
    (λ whole. (text, None, sym (append-nil text), sym (path_is_query text whole) ∙ h, tt)) (parts_cases text)

path_from : (front more : List ℕ) → front ≡ 47 ∷ more → taken_in is_path_byte front ≡ true → IsPath front
path_from front more e h = (more, e, taken_row is_path_byte more (ap (taken_in is_path_byte) (sym e) ∙ h))

first_is : (a b : ℕ) (xs ys : List ℕ) → a ∷ xs ≡ b ∷ ys → a ≡ b
first_is a b xs ys e = ap (λ (zs : List ℕ). get_or zs 0 0) e

-- the path of a text that begins with `/`
path_first : (more front : List ℕ) (query : Option (List ℕ)) → 47 ∷ more ≡ front ++ query_text query → (rest : List ℕ) × (front ≡ 47 ∷ rest)
path_first more [] None e = absurd (omega (arith, ap length e))
path_first more [] (Some query) e = absurd (omega (arith, first_is 47 63 more query e))
path_first more (byte ∷ bytes) query e = (bytes, ap (λ (b : ℕ). b ∷ bytes) (sym (first_is 47 byte more (bytes ++ query_text query) e)))

-- targets by their fields
same_target : (endpoint : Endpoint) (secure : Bool) (front : List ℕ) (query : Option (List ℕ)) (target : Target) → IsAt endpoint secure target → target.path ≡ path_or_root front → target.query ≡ query → target_with endpoint secure front query ≡ target
same_target endpoint secure front query target at path same =
    sym (ap (λ h. record { host = h; port = target.port; path = target.path; query = target.query }) at.0 ∙ ap (λ p. record { host = endpoint.host; port = p; path = target.path; query = target.query }) at.1 ∙ ap (λ p. record { host = endpoint.host; port = port_or_default secure endpoint.port; path = p; query = target.query }) path ∙ ap (λ q. record { host = endpoint.host; port = port_or_default secure endpoint.port; path = path_or_root front; query = q }) same)

at_from : (endpoint : Endpoint) (secure : Bool) (front : List ℕ) (query : Option (List ℕ)) (target : Target) → target_with endpoint secure front query ≡ target → IsAt endpoint secure target × (target.path ≡ path_or_root front) × (target.query ≡ query)
at_from endpoint secure front query target e = ((ap (λ (t : Target). t.host) (sym e), ap (λ (t : Target). t.port) (sym e)), ap (λ (t : Target). t.path) (sym e), ap (λ (t : Target). t.query) (sym e))

after_ok : (endpoint : Endpoint) (secure : Bool) (wrong : Option TargetFault) (text : List ℕ) → wrong ≡ None → target_after (Ok endpoint) secure wrong text ≡ Ok (target_at endpoint secure text)
after_ok endpoint secure wrong text e = ap (λ (w : Option TargetFault). target_after (Ok endpoint) secure w text) e

after_read : (read : Result Endpoint EndpointFault) (secure : Bool) (wrong : Option TargetFault) (text : List ℕ) (target : Target) → target_after read secure wrong text ≡ Ok target → (endpoint : Endpoint) × (read ≡ Ok endpoint) × (wrong ≡ None) × (target_at endpoint secure text ≡ target)
after_read (Err fault) secure wrong text target h = absurd (err_ok target (bad_host fault) h)
after_read (Ok endpoint) secure (Some fault) text target h = absurd (err_ok target fault h)
after_read (Ok endpoint) secure None text target h = (endpoint, refl, refl, ok_same (target_at endpoint secure text) target h)

-- the tail of a text is read: a path and a query, or a query alone
root_of : (front more : List ℕ) → front ≡ 47 ∷ more → path_or_root front ≡ front
root_of front more e = ap path_or_root e ∙ sym e

path_is_read : (endpoint : Endpoint) (secure : Bool) (text : List ℕ) (target : Target) → IsAt endpoint secure target → IsPathAndQuery text target.path target.query → (taken_in is_query_byte text ≡ true) × (target_at endpoint secure text ≡ target)
path_is_read endpoint secure text target at is =
    let h = path_taken target.path is.1 in (
      ap (taken_in is_query_byte) is.0 ∙ tail_taken target.path target.query h is.2,
      ap (target_at endpoint secure) is.0 ∙ target_of_parts endpoint secure target.path target.query (path_unmarked target.path h) ∙ same_target endpoint secure target.path target.query target at (sym (root_of target.path is.1.0 is.1.1)) refl,
    )

query_is_read : (endpoint : Endpoint) (secure : Bool) (text : List ℕ) (target : Target) → IsAt endpoint secure target → IsQueryAlone text target.path target.query → (taken_in is_query_byte text ≡ true) × (target_at endpoint secure text ≡ target)
query_is_read endpoint secure text target at is =
    (ap (taken_in is_query_byte) is.0 ∙ tail_taken [] target.query refl is.2, ap (target_at endpoint secure) is.0 ∙ target_of_parts endpoint secure [] target.query refl ∙ same_target endpoint secure [] target.query target at is.1 refl)

-- a text of a path is read of its host
no_scheme : (more : List ℕ) → scheme_of (47 ∷ more) ≡ None
unfolding scheme_of
no_scheme more = refl

pub within_limit : (text : List ℕ) (host : Option (List ℕ)) (secure : Bool) → length text ≤ 4096 → target_of text host secure ≡ target_by (scheme_of text) text host secure
unfolding target_of
within_limit text host secure h = cond-false (ltb 4096 (length text)) (Err (TooLong (length text))) (target_by (scheme_of text) text host secure) (le-ltb 4096 (length text) h)

pub past_limit : (text : List ℕ) (host : Option (List ℕ)) (secure : Bool) → 4096 < length text → target_of text host secure ≡ Err (TooLong (length text))
unfolding target_of
past_limit text host secure h = cond-true (ltb 4096 (length text)) (Err (TooLong (length text))) (target_by (scheme_of text) text host secure) (lt-ltb 4096 (length text) h)

-- schemes
word_length : (text word : List ℕ) → str_to_ascii_lowercase text ≡ word → length text ≡ length word
word_length text word e = sym (length-map text to_ascii_lowercase) ∙ ap length e

begins_from : (word text : List ℕ) → str_to_ascii_lowercase (take (length word) text) ≡ str_to_ascii_lowercase word → begins_with word text ≡ true
begins_from word text e = (bytes_eq-Decides (str_to_ascii_lowercase (take (length word) text)) (str_to_ascii_lowercase word)).1 e

begins_is : (word text : List ℕ) → begins_with word text ≡ true → str_to_ascii_lowercase (take (length word) text) ≡ str_to_ascii_lowercase word
begins_is word text h = (bytes_eq-Decides (str_to_ascii_lowercase (take (length word) text)) (str_to_ascii_lowercase word)).0 h

http_begins : (scheme more : List ℕ) → IsScheme scheme Http → begins_with (codes "http://") (scheme ++ more) ≡ true
http_begins scheme more is = begins_from (codes "http://") (scheme ++ more) (ap str_to_ascii_lowercase (take_at scheme more 7 (word_length scheme (codes "http://") is)) ∙ is)

https_begins : (scheme more : List ℕ) → IsScheme scheme Https → begins_with (codes "https://") (scheme ++ more) ≡ true
https_begins scheme more is = begins_from (codes "https://") (scheme ++ more) (ap str_to_ascii_lowercase (take_at scheme more 8 (word_length scheme (codes "https://") is)) ∙ is)

https_is_not_http : (scheme more : List ℕ) → IsScheme scheme Https → begins_with (codes "http://") (scheme ++ more) ≡ false
https_is_not_http scheme more is =
    ap (λ (xs : List ℕ). bytes_eq xs (codes "http://")) (sym (take-map to_ascii_lowercase 7 (scheme ++ more)) ∙ ap (take 7) (map-append to_ascii_lowercase scheme more ∙ ap (λ (ys : List ℕ). ys ++ str_to_ascii_lowercase more) is))

abbrev second_scheme : List ℕ → Option Protocol
second_scheme text = cond (begins_with (codes "https://") text) (Some Https) None

first_scheme : (text : List ℕ) → begins_with (codes "http://") text ≡ true → scheme_of text ≡ Some Http
unfolding scheme_of
first_scheme text h = cond-true (begins_with (codes "http://") text) (Some Http) (second_scheme text) h

other_scheme : (text : List ℕ) → begins_with (codes "http://") text ≡ false → scheme_of text ≡ second_scheme text
unfolding scheme_of
other_scheme text h = cond-false (begins_with (codes "http://") text) (Some Http) (second_scheme text) h

scheme_is_read : (scheme more : List ℕ) (protocol : Protocol) → IsScheme scheme protocol → (scheme_of (scheme ++ more) ≡ Some protocol) × (length scheme ≡ scheme_length protocol)
scheme_is_read scheme more Http is = (first_scheme (scheme ++ more) (http_begins scheme more is), word_length scheme (codes "http://") is)
scheme_is_read scheme more Https is =
    (other_scheme (scheme ++ more) (https_is_not_http scheme more is) ∙ cond-true (begins_with (codes "https://") (scheme ++ more)) (Some Https) None (https_begins scheme more is), word_length scheme (codes "https://") is)

abbrev IsSchemeOf : List ℕ → Protocol → Type 0
IsSchemeOf text protocol = IsScheme (take (scheme_length protocol) text) protocol

scheme_read : (text : List ℕ) (protocol : Protocol) → scheme_of text ≡ Some protocol → IsSchemeOf text protocol
scheme_read text protocol e =
    ⊎_elim (λ first. subst (IsSchemeOf text) (some_same Http protocol (sym (first_scheme text first) ∙ e)) (begins_is (codes "http://") text first))
    (λ other. ⊎_elim (λ second. subst (IsSchemeOf text) (some_same Https protocol (sym (cond-true (begins_with (codes "https://") text) (Some Https) None second) ∙ sym (other_scheme text other) ∙ e)) (begins_is (codes "https://") text second))
    (λ none. absurd (none_some protocol (sym (cond-false (begins_with (codes "https://") text) (Some Https) None none) ∙ sym (other_scheme text other) ∙ e))) (cases_Bool (begins_with (codes "https://") text))) (cases_Bool (begins_with (codes "http://") text))

-- an endpoint has no `/` and no `?`
pub all_imply : (p q : ℕ → Bool) → ((byte : ℕ) → p byte ≡ true → q byte ≡ true) → (text : List ℕ) → list_all p text ≡ true → list_all q text ≡ true
all_imply p q one [] h = refl
all_imply p q one (byte ∷ bytes) h = let r = and_parts (p byte) (list_all p bytes) h in and_from (q byte) (list_all q bytes) (one byte r.0) (all_imply p q one bytes r.1)

digits_imply : (q : ℕ → Bool) → ((byte : ℕ) → is_ascii_digit byte ≡ true → q byte ≡ true) → (text : List ℕ) → all_ascii_digits text ≡ true → list_all q text ≡ true
digits_imply q one [] h = refl
digits_imply q one (byte ∷ bytes) h = let r = and_parts (is_ascii_digit byte) (all_ascii_digits bytes) h in and_from (q byte) (list_all q bytes) (one byte r.0) (digits_imply q one bytes r.1)

before : (test : ℕ → Bool) → test 47 ≡ false → test 63 ≡ false → (byte : ℕ) → test byte ≡ true → is_before_path byte ≡ true
before test slash mark byte h =
    cond-false (eqb byte 47 || eqb byte 63) false true (or_from (eqb byte 47) (eqb byte 63) (ne_eqb byte 47 (λ e. both_ways (test 47) slash (ap test (sym e) ∙ h))) (ne_eqb byte 63 (λ e. both_ways (test 63) mark (ap test (sym e) ∙ h))))

all_append : (test : ℕ → Bool) (front rest : List ℕ) → list_all test front ≡ true → list_all test rest ≡ true → list_all test (front ++ rest) ≡ true
all_append test front rest h k = list_all-append test front rest ∙ and_from (list_all test front) (list_all test rest) h k

host_before : (host : List ℕ) → IsHost host → list_all is_before_path host ≡ true
host_before host (inl name) = all_imply is_name_byte is_before_path (before is_name_byte refl refl) host name.2
host_before host (inr bracketed) = ap (list_all is_before_path) bracketed.1 ∙ all_append is_before_path bracketed.0 (93 ∷ []) (all_imply is_address_byte is_before_path (before is_address_byte refl refl) bracketed.0 bracketed.4) refl

port_before : (text : List ℕ) (port : Option ℕ) → IsPortPart text port → list_all is_before_path text ≡ true
port_before text None (inl e) = ap (list_all is_before_path) e
port_before text None (inr e) = ap (list_all is_before_path) e
port_before text (Some port) is = ap (list_all is_before_path) is.1 ∙ digits_imply is_before_path (before is_ascii_digit refl refl) is.0 is.2.2

endpoint_before : (text : List ℕ) (endpoint : Endpoint) → IsEndpoint text endpoint → list_all is_before_path text ≡ true
endpoint_before text endpoint is = ap (list_all is_before_path) is.2 ∙ all_append is_before_path is.0 is.1 (host_before is.0 is.3) (port_before is.1 endpoint.port is.5)

-- a text with a scheme, cut before its path
pub absolute_parts : (protocol : Protocol) (text authority rest : List ℕ) → drop (scheme_length protocol) text ≡ authority ++ rest → prefix_len is_before_path (authority ++ rest) ≡ length authority → absolute_target protocol text ≡ target_after (endpoint_of authority) (is_https protocol) (first_wrong (scheme_length protocol + length authority) rest) rest
unfolding absolute_target
absolute_parts protocol text authority rest cut count =
    let n = scheme_length protocol in
    let m = length authority in
    let long : prefix_len is_before_path (drop n text) ≡ m = ap (prefix_len is_before_path) cut ∙ count in
    let front : take (n + m - n) (drop n text) ≡ authority = ap (λ (k : ℕ). take k (drop n text)) (omega arith) ∙ ap (take m) cut ∙ take_at authority rest m refl in
    let behind : drop (n + m) text ≡ rest = sym (drop-drop m n text) ∙ ap (drop m) cut ∙ drop_at authority rest m refl in
    ap (λ (k : ℕ). absolute_target_at (is_https protocol) n (n + k) text) long ∙ ap (λ (xs : List ℕ). target_after (endpoint_of xs) (is_https protocol) (first_wrong (n + m) (drop (n + m) text)) (drop (n + m) text)) front ∙ ap (λ (xs : List ℕ). target_after (endpoint_of authority) (is_https protocol) (first_wrong (n + m) xs) xs) behind

-- what follows an endpoint
tail_stops : (rest path : List ℕ) (query : Option (List ℕ)) → IsPathAndQuery rest path query ⊎ IsQueryAlone rest path query → prefix_len is_before_path rest ≡ 0
tail_stops rest path query (inl is) = ap (prefix_len is_before_path) (is.0 ∙ ap (λ (xs : List ℕ). xs ++ query_text query) is.1.1)
tail_stops rest path None (inr is) = ap (prefix_len is_before_path) is.0
tail_stops rest path (Some query) (inr is) = ap (prefix_len is_before_path) is.0

tail_is_read : (endpoint : Endpoint) (secure : Bool) (rest : List ℕ) (target : Target) → IsAt endpoint secure target → IsPathAndQuery rest target.path target.query ⊎ IsQueryAlone rest target.path target.query → (taken_in is_query_byte rest ≡ true) × (target_at endpoint secure rest ≡ target)
tail_is_read endpoint secure rest target at (inl is) = path_is_read endpoint secure rest target at is
tail_is_read endpoint secure rest target at (inr is) = query_is_read endpoint secure rest target at is

absolute_is_read : (text : List ℕ) (host : Option (List ℕ)) (secure : Bool) (target : Target) → length text ≤ 4096 → IsAbsolute text target → target_of text host secure ≡ Ok target
absolute_is_read text host secure target fits is =
    let scheme = is.0 in
    let authority = is.1 in
    let rest = is.2 in
    let protocol = is.3 in
    let endpoint = is.4 in
    let read = scheme_is_read scheme (authority ++ rest) protocol is.6 in
    let cut : drop (scheme_length protocol) text ≡ authority ++ rest = ap (drop (scheme_length protocol)) is.5 ∙ drop_at scheme (authority ++ rest) (scheme_length protocol) read.1 in
    let count = prefix_all is_before_path authority rest (endpoint_before authority endpoint is.7) (tail_stops rest target.path target.query is.9) in
    let tail = tail_is_read endpoint (is_https protocol) rest target is.8 is.9 in
    within_limit text host secure fits ∙ ap (λ (s : Option Protocol). target_by s text host secure) (ap scheme_of is.5 ∙ read.0) ∙ absolute_parts protocol text authority rest cut count ∙ ap (λ (r : Result Endpoint EndpointFault). target_after r (is_https protocol) (first_wrong (scheme_length protocol + length authority) rest) rest) (endpoint_is_read authority endpoint is.7) ∙ after_ok endpoint (is_https protocol) (first_wrong (scheme_length protocol + length authority) rest) rest (no_wrong (scheme_length protocol + length authority) rest tail.0) ∙ ap Ok tail.1

wrong_of_path : (more : List ℕ) → first_wrong_of_path (47 ∷ more) ≡ first_wrong 0 (47 ∷ more)
wrong_of_path more = refl

path_of_host_is_read : (text host : List ℕ) (secure : Bool) (target : Target) → length text ≤ 4096 → IsOfHost text (Some host) secure target → target_of text (Some host) secure ≡ Ok target
path_of_host_is_read text host secure target fits is =
    let endpoint = is.0 in
    let more = is.3.1.0 ++ query_text target.query in
    let begins : text ≡ 47 ∷ more = is.3.0 ∙ ap (λ (xs : List ℕ). xs ++ query_text target.query) is.3.1.1 in
    let tail = path_is_read endpoint secure text target is.2 is.3 in
    let right : first_wrong_of_path text ≡ None = ap first_wrong_of_path begins ∙ no_wrong 0 (47 ∷ more) (ap (taken_in is_query_byte) (sym begins) ∙ tail.0) in
    within_limit text (Some host) secure fits ∙ ap (λ (s : Option Protocol). target_by s text (Some host) secure) (ap scheme_of begins ∙ no_scheme more) ∙ ap (λ (r : Result Endpoint EndpointFault). target_after r secure (first_wrong_of_path text) text) (endpoint_is_read host endpoint is.1) ∙ after_ok endpoint secure (first_wrong_of_path text) text right ∙ ap Ok tail.1

pub target_is_read : (text : List ℕ) (host : Option (List ℕ)) (secure : Bool) (target : Target) → IsTarget text host secure target → target_of text host secure ≡ Ok target
target_is_read text host secure target (fits, inl is) = absolute_is_read text host secure target fits is
target_is_read text None secure target (fits, inr is) = absurd is
target_is_read text (Some host) secure target (fits, inr is) = path_of_host_is_read text host secure target fits is

-- what is read is a target of the grammar
stops_there : (test : ℕ → Bool) (text : List ℕ) → prefix_len test (drop (prefix_len test text) text) ≡ 0
stops_there test [] = refl
stops_there test (byte ∷ bytes) =
    ⊎_elim (λ here.
    let e : prefix_len test (byte ∷ bytes) ≡ suc (prefix_len test bytes) = cond-true (test byte) (1 + prefix_len test bytes) 0 here ∙ omega arith in
    ap (λ (n : ℕ). prefix_len test (drop n (byte ∷ bytes))) e ∙ stops_there test bytes)
    (λ gone.
    let e : prefix_len test (byte ∷ bytes) ≡ 0 = cond-false (test byte) (1 + prefix_len test bytes) 0 gone in
    ap (λ (n : ℕ). prefix_len test (drop n (byte ∷ bytes))) e ∙ e) (cases_Bool (test byte))

not_before : (byte : ℕ) (bytes : List ℕ) → prefix_len is_before_path (byte ∷ bytes) ≡ 0 → is_before_path byte ≡ false
not_before byte bytes e = ⊎_elim (λ here. absurd (omega (arith, e, cond-true (is_before_path byte) (1 + prefix_len is_before_path bytes) 0 here))) (λ gone. gone) (cases_Bool (is_before_path byte))

slash_of : (byte : ℕ) → is_before_path byte ≡ false → no_mark byte ≡ true → byte ≡ 47
slash_of byte h mark =
    ⊎_elim (λ one. elim (or_cases (eqb byte 47) (eqb byte 63) one) [
      | inl slash ↦ eqb-true byte 47 slash
      | inr here ↦ absurd (both_ways (no_mark byte) (not_from_true (eqb byte 63) here) mark)
    ])
    (λ none. absurd (both_ways (is_before_path byte) h (cond-false (eqb byte 47 || eqb byte 63) false true none))) (cases_Bool (eqb byte 47 || eqb byte 63))

-- a tail that stands behind an endpoint
tail_from : (rest front : List ℕ) (query : Option (List ℕ)) → prefix_len is_before_path rest ≡ 0 → rest ≡ front ++ query_text query → taken_in is_path_byte front ≡ true → IsQuery query → IsPathAndQuery rest (path_or_root front) query ⊎ IsQueryAlone rest (path_or_root front) query
tail_from rest [] query stop e h is = inr (e, refl, is)
tail_from rest (byte ∷ bytes) query stop e h is =
    let unmarked = and_parts (no_mark byte) (list_all no_mark bytes) (path_unmarked (byte ∷ bytes) h) in
    let slash = slash_of byte (not_before byte (bytes ++ query_text query) (ap (prefix_len is_before_path) (sym e) ∙ stop)) unmarked.0 in
    inl (e, path_from (byte ∷ bytes) bytes (ap (λ (b : ℕ). b ∷ bytes) slash) h, is)

tail_read : (endpoint : Endpoint) (secure : Bool) (rest : List ℕ) (target : Target) → prefix_len is_before_path rest ≡ 0 → taken_in is_query_byte rest ≡ true → target_at endpoint secure rest ≡ target → IsAt endpoint secure target × (IsPathAndQuery rest target.path target.query ⊎ IsQueryAlone rest target.path target.query)
tail_read endpoint secure rest target stop taken same =
    let parts = text_parts rest taken in
    let front = parts.0 in
    let query = parts.1 in
    let fields = at_from endpoint secure front query target (sym (target_of_parts endpoint secure front query (path_unmarked front parts.3)) ∙ ap (target_at endpoint secure) (sym parts.2) ∙ same) in
    let tail = tail_from rest front query stop parts.2 parts.3 parts.4 in
    (fields.0, subst (λ (q : Option (List ℕ)). IsPathAndQuery rest target.path q ⊎ IsQueryAlone rest target.path q) (sym fields.2) (subst (λ (p : List ℕ). IsPathAndQuery rest p query ⊎ IsQueryAlone rest p query) (sym fields.1) tail))

absolute_read : (text : List ℕ) (protocol : Protocol) (target : Target) → scheme_of text ≡ Some protocol → absolute_target protocol text ≡ Ok target → IsAbsolute text target
absolute_read text protocol target is_scheme e =
    let n = scheme_length protocol in
    let behind = drop n text in
    let m = prefix_len is_before_path behind in
    let authority = take m behind in
    let rest = drop m behind in
    let cut : behind ≡ authority ++ rest = sym (take-append-drop m behind) in
    let long : length authority ≡ m = omega (arith, length-take m behind, prefix_len-le-length is_before_path behind) in
    let count : prefix_len is_before_path (authority ++ rest) ≡ length authority = ap (prefix_len is_before_path) (sym cut) ∙ sym long in
    let read = after_read (endpoint_of authority) (is_https protocol) (first_wrong (n + length authority) rest) rest target (sym (absolute_parts protocol text authority rest cut count) ∙ e) in
    let endpoint = read.0 in
    let tail = tail_read endpoint (is_https protocol) rest target (stops_there is_before_path behind) (all_taken (n + length authority) rest read.2) read.3 in
    (take n text, authority, rest, protocol, endpoint, sym (take-append-drop n text) ∙ ap (λ (xs : List ℕ). take n text ++ xs) cut, scheme_read text protocol is_scheme, endpoint_of_read authority endpoint read.1, tail.0, tail.1)

some_none : {A : Type 0} (a : A) → Some a ≡ None → ⊥
some_none a h = cc

starts_with_slash : (text : List ℕ) → first_wrong_of_path text ≡ None → (more : List ℕ) × (text ≡ 47 ∷ more) × (first_wrong 0 text ≡ None)
starts_with_slash [] h = absurd (some_none (NotOrigin 0) h)
starts_with_slash (byte ∷ bytes) h =
    let other = cond (is_taken byte bytes) (Some (NotOrigin 0)) (Some (wrong_byte byte 0)) in
    ⊎_elim (λ here. (bytes, ap (λ (b : ℕ). b ∷ bytes) (eqb-true byte 47 here), sym (cond-true (eqb byte 47) (first_wrong 0 (byte ∷ bytes)) other here) ∙ h))
    (λ gone.
    let none : other ≡ None = sym (cond-false (eqb byte 47) (first_wrong 0 (byte ∷ bytes)) other gone) ∙ h in
    ⊎_elim (λ taken. absurd (some_none (NotOrigin 0) (sym (cond-true (is_taken byte bytes) (Some (NotOrigin 0)) (Some (wrong_byte byte 0)) taken) ∙ none)))
    (λ wrong. absurd (some_none (wrong_byte byte 0) (sym (cond-false (is_taken byte bytes) (Some (NotOrigin 0)) (Some (wrong_byte byte 0)) wrong) ∙ none))) (cases_Bool (is_taken byte bytes))) (cases_Bool (eqb byte 47))

path_read : (text host : List ℕ) (secure : Bool) (target : Target) → target_after (endpoint_of host) secure (first_wrong_of_path text) text ≡ Ok target → IsOfHost text (Some host) secure target
path_read text host secure target e =
    let read = after_read (endpoint_of host) secure (first_wrong_of_path text) text target e in
    let endpoint = read.0 in
    let begins = starts_with_slash text read.2 in
    let parts = text_parts text (all_taken 0 text begins.2) in
    let front = parts.0 in
    let query = parts.1 in
    let first = path_first begins.0 front query (sym begins.1 ∙ parts.2) in
    let fields = at_from endpoint secure front query target (sym (target_of_parts endpoint secure front query (path_unmarked front parts.3)) ∙ ap (target_at endpoint secure) (sym parts.2) ∙ read.3) in
    let path : target.path ≡ front = fields.1 ∙ root_of front first.0 first.1 in
    let whole : IsPathAndQuery text front query = (parts.2, path_from front first.0 first.1 parts.3, parts.4) in
    (endpoint, endpoint_of_read host endpoint read.1, fields.0, subst (λ (q : Option (List ℕ)). IsPathAndQuery text target.path q) (sym fields.2) (subst (λ (p : List ℕ). IsPathAndQuery text p query) (sym path) whole))

by_read : (scheme : Option Protocol) (text : List ℕ) (host : Option (List ℕ)) (secure : Bool) (target : Target) → scheme_of text ≡ scheme → target_by scheme text host secure ≡ Ok target → IsAbsolute text target ⊎ IsOfHost text host secure target
by_read (Some protocol) text host secure target is e = inl (absolute_read text protocol target is e)
by_read None text None secure target is e = absurd (err_ok target NoHost e)
by_read None text (Some host) secure target is e = inr (path_read text host secure target e)

pub target_read : (text : List ℕ) (host : Option (List ℕ)) (secure : Bool) (target : Target) → target_of text host secure ≡ Ok target → IsTarget text host secure target
target_read text host secure target e = elim (cases_lt 4096 (length text)) [
  | inl long ↦ absurd (err_ok target (TooLong (length text)) (sym (past_limit text host secure long) ∙ e))
  | inr fits ↦ (fits, by_read (scheme_of text) text host secure target refl (sym (within_limit text host secure fits) ∙ e))
]

pub one_target : (text : List ℕ) (host : Option (List ℕ)) (secure : Bool) (target other : Target) → IsTarget text host secure target → IsTarget text host secure other → target ≡ other
one_target text host secure target other is also = ok_same target other (sym (target_is_read text host secure target is) ∙ target_is_read text host secure other also)

refused : (text : List ℕ) (host : Option (List ℕ)) (secure : Bool) (fault : TargetFault) → target_of text host secure ≡ Err fault → (target : Target) → IsTarget text host secure target → ⊥
refused text host secure fault e target is = err_ok target fault (sym e ∙ target_is_read text host secure target is)

-- what a reader answers, in the words of the grammar
pub target_answers : (text : List ℕ) (host : Option (List ℕ)) (secure : Bool) (result : Result Target TargetFault) → ReadsTarget text host secure result → AnswersTarget text host secure result
target_answers text host secure (Ok target) e = target_read text host secure target e
target_answers text host secure (Err (TooLong len)) e = refused text host secure (TooLong len) e
target_answers text host secure (Err NoHost) e = refused text host secure NoHost e
target_answers text host secure (Err (BadHost at)) e = refused text host secure (BadHost at) e
target_answers text host secure (Err (NotOrigin at)) e = refused text host secure (NotOrigin at) e
target_answers text host secure (Err (BadPercent at)) e = refused text host secure (BadPercent at) e
target_answers text host secure (Err Memory) e = tt
