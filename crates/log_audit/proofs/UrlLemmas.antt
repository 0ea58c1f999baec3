-- A URL as it is written.
use Rattle.std.proofs.Common.{◌≡◌, ℕ, zero, suc, ltb, cond, ◌≤◌, ⊎_elim, ◌==◌, ◌&&◌, Bool, true, false, not, List, [], ◌∷◌, ◌++◌, Option, None, Some, length, take, drop, get_or, refl, ap, sym, subst, ◌∙◌, append-nil, append_assoc, codes, decimal, take-append-drop, arith}
use Rattle.std.proofs.lemmas.Bool.{and_parts, and_from, cond-false, eqb-true, leb-true, ltb-true, not-true, false≢true}
use Rattle.std.proofs.lemmas.Option.{none-some, same_Some}
use Rattle.std.proofs.lemmas.Slice.Eq.{bytes_eq-Decides}
use Rattle.std.specs.Prelude.{bytes_eq, nat_le, slice_index}
use Rattle.std.specs.Char.{to_ascii_lowercase}
use Rattle.std.specs.List.{list_all}
use Rattle.std.specs.Option.{option_map_or}
use Rattle.std.specs.Str.{str_to_ascii_lowercase}
use Rattle.listing.specs.Number.{number_of}
use Rattle.listing.proofs.Decimals.{some_decimal}
use Rattle.targets.specs.Endpoint.{host_length}
use Rattle.targets.specs.Grammar.{IsPath, IsQuery, is_path_byte, is_query_byte}
use Rattle.targets.specs.Target.{is_taken, port_text, query_text, scheme_text}
use Rattle.targets.proofs.EndpointLemmas.{host_of_length}
use Rattle.targets.proofs.RowLemmas.{parts_cases, path_is_query, taken-append, taken_in, taken_row}
use Rattle.log_audit.specs.Forms.{IsUrlText}
use Rattle.log_audit.specs.Value.{are_taken, authority_length, behind_scheme, is_authority, is_behind_scheme, is_port, is_port_part, is_url}

same_text : (a b : List ℕ) → bytes_eq a b ≡ true → a ≡ b
same_text a b = (bytes_eq-Decides a b).0

lower_is : (text : List ℕ) → list_all (λ byte. to_ascii_lowercase byte == byte) text ≡ true → str_to_ascii_lowercase text ≡ text
lower_is [] is = refl
lower_is (byte ∷ bytes) is =
    let parts = and_parts (to_ascii_lowercase byte == byte) (list_all (λ b. to_ascii_lowercase b == b) bytes) is in
    ap (λ b. b ∷ str_to_ascii_lowercase bytes) (eqb-true (to_ascii_lowercase byte) byte parts.0) ∙ ap (λ t. byte ∷ t) (lower_is bytes parts.1)

taken_is : (text : List ℕ) → are_taken text ≡ true → taken_in is_query_byte text ≡ true
taken_is [] is = refl
taken_is (byte ∷ bytes) is =
    let parts = and_parts (is_taken byte bytes) (are_taken bytes) is in
    and_from _ _ parts.0 (taken_is bytes parts.1)

-- ---- a path and a query

first_is : (a b : ℕ) (xs ys : List ℕ) → a ∷ xs ≡ b ∷ ys → a ≡ b
first_is a b xs ys e = ap (λ (zs : List ℕ). get_or zs 0 0) e

path_first : (more front : List ℕ) (query : Option (List ℕ)) → 47 ∷ more ≡ front ++ query_text query → (rest : List ℕ) × (front ≡ 47 ∷ rest)
path_first more [] None e = absurd (omega (arith, ap length e))
path_first more [] (Some query) e = absurd (omega (arith, first_is 47 63 more query e))
path_first more (byte ∷ bytes) query e = (bytes, ap (λ (b : ℕ). b ∷ bytes) (sym (first_is 47 byte more (bytes ++ query_text query) e)))

abbrev IsTail : List ℕ → Type 0
IsTail text = (path : List ℕ) × (query : Option (List ℕ)) × (text ≡ path ++ query_text query) × IsPath path × IsQuery query

path_from : (front more : List ℕ) → front ≡ 47 ∷ more → taken_in is_path_byte front ≡ true → IsPath front
path_from front more e h = (more, e, taken_row is_path_byte more (ap (taken_in is_path_byte) (sym e) ∙ h))

tail_of : (more : List ℕ) → taken_in is_query_byte (47 ∷ more) ≡ true → IsTail (47 ∷ more)
tail_of more h = ⊎_elim (λ cut.
    let front = cut.0 in
    let query = cut.1 in
    let both = and_parts (taken_in is_query_byte front) (taken_in is_query_byte (63 ∷ query)) (sym (taken-append is_query_byte front (63 ∷ query) refl) ∙ (ap (taken_in is_query_byte) (sym cut.2) ∙ h)) in
    let first = path_first more front (Some query) cut.2 in
    (front, Some query, cut.2, path_from front first.0 first.1 (sym (path_is_query front cut.3) ∙ both.0), taken_row is_query_byte query both.1))
    (λ whole. (47 ∷ more, None, sym (append-nil (47 ∷ more)), path_from (47 ∷ more) more refl (sym (path_is_query (47 ∷ more) whole) ∙ h), tt)) (parts_cases (47 ∷ more))

tail_is : (text : List ℕ) → slice_index text 0 ≡ 47 → are_taken text ≡ true → IsTail text
tail_is [] first h = absurd (omega (arith, first))
tail_is (byte ∷ more) first h = subst IsTail (ap (λ b. b ∷ more) (sym first)) (tail_of more (taken_is (47 ∷ more) (subst (λ (b : ℕ). are_taken (b ∷ more) ≡ true) first h)))

-- ---- a host and a port

abbrev IsPortText : List ℕ → Type 0
IsPortText text = (port : ℕ) × (text ≡ port_text port) × (1 ≤ port) × (port ≤ 65535)

port_by : (digits : List ℕ) (read : Option ℕ) → read ≡ number_of digits → option_map_or is_port read false ≡ true → IsPortText (58 ∷ digits)
port_by digits None e is = absurd (false≢true is)
port_by digits (Some n) e is =
    let both = and_parts (nat_le 1 n && nat_le n 65535) (not (n == 80)) is in
    let range = and_parts (nat_le 1 n) (nat_le n 65535) both.0 in
    (n, ap (λ t. 58 ∷ t) (some_decimal digits (Some n) e) ∙ sym (cond-false (n == 80) [] (58 ∷ decimal n) (not-true (n == 80) both.1)), leb-true 1 n range.0, leb-true n 65535 range.1)

port_is : (text : List ℕ) → is_port_part text ≡ true → IsPortText text
port_is [] is = (80, refl, omega arith, omega arith)
port_is (byte ∷ digits) is =
    let parts = and_parts (byte == 58) (option_map_or is_port (number_of digits) false) is in
    subst (λ (b : ℕ). IsPortText (b ∷ digits)) (sym (eqb-true byte 58 parts.0)) (port_by digits (number_of digits) refl parts.1)

-- ---- the whole

assembled : (text scheme rest authority tail host port path query : List ℕ) → text ≡ scheme ++ rest → rest ≡ authority ++ tail → authority ≡ host ++ port → tail ≡ path ++ query → text ≡ scheme ++ host ++ port ++ path ++ query
assembled text scheme rest authority tail host port path query one two three four = rw (one, two, three, four) (simp append_assoc)

drop_index : (n : ℕ) (text : List ℕ) → slice_index (drop n text) 0 ≡ slice_index text n
drop_index zero text = refl
drop_index (suc n) [] = refl
drop_index (suc n) (byte ∷ bytes) = drop_index n bytes

behind_is : (text rest : List ℕ) (secure : Bool) → text ≡ scheme_text secure ++ rest → is_behind_scheme rest ≡ true → IsUrlText text
behind_is text rest secure front is =
    let n = authority_length rest in
    let authority = take n rest in
    let h = host_length authority in
    let two = and_parts _ (are_taken (drop n rest)) is in
    let one = and_parts (is_authority authority) (slice_index rest n == 47) two.0 in
    let three = and_parts _ (is_port_part (drop h authority)) one.0 in
    let four = and_parts (ltb 0 h) (list_all (λ byte. to_ascii_lowercase byte == byte) (take h authority)) three.0 in
    let port = port_is (drop h authority) three.1 in
    let tail = tail_is (drop n rest) (drop_index n rest ∙ eqb-true (slice_index rest n) 47 one.1) two.1 in
    let host_is : authority ≡ take h authority ++ port_text port.0 = sym (take-append-drop h authority) ∙ ap (λ t. take h authority ++ t) port.1 in (
      secure,
      take h authority,
      port.0,
      tail.0,
      tail.1,
      assembled text (scheme_text secure) rest authority (drop n rest) (take h authority) (port_text port.0) tail.0 (query_text tail.1) front (sym (take-append-drop n rest)) host_is tail.2,
      host_of_length authority (ltb-true 0 h four.0),
      lower_is (take h authority) four.1,
      port.2,
      port.3,
      tail.3,
      tail.4,
    )

scheme_is : (text rest : List ℕ) → behind_scheme text ≡ Some rest → (secure : Bool) × (text ≡ scheme_text secure ++ rest)
scheme_is text rest is = by (bytes_eq (take 7 text) (codes "http://")) refl (bytes_eq (take 8 text) (codes "https://")) refl is
  where
    by : (plain : Bool) → bytes_eq (take 7 text) (codes "http://") ≡ plain → (tls : Bool) → bytes_eq (take 8 text) (codes "https://") ≡ tls
        → cond plain (Some (drop 7 text)) (cond tls (Some (drop 8 text)) None) ≡ Some rest → (secure : Bool) × (text ≡ scheme_text secure ++ rest)
    by true p tls q e = (false, sym (take-append-drop 7 text) ∙ (ap (λ t. t ++ drop 7 text) (same_text _ _ p) ∙ ap (λ t. codes "http://" ++ t) (same_Some _ _ e)))
    by false p true q e = (true, sym (take-append-drop 8 text) ∙ (ap (λ t. t ++ drop 8 text) (same_text _ _ q) ∙ ap (λ t. codes "https://" ++ t) (same_Some _ _ e)))
    by false p false q e = absurd (none-some rest e)

pub url_is : (text : List ℕ) → is_url text ≡ true → IsUrlText text
unfolding is_url
url_is text is = by (behind_scheme text) refl is
  where
    by : (found : Option (List ℕ)) → behind_scheme text ≡ found → option_map_or is_behind_scheme found false ≡ true → IsUrlText text
    by None e t = absurd (false≢true t)
    by (Some rest) e t = let scheme = scheme_is text rest e in behind_is text rest scheme.0 scheme.1 t
