-- What is written is a log file.
use Rattle.std.proofs.Common.{◌≡◌, ℕ, zero, suc, ◌/◌, ◌%◌, ◌^◌, ◌<◌, Bool, true, List, [], ◌∷◌, ◌++◌, length, map, refl, ap, ◌∙◌, append_assoc, codes, arith, nat_lt}
use Rattle.std.proofs.lemmas.Bool.{agree_below_at, and_from, and_parts, eq-eqb, ltb-true, lt-ltb}
use Rattle.std.proofs.lemmas.List.Folds.{list_all-append}
use Rattle.std.specs.Prelude.{slice_index}
use Rattle.std.specs.Int.{to_be_bytes, w32}
use Rattle.std.specs.List.{AllByRecursion, flat_map, list_all}
use Rattle.hex.specs.Hex.{encode_lower, encode_with, lower_digits}
use Rattle.hex.proofs.HexLemmas.{length-encode_with}
use Rattle.sha2.specs.Sha256.{digest_bytes, sha256}
use Rattle.sha2.proofs.Facts256.{length-sha256}
use Rattle.uuid.specs.Text.{hyphenated_text, lower}
use Rattle.cdni_log.specs.declared.field.Field.{Field}
use Rattle.cdni_log.specs.declared.row.FileHead.{FileHead}
use Rattle.cdni_log.specs.declared.row.Row.{Row}
use Rattle.cdni_log.specs.File.{fields_text, file_text, file_uuid, form_text, identity_text, with_hash}
use Rattle.cdni_log.specs.Line.{directive}
use Rattle.cdni_log.specs.Row.{record_text, values_from}
use Rattle.log_audit.specs.LogFile.{hash_line, is_hash, is_lower_digit, names_text, hashed_text, print, record_line, true_hash, urn, IsLogFile}
use Rattle.log_audit.specs.Value.{is_record, is_unbroken}
use Rattle.log_audit.specs.Written.{file_of, HaveForms}
use Rattle.log_audit.proofs.UuidLemmas.{not_feed, uuid_well}

-- ---- the hash

digits_unbroken : (text : List ℕ) → list_all is_lower_digit text ≡ true → is_unbroken text ≡ true
digits_unbroken [] is = refl
digits_unbroken (byte ∷ bytes) is =
    let parts = and_parts (is_lower_digit byte) (list_all is_lower_digit bytes) is in
    and_from _ _ (not_feed byte parts.0) (digits_unbroken bytes parts.1)

digit_is : (digit : ℕ) → digit < 16 → is_lower_digit (slice_index lower_digits digit) ≡ true
digit_is digit lt = agree_below_at (λ d. is_lower_digit (slice_index lower_digits d)) (λ d. true) 16 digit refl lt

abbrev are_bytes : List ℕ → Bool
are_bytes bytes = list_all (λ byte. nat_lt byte 256) bytes

digits_are : (bytes : List ℕ) → are_bytes bytes ≡ true → list_all is_lower_digit (encode_lower bytes) ≡ true
unfolding encode_with
digits_are [] is = refl
digits_are (byte ∷ bytes) is =
    let parts = and_parts (nat_lt byte 256) (are_bytes bytes) is in
    let lt = ltb-true byte 256 parts.0 in
    and_from _ _ (digit_is (byte / 16) (omega (arith, lt))) (and_from _ _ (digit_is (byte % 16) (omega arith)) (digits_are bytes parts.1))

small : (n : ℕ) → nat_lt (n % 256) 256 ≡ true
small n = lt-ltb (n % 256) 256 (omega arith)

word_bytes : (word : ℕ) → are_bytes (to_be_bytes w32 word) ≡ true
word_bytes word = and_from _ _ (small (word / 256 ^ 3)) (and_from _ _ (small (word / 256 ^ 2)) (and_from _ _ (small (word / 256 ^ 1)) (and_from _ _ (small word) refl)))

digest_are : (words : List ℕ) (n : ℕ) → are_bytes (digest_bytes words n) ≡ true
unfolding digest_bytes
digest_are words zero = refl
digest_are words (suc n) = list_all-append (λ byte. nat_lt byte 256) (digest_bytes words n) (to_be_bytes w32 (slice_index words n)) ∙ and_from _ _ (digest_are words n) (word_bytes (slice_index words n))

sha_bytes : (text : List ℕ) → are_bytes (sha256 text) ≡ true
unfolding sha256
sha_bytes text = digest_are _ 8

hash_well : (text : List ℕ) → is_hash (encode_lower (sha256 text)) ≡ true
unfolding is_hash
hash_well text =
    let digits = digits_are (sha256 text) (sha_bytes text) in
    let long : length (encode_lower (sha256 text)) ≡ 64 = omega (arith, length-encode_with lower_digits (sha256 text), length-sha256 text) in
    and_from _ _ (and_from _ _ (digits_unbroken (encode_lower (sha256 text)) digits) (eq-eqb _ 64 long)) digits

-- ---- the whole

records_same : (fields : List Field) (rows : List Row) → flat_map (record_text fields) rows ≡ flat_map record_line (map (λ row. values_from row 0 fields) rows)
unfolding record_text
records_same fields [] = refl
records_same fields (row ∷ rows) = ap (λ t. record_line (values_from row 0 fields) ++ t) (records_same fields rows)

records_well : (fields : List Field) (rows : List Row) → AllByRecursion (λ row. is_record fields (values_from row 0 fields) ≡ true) rows → AllByRecursion (λ values. is_record fields values ≡ true) (map (λ row. values_from row 0 fields) rows)
records_well fields [] all = tt
records_well fields (row ∷ rows) all = (all.0, records_well fields rows all.1)

in_line : (version uuid origin kind names records : List ℕ) → (version ++ uuid ++ origin) ++ (kind ++ names) ++ records ≡ version ++ (uuid ++ (origin ++ (kind ++ (names ++ records))))
in_line version uuid origin kind names records = simp append_assoc

-- what the hash of a file that is written is taken of
hashed_is : (head : FileHead) (rows : List Row) → identity_text head ++ form_text head.fields ++ flat_map (record_text head.fields) rows ≡ hashed_text (file_of head rows)
unfolding identity_text fields_text hashed_text
hashed_is head rows =
    in_line (directive (codes "version") (codes "cdni/1.0")) (directive (codes "UUID") (urn (hyphenated_text lower (file_uuid head)))) (directive (codes "claimed-origin") head.origin)
    (directive (codes "record-type") (codes "cdni_http_request_v1")) (directive (codes "fields") (names_text head.fields)) (flat_map (record_text head.fields) rows)
    ∙ ap (λ t. directive (codes "version") (codes "cdni/1.0") ++ (directive (codes "UUID") (urn (hyphenated_text lower (file_uuid head))) ++ (directive (codes "claimed-origin") head.origin
    ++ (directive (codes "record-type") (codes "cdni_http_request_v1") ++ (directive (codes "fields") (names_text head.fields) ++ t))))) (records_same head.fields rows)

printed_is : (head : FileHead) (rows : List Row) → file_text head rows ≡ print (file_of head rows)
unfolding file_text with_hash
printed_is head rows = ap (λ t. t ++ hash_line (file_of head rows).hash) (hashed_is head rows)

pub written_hash : (head : FileHead) (rows : List Row) → (file_of head rows).hash ≡ true_hash (file_of head rows)
written_hash head rows = ap (λ t. encode_lower (sha256 t)) (hashed_is head rows)

pub written : (head : FileHead) (rows : List Row) → HaveForms head rows → IsLogFile (file_text head rows) (file_of head rows)
written head rows forms = record {
  printed = printed_is head rows;
  well = record {
    uuid = uuid_well head;
    origin = forms.origin;
    names = forms.names;
    fields = forms.fields;
    records = records_well head.fields rows forms.each;
    hash = hash_well (identity_text head ++ form_text head.fields ++ flat_map (record_text head.fields) rows);
  };
}
