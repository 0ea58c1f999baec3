-- The UUID of a file that is written has its form.
use Rattle.std.proofs.Common.{◌≡◌, ◌≢◌, ℕ, zero, suc, ◌+◌, ◌-◌, ◌*◌, ◌/◌, ◌%◌, ◌<◌, ◌≤◌, ◌==◌, ◌&&◌, ◌||◌, Bool, true, false, not, cond, List, [], ◌∷◌, ◌++◌, length, take, refl, ap, sym, subst, ◌∙◌, codes, arith, length-append}
use Rattle.std.proofs.lemmas.Bool.{agree_below_at, and_from, and_parts, eqb-true, false≢true}
use Rattle.std.proofs.lemmas.List.{get_or-set_same, get_or-set_other, length-set, length-take-le}
use Rattle.std.specs.Prelude.{slice_index}
use Rattle.std.specs.Int.{to_be_bytes, w32}
use Rattle.std.specs.List.{list_any}
use Rattle.sha1.specs.Sha1.{digest_bytes, sha1}
use Rattle.uuid.specs.Parts.{with_variant, with_version}
use Rattle.uuid.specs.Text.{by_index, digit_place, hex_digit, hyphenated_text, is_hyphen_place, lower, nibble}
use Rattle.uuid.specs.Uuid.{namespace_url}
use Rattle.uuid.specs.declared.Variant.TheVariants.{RFC4122}
use Rattle.uuid.specs.declared.Version.TheVariants.{Sha1}
use Rattle.cdni_log.specs.declared.row.FileHead.{FileHead}
use Rattle.cdni_log.specs.File.{file_name, file_uuid}
use Rattle.log_audit.specs.LogFile.{are_uuid_bytes, is_lower_digit, is_uuid, is_uuid_byte}
use Rattle.log_audit.specs.Value.{is_unbroken}

-- ---- bytes of the text

-- a digit ends no line
pub not_feed : (byte : ℕ) → is_lower_digit byte ≡ true → (not (byte == 10) && not (byte == 13)) ≡ true
not_feed byte is = by (byte == 10) (byte == 13) refl refl
  where
    by : (s t : Bool) → (byte == 10) ≡ s → (byte == 13) ≡ t → (not s && not t) ≡ true
    by true t e f = absurd (false≢true (sym (ap is_lower_digit (eqb-true byte 10 e)) ∙ is))
    by false true e f = absurd (false≢true (sym (ap is_lower_digit (eqb-true byte 13 f)) ∙ is))
    by false false e f = refl

uuid_byte : (place byte : ℕ) → is_uuid_byte place byte ≡ true → (not (byte == 10) && not (byte == 13)) ≡ true
uuid_byte place byte is = by (place == 8 || place == 13 || place == 18 || place == 23) is
  where
    by : (t : Bool) → cond t (byte == 45) (is_lower_digit byte) ≡ true → (not (byte == 10) && not (byte == 13)) ≡ true
    by true hyphen = rw (eqb-true byte 45 hyphen) refl
    by false digit = not_feed byte digit

uuid_unbroken : (place : ℕ) (text : List ℕ) → are_uuid_bytes place text ≡ true → is_unbroken text ≡ true
uuid_unbroken place [] is = refl
uuid_unbroken place (byte ∷ bytes) is =
    let parts = and_parts (is_uuid_byte place byte) (are_uuid_bytes (place + 1) bytes) is in
    and_from _ _ (uuid_byte place byte parts.0) (uuid_unbroken (place + 1) bytes parts.1)

one_more : (place : ℕ) (text : List ℕ) (byte : ℕ) → are_uuid_bytes place text ≡ true → is_uuid_byte (place + length text) byte ≡ true → are_uuid_bytes place (text ++ byte ∷ []) ≡ true
one_more place [] byte all is =
    let at : place + 0 ≡ place = omega arith in
    and_from _ _ (subst (λ p. is_uuid_byte p byte ≡ true) at is) refl
one_more place (first ∷ text) byte all is =
    let parts = and_parts (is_uuid_byte place first) (are_uuid_bytes (place + 1) text) all in
    let there : place + length (first ∷ text) ≡ place + 1 + length text = omega arith in
    and_from _ _ parts.0 (one_more (place + 1) text byte parts.1 (subst (λ p. is_uuid_byte p byte ≡ true) there is))

length_by : (n : ℕ) (f : ℕ → ℕ) → length (by_index n f) ≡ n
unfolding by_index
length_by zero f = refl
length_by (suc n) f = length-append (by_index n f) (f n ∷ []) ∙ omega (arith, length_by n f)

all_by : (n : ℕ) (f : ℕ → ℕ) → ((k : ℕ) → is_uuid_byte k (f k) ≡ true) → are_uuid_bytes 0 (by_index n f) ≡ true
unfolding by_index
all_by zero f each = refl
all_by (suc n) f each =
    let at : n ≡ 0 + length (by_index n f) = omega (arith, length_by n f) in
    one_more 0 (by_index n f) (f n) (all_by n f each) (subst (λ k. is_uuid_byte k (f n) ≡ true) at (each n))

lower_digit : (digit : ℕ) → digit < 16 → is_lower_digit (hex_digit lower digit) ≡ true
lower_digit digit lt = agree_below_at (λ d. is_lower_digit (hex_digit lower d)) (λ d. true) 16 digit refl lt

small_nibble : (bytes : List ℕ) (k : ℕ) → nibble bytes k < 16
small_nibble bytes k = by (k % 2 == 0)
  where
    by : (t : Bool) → cond t (slice_index bytes (k / 2) / 16 % 16) (slice_index bytes (k / 2) % 16) < 16
    by true = omega arith
    by false = omega arith

abbrev shown : List ℕ → ℕ → ℕ
shown bytes k = cond (is_hyphen_place k) 45 (hex_digit lower (nibble bytes (digit_place k)))

shown_is : (bytes : List ℕ) (k : ℕ) → is_uuid_byte k (shown bytes k) ≡ true
shown_is bytes k = by (is_hyphen_place k)
  where
    by : (t : Bool) → cond t (cond t 45 (hex_digit lower (nibble bytes (digit_place k))) == 45) (is_lower_digit (cond t 45 (hex_digit lower (nibble bytes (digit_place k))))) ≡ true
    by true = refl
    by false = lower_digit (nibble bytes (digit_place k)) (small_nibble bytes (digit_place k))

-- ---- the version and the variant

version_place : (bytes : List ℕ) → slice_index (hyphenated_text lower bytes) 14 ≡ hex_digit lower (slice_index bytes 6 / 16 % 16)
unfolding by_index
version_place bytes = refl

variant_place : (bytes : List ℕ) → slice_index (hyphenated_text lower bytes) 19 ≡ hex_digit lower (slice_index bytes 8 / 16 % 16)
unfolding by_index
variant_place bytes = refl

shifted : (j : ℕ) → j < 4 → list_any (λ mark. hex_digit lower (j + 8) == mark) (codes "89ab") ≡ true
shifted j lt = agree_below_at (λ i. list_any (λ mark. hex_digit lower (i + 8) == mark) (codes "89ab")) (λ i. true) 4 j refl lt

variant_digit : (digit : ℕ) → 8 ≤ digit → digit < 12 → list_any (λ mark. hex_digit lower digit == mark) (codes "89ab") ≡ true
variant_digit digit from below =
    let at : digit - 8 + 8 ≡ digit = omega (arith, from) in
    subst (λ d. list_any (λ mark. hex_digit lower d == mark) (codes "89ab") ≡ true) at (shifted (digit - 8) (omega (arith, from, below)))

text_well : (bytes : List ℕ) → slice_index bytes 6 / 16 % 16 ≡ 5 → 8 ≤ slice_index bytes 8 / 16 % 16 → slice_index bytes 8 / 16 % 16 < 12 → is_uuid (hyphenated_text lower bytes) ≡ true
unfolding is_uuid
text_well bytes version from below =
    let all = all_by 36 (shown bytes) (shown_is bytes) in
    let text = hyphenated_text lower bytes in
    let long : (length text == 36) ≡ true = ap (λ n. n == 36) (length_by 36 (shown bytes)) in
    let fifth : (slice_index text 14 == 53) ≡ true = ap (λ b. b == 53) (version_place bytes ∙ ap (hex_digit lower) version) in
    let marked : list_any (λ mark. slice_index text 19 == mark) (codes "89ab") ≡ true = ap (λ b. list_any (λ mark. b == mark) (codes "89ab")) (variant_place bytes) ∙ variant_digit (slice_index bytes 8 / 16 % 16) from below in
    and_from _ _ (and_from _ _ (and_from _ _ (and_from _ _ (uuid_unbroken 0 text all) long) all) fifth) marked

-- ---- the bytes of the UUID

digest_long : (words : List ℕ) (n : ℕ) → length (digest_bytes words n) ≡ n * 4
unfolding digest_bytes
digest_long words zero = refl
digest_long words (suc n) =
    let last : length (to_be_bytes w32 (slice_index words n)) ≡ 4 = refl in
    omega (arith, digest_long words n, last, length-append (digest_bytes words n) (to_be_bytes w32 (slice_index words n)))

sha_long : (text : List ℕ) → length (sha1 text) ≡ 20
unfolding sha1
sha_long text = digest_long _ 5

bytes_well : (bytes : List ℕ) → length bytes ≡ 16 → is_uuid (hyphenated_text lower (with_version (with_variant bytes RFC4122) Sha1)) ≡ true
bytes_well bytes long =
    let marked = with_variant bytes RFC4122 in
    let same : length marked ≡ 16 = length-set bytes 8 (slice_index bytes 8 % 64 + 128) ∙ long in
    let version : slice_index (with_version marked Sha1) 6 ≡ slice_index marked 6 % 16 + 5 * 16 = get_or-set_same marked 6 (slice_index marked 6 % 16 + 5 * 16) 0 (omega (arith, same)) in
    let apart : 8 ≢ 6 = λ e. omega (arith, e) in
    let variant : slice_index (with_version marked Sha1) 8 ≡ slice_index bytes 8 % 64 + 128 = get_or-set_other marked 6 8 (slice_index marked 6 % 16 + 5 * 16) 0 apart ∙ get_or-set_same bytes 8 (slice_index bytes 8 % 64 + 128) 0 (omega (arith, long)) in
    text_well (with_version marked Sha1) (ap (λ b. b / 16 % 16) version ∙ omega arith) (rw variant (omega arith)) (rw variant (omega arith))

pub uuid_well : (head : FileHead) → is_uuid (hyphenated_text lower (file_uuid head)) ≡ true
unfolding file_uuid
uuid_well head = bytes_well (take 16 (sha1 (namespace_url ++ file_name head))) (length-take-le 16 _ (omega (arith, sha_long (namespace_url ++ file_name head))))
