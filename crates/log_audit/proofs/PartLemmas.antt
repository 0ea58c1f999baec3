-- The parts that are read are those of the file.
use Rattle.std.proofs.Common.{◌≡◌, ℕ, ◌-◌, true, List, [], ◌∷◌, ◌++◌, Option, Some, length, map, take, refl, ap, sym, ◌∙◌, codes, arith, take_at}
use Rattle.std.proofs.lemmas.List.{length-append}
use Rattle.cdni_log.specs.declared.field.Field.{Field}
use Rattle.cdni_log.specs.Line.{directive, line_end, tabbed}
use Rattle.log_audit.specs.declared.place.Place.{Place}
use Rattle.log_audit.specs.declared.place.Place.TheVariants as place
use Rattle.log_audit.specs.LogFile.{hash_line, hashed_text, is_hash, names_text, record_line, LogFile, IsLogFile, IsWell}
use Rattle.log_audit.specs.Lines.{lines_of, next, IsBody, IsHead}
use Rattle.log_audit.proofs.FileLemmas.{no_bad_line}
use Rattle.log_audit.proofs.FrameLemmas.{frame_inside}
use Rattle.log_audit.proofs.HeadLemmas.{hash_long}
use Rattle.log_audit.proofs.PlaceLemmas.{stand_fields}
use Rattle.log_audit.proofs.WholeLemmas.{file_lines, lines_are, record_lines}

head_same : {A : Type 0} {x y : A} {xs ys : List A} → x ∷ xs ≡ y ∷ ys → x ≡ y
head_same e = cc

tail_same : {A : Type 0} {x y : A} {xs ys : List A} → x ∷ xs ≡ y ∷ ys → xs ≡ ys
tail_same e = cc

-- what stands before the end of a line
before_end : (a b : List ℕ) → a ++ line_end ≡ b ++ line_end → a ≡ b
before_end a b e =
    let long : length a ≡ length b = omega (arith, ap length e, length-append a line_end, length-append b line_end) in
    sym (take_at a line_end (length b) long) ∙ (ap (take (length b)) e ∙ take_at b line_end (length b) refl)

same_hash : (a b : List ℕ) → hash_line a ≡ hash_line b → a ≡ b
unfolding directive
same_hash a b e = sym (frame_inside (codes "#SHA256-hash:" ++ 9 ∷ []) a line_end (hash_line a) refl) ∙ frame_inside (codes "#SHA256-hash:" ++ 9 ∷ []) b line_end (hash_line a) e

abbrev ended : List ℕ → List ℕ
ended values = values ++ line_end

same_lines : (records : List (List (List ℕ))) (texts : List (List ℕ)) (last other : List ℕ) → map record_line records ++ last ∷ [] ≡ map ended texts ++ other ∷ [] → (texts ≡ map tabbed records) × (last ≡ other)
same_lines [] [] last other e = (refl, head_same e)
same_lines [] (text ∷ texts) last other e = absurd (omega (arith, ap length e, length-append (map ended texts) (other ∷ [])))
same_lines (values ∷ records) [] last other e = absurd (omega (arith, ap length e, length-append (map record_line records) (last ∷ [])))
same_lines (values ∷ records) (text ∷ texts) last other e =
    let rest = same_lines records texts last other (tail_same e) in
    let first : text ≡ tabbed values = sym (before_end (tabbed values) text (head_same e)) in
    (ap (λ t. t ∷ texts) first ∙ ap (λ ts. tabbed values ∷ ts) rest.0, rest.1)

-- the fifth line and what follows it
fifth : (before : List (List ℕ)) (line a b c d e : List ℕ) (rest others : List (List ℕ)) → length before ≡ 4 → before ++ line ∷ rest ≡ a ∷ b ∷ c ∷ d ∷ e ∷ others → (line ≡ e) × (rest ≡ others)
fifth [] line a b c d e rest others is same = absurd (omega (arith, is))
fifth (p ∷ []) line a b c d e rest others is same = absurd (omega (arith, is))
fifth (p ∷ q ∷ []) line a b c d e rest others is same = absurd (omega (arith, is))
fifth (p ∷ q ∷ r ∷ []) line a b c d e rest others is same = absurd (omega (arith, is))
fifth (p ∷ q ∷ r ∷ s ∷ []) line a b c d e rest others is same =
    let four = tail_same (tail_same (tail_same (tail_same same))) in
    (head_same four, tail_same four)
fifth (p ∷ q ∷ r ∷ s ∷ t ∷ more) line a b c d e rest others is same = absurd (omega (arith, is))

same_fields : (fields others : List Field) → ◌≡◌ {A = Option Place} (Some (place.Records fields)) (Some (place.Records others)) → fields ≡ others
same_fields fields others e = cc

-- the file whose parts these are
pub file_is : (text rest : List ℕ) (fields : List Field) (records : List (List ℕ)) (hash : List ℕ) → IsHead text fields rest → IsBody fields rest records hash
    → (file : LogFile) × IsLogFile text file × (fields ≡ file.fields) × (records ≡ map tabbed file.records) × (hash ≡ file.hash)
file_is text rest fields records hash head body =
    let made = (no_bad_line text).0 (head.bad ∙ body.good) in
    let file = made.0 in
    let well = made.1.well in
    let at = fifth head.before head.line _ _ _ _ (directive (codes "fields") (names_text file.fields)) (lines_of rest) (record_lines file) head.count (sym head.lines ∙ lines_are text file made.1) in
    let parts = same_lines file.records records (hash_line file.hash) (hash_line hash) (sym at.1 ∙ body.lines) in
    let named = sym head.named ∙ (ap (next place.Fields) at.0 ∙ stand_fields file.fields well.names well.fields) in
    (file, made.1, same_fields fields file.fields named, parts.0, sym (same_hash file.hash hash parts.1))

pub hashed_is : (text : List ℕ) (file : LogFile) (hash : List ℕ) → IsLogFile text file → hash ≡ file.hash → is_hash hash ≡ true → take (length text - 80) text ≡ hashed_text file
hashed_is text file hash is same form =
    let long : length text - 80 ≡ length (hashed_text file) = omega (arith, ap length is.printed, length-append (hashed_text file) (hash_line file.hash), hash_long hash form, ap (λ h. length (hash_line h)) same) in
    ap (λ n. take n text) long ∙ (ap (take (length (hashed_text file))) is.printed ∙ take_at (hashed_text file) (hash_line file.hash) (length (hashed_text file)) refl)

ended_records : (records : List (List (List ℕ))) → map record_line records ≡ map ended (map tabbed records)
ended_records [] = refl
ended_records (values ∷ records) = ap (λ l. record_line values ∷ l) (ended_records records)

-- two files of the same lines have one hash
pub last_same : (file other : LogFile) → file_lines file ≡ file_lines other → file.hash ≡ other.hash
last_same file other e =
    let lines : record_lines file ≡ record_lines other = tail_same (tail_same (tail_same (tail_same (tail_same e)))) in
    let parts = same_lines file.records (map tabbed other.records) (hash_line file.hash) (hash_line other.hash) (lines ∙ ap (λ l. l ++ hash_line other.hash ∷ []) (ended_records other.records)) in
    same_hash file.hash other.hash parts.1

-- two files of the same lines have the same fields and lines of records
pub parts_same : (file other : LogFile) → IsWell file → IsWell other → file_lines file ≡ file_lines other → (file.fields ≡ other.fields) × (map tabbed file.records ≡ map tabbed other.records)
parts_same file other well also e =
    let from = tail_same (tail_same (tail_same (tail_same e))) in
    let named = sym (stand_fields file.fields well.names well.fields) ∙ (ap (next place.Fields) (head_same from) ∙ stand_fields other.fields also.names also.fields) in
    let lines = same_lines file.records (map tabbed other.records) (hash_line file.hash) (hash_line other.hash) (tail_same from ∙ ap (λ l. l ++ hash_line other.hash ∷ []) (ended_records other.records)) in
    (same_fields file.fields other.fields named, sym lines.0)
