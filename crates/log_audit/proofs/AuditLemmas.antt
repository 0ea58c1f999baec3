-- The answer for a text.
use Rattle.std.proofs.Common.{◌≡◌, ℕ, ◌<◌, List, Some, Ok, Err, Result, IfOk, IfErr, length, refl, ap, sym, subst, ◌∙◌, arith}
use Rattle.std.proofs.lemmas.Option.{none-some, same_Some}
use Rattle.cdni_log.specs.declared.row.FileHead.{FileHead}
use Rattle.cdni_log.specs.declared.row.Row.{Row}
use Rattle.cdni_log.specs.File.{file_text}
use Rattle.hex.specs.Hex.{encode_lower}
use Rattle.sha2.specs.Sha256.{sha256}
use Rattle.log_audit.specs.declared.audited.Audited.{Audited}
use Rattle.log_audit.specs.declared.fault.AuditFault.{AuditFault}
use Rattle.log_audit.specs.declared.fault.AuditFault.TheVariants.{TooLong, BadLine, BadHash, Memory}
use Rattle.log_audit.specs.Audit.{IsAccepted, IsFaultOf, IsHashFault, IsOrMemory, IsWithin, ReadsFile}
use Rattle.log_audit.specs.Lines.{bad_line, IsBadLine}
use Rattle.log_audit.specs.LogFile.{true_hash, LogFile, IsLogFile}
use Rattle.log_audit.specs.Written.{file_of, HaveForms}
use Rattle.log_audit.proofs.FileLemmas.{bad_line_is, no_bad_line}
use Rattle.log_audit.proofs.PartLemmas.{hashed_is, last_same}
use Rattle.log_audit.proofs.WholeLemmas.{lines_are}
use Rattle.log_audit.proofs.WrittenLemmas.{written, written_hash}

pub fault_is : (text hash found : List ℕ) (file : LogFile) (fault : AuditFault) → IsWithin text → IsLogFile text file → hash ≡ file.hash → found ≡ true_hash file → IsHashFault hash found fault → IsFaultOf text fault
fault_is text hash found file (TooLong len) within is one two fault = absurd fault
fault_is text hash found file (BadLine n) within is one two fault = absurd fault
fault_is text hash found file (BadHash w f) within is one two fault = (within, file, is, fault.0 ∙ one, fault.1 ∙ two, fault.2)
fault_is text hash found file Memory within is one two fault = within

-- a text has one hash that is written, and one that is its own
one_hash : (text : List ℕ) (file other : LogFile) → IsLogFile text file → IsLogFile text other → (file.hash ≡ other.hash) × (true_hash file ≡ true_hash other)
one_hash text file other is also =
    let same = last_same file other (sym (lines_are text file is) ∙ lines_are text other also) in
    (same, ap (λ t. encode_lower (sha256 t)) (sym (hashed_is text file file.hash is refl is.well.hash) ∙ hashed_is text other other.hash also refl also.well.hash))

not_bad : (text : List ℕ) (file : LogFile) (n : ℕ) → IsLogFile text file → bad_line text ≡ Some n → ⊥
not_bad text file n is bad = none-some n (sym ((no_bad_line text).1 (file, is)) ∙ bad)

pub too_long_is : (text : List ℕ) (result : Result Audited AuditFault) → IfOk result (ReadsFile text) → IfErr result (IsFaultOf text) → 268435456 < length text → result ≡ Err (TooLong (length text))
too_long_is text (Ok audited) ok err long = absurd (omega (arith, ok.0, long))
too_long_is text (Err (TooLong len)) ok err long = ap (λ n. Err (TooLong n)) err.0
too_long_is text (Err (BadLine n)) ok err long = absurd (omega (arith, err.0, long))
too_long_is text (Err (BadHash w f)) ok err long = absurd (omega (arith, err.0, long))
too_long_is text (Err Memory) ok err long = absurd (omega (arith, err, long))

pub bad_line_answer : (text : List ℕ) (result : Result Audited AuditFault) → IfOk result (ReadsFile text) → IfErr result (IsFaultOf text) → (n : ℕ) → IsWithin text → IsBadLine text n → IsOrMemory result (BadLine n)
bad_line_answer text (Ok audited) ok err n within bad = not_bad text ok.1 n ok.2 ((bad_line_is text n).1 bad)
bad_line_answer text (Err (TooLong len)) ok err n within bad = absurd (omega (arith, err.1, within))
bad_line_answer text (Err (BadLine m)) ok err n within bad = ap BadLine (same_Some m n (sym err.1 ∙ (bad_line_is text n).1 bad))
bad_line_answer text (Err (BadHash w f)) ok err n within bad = absurd (not_bad text err.1 n err.2 ((bad_line_is text n).1 bad))
bad_line_answer text (Err Memory) ok err n within bad = tt

pub bad_hash_answer : (text : List ℕ) (result : Result Audited AuditFault) → IfOk result (ReadsFile text) → IfErr result (IsFaultOf text) → (file : LogFile) → IsWithin text → IsLogFile text file → (file.hash ≡ true_hash file → ⊥) → IsOrMemory result (BadHash file.hash (true_hash file))
bad_hash_answer text (Ok audited) ok err file within is other =
    let same = one_hash text file ok.1 is ok.2 in
    other (same.0 ∙ (ok.3 ∙ sym same.1))
bad_hash_answer text (Err (TooLong len)) ok err file within is other = absurd (omega (arith, err.1, within))
bad_hash_answer text (Err (BadLine m)) ok err file within is other = absurd (not_bad text file m is err.1)
bad_hash_answer text (Err (BadHash w f)) ok err file within is other =
    let same = one_hash text file err.1 is err.2 in
    ap (λ h. BadHash h f) (err.3 ∙ sym same.0) ∙ ap (BadHash file.hash) (err.4 ∙ sym same.1)
bad_hash_answer text (Err Memory) ok err file within is other = tt

pub accepted_answer : (text : List ℕ) (result : Result Audited AuditFault) → IfOk result (ReadsFile text) → IfErr result (IsFaultOf text) → (file : LogFile) → IsWithin text → IsLogFile text file → file.hash ≡ true_hash file → IsAccepted result
accepted_answer text (Ok audited) ok err file within is right = tt
accepted_answer text (Err (TooLong len)) ok err file within is right = omega (arith, err.1, within)
accepted_answer text (Err (BadLine m)) ok err file within is right = not_bad text file m is err.1
accepted_answer text (Err (BadHash w f)) ok err file within is right =
    let same = one_hash text file err.1 is err.2 in
    err.5 (err.3 ∙ (sym same.0 ∙ (right ∙ (same.1 ∙ sym err.4))))
accepted_answer text (Err Memory) ok err file within is right = tt

pub written_answer : (text : List ℕ) (result : Result Audited AuditFault) → IfOk result (ReadsFile text) → IfErr result (IsFaultOf text) → (head : FileHead) (rows : List Row) → HaveForms head rows → text ≡ file_text head rows → IsWithin text → IsAccepted result
written_answer text result ok err head rows forms same within =
    accepted_answer text result ok err (file_of head rows) within (subst (λ (t : List ℕ). IsLogFile t (file_of head rows)) (sym same) (written head rows forms)) (written_hash head rows)
