-- Pieces of a body.
use Rattle.std.proofs.Common.{◌≡◌, ℕ, ◌+◌, ◌-◌, List, [], ◌++◌, length, take, min, sym, ◌∙◌, ap, subst, arith, Option, append_assoc, append-nil, length-append}
use Rattle.std.proofs.Math.Seq.{take-append_seam}
use Rattle.std.proofs.lemmas.List.{length-take, length-drop}
use Rattle.std.specs.Io.KnownBytes.{Consumes, IsAtEnd}
use Rattle.http_wire.specs.Moves.{Moves, IsToCome}
use Rattle.http_wire.specs.Body.{Passes, MovesPiece, ReadsToEnd, FindsToEnd}
use Rattle.http_wire.specs.declared.body.BodyRead.{BodyRead}
use Rattle.http_wire.specs.declared.body.BodyRead.TheVariants as body
use Rattle.http_wire.proofs.MoveLemmas.{moves_passed, moves_filled}
use Rattle.http_wire.proofs.FoundLemmas.{still_left}

-- two beginnings of one text that are as long
pub same_front : (front rest other more : List ℕ) → front ++ rest ≡ other ++ more → length front ≡ length other → front ≡ other
same_front front rest other more same long =
    sym (take-append_seam front rest) ∙ ap (take (length front)) same ∙ ap (λ n. take n (other ++ more)) long ∙ take-append_seam other more

pub passes_moved : (old now : Option (List ℕ)) (before after later text longer more bytes : List ℕ) (most count : ℕ)
    → Passes old now before after text longer bytes → MovesPiece most count after later longer more → Passes old now before later text more (bytes ++ take count after)
passes_moved old now before after later text longer more bytes most count p m = record {
  moves = moves_passed old now before after later bytes count p.moves m.passed;
  grown = m.grown ∙ ap (λ x. x ++ take count after) p.grown ∙ append_assoc text bytes (take count after);
}

pub passes_filled : (old now new : Option (List ℕ)) (before after later text longer bytes more : List ℕ)
    → Passes old now before after text longer bytes → Consumes now new more → later ≡ after ++ more → Passes old new before later text longer bytes
passes_filled old now new before after later text longer bytes more p consumed grown = record {
  moves = moves_filled old now new before after later bytes more p.moves consumed grown;
  grown = p.grown;
}

pub moved_length : (after later text longer bytes : List ℕ) (most count : ℕ) → MovesPiece most count after later text longer → length (bytes ++ take count after) ≡ length bytes + count
moved_length after later text longer bytes most count m =
    length-append bytes (take count after) ∙ omega (arith, length-take count after, m.is)

pub moved_rest : (after later text longer : List ℕ) (most count : ℕ) → MovesPiece most count after later text longer → length later ≡ length after - count
moved_rest after later text longer most count m = ap length m.passed ∙ length-drop count after

-- a body that came whole is the one to come
pub is_whole : (old new : Option (List ℕ)) (before after bytes text rest : List ℕ) → Moves old new before after bytes → length bytes ≡ length text
    → IsToCome old before (text ++ rest) → bytes ≡ text
is_whole old new before after bytes text rest m long come =
    let left = still_left old new before after bytes come.0 m come.1 in
    same_front bytes _ text rest (sym left.2 ∙ come.2) long

-- one more piece of a body that reaches to the end
pub moves_piece : (old now new : Option (List ℕ)) (before after later last text longer more : List ℕ) (most count : ℕ)
    → Moves old now before after text → MovesPiece most count after later text longer → Consumes now new more → last ≡ later ++ more → Moves old new before last longer
moves_piece old now new before after later last text longer more most count m p consumed grown =
    let moved = moves_passed old now before after later text count m p.passed in
    subst (Moves old new before last) (sym p.grown) (moves_filled old now new before later last _ more moved consumed grown)

pub moves_part : (old now : Option (List ℕ)) (before after later text longer : List ℕ) (most count : ℕ)
    → Moves old now before after text → MovesPiece most count after later text longer → Moves old now before later longer
moves_part old now before after later text longer most count m p =
    subst (Moves old now before later) (sym p.grown) (moves_passed old now before after later text count m p.passed)

pub part_length : (after later text longer : List ℕ) (most count : ℕ) → MovesPiece most count after later text longer → length longer ≡ length text + min most (length after)
part_length after later text longer most count p = ap length p.grown ∙ length-append text (take count after) ∙ omega (arith, length-take count after, p.is)

pub finds_to_end : (limit : ℕ) (old new : Option (List ℕ)) (before after : List ℕ) (result : BodyRead) → ReadsToEnd limit old new before after result → FindsToEnd limit old before result
finds_to_end limit old new before after (body.Body other) reads text come =
    let left = still_left old new before after other come.0 reads.0 come.1 in
    let gone : left.0 ≡ [] = subst IsAtEnd left.1 reads.1 in
    let same : other ≡ text = sym (append-nil other) ∙ ap (λ x. other ++ x) (sym (ap (λ x. after ++ x) gone ∙ append-nil after ∙ reads.2)) ∙ sym left.2 ∙ come.2 in
    (λ fits. same, λ large. omega (arith, large, reads.3, ap length same))
finds_to_end limit old new before after (body.TooLarge len) reads text come =
    let left = still_left old new before after reads.0 come.0 reads.1 come.1 in
    let long = ap length (sym left.2 ∙ come.2) in
    (λ fits. omega (arith, fits, long, reads.2, reads.3, length-append reads.0 (after ++ left.0), length-append after left.0), λ large. tt)
finds_to_end limit old new before after body.ReadFault reads text come = (λ fits. tt, λ large. tt)
finds_to_end limit old new before after body.Memory reads text come = (λ fits. tt, λ large. tt)
finds_to_end limit old new before after body.Coded reads text come = absurd reads
finds_to_end limit old new before after (body.BadLength taken) reads text come = absurd reads
finds_to_end limit old new before after (body.CutShort taken) reads text come = absurd reads
