-- Where the bytes to come begin with a head, a reading answers it.
use Rattle.std.proofs.Common.{◌≡◌, ℕ, ◌<◌, ◌≤◌, List, [], ◌++◌, length, take, drop, refl, sym, ◌∙◌, ap, subst, arith, inl, inr, Option, None, Some, append_assoc, append-nil, length-append}
use Rattle.std.specs.Io.KnownBytes.{Consumes, IsAtEnd}
use Rattle.std.proofs.Math.Seq.{take-append_seam}
use Rattle.std.proofs.lemmas.List.{take-append-drop, take-append-le}
use Rattle.std.proofs.lemmas.Bool.{cases_lt}
use Rattle.http_wire.specs.Limits.{feeds, IsWithinLimits}
use Rattle.http_wire.specs.Moves.{Moves}
use Rattle.http_wire.specs.Reading.{ReadsHead, FindsHead, IsHopeless}
use Rattle.http_wire.specs.declared.limits.TheConstants.{HEAD_MAX, FEEDS_MAX}
use Rattle.http_wire.specs.declared.reading.HeadRead.{HeadRead}
use Rattle.http_wire.specs.declared.reading.HeadRead.TheVariants as read
use Rattle.http_wire.proofs.LimitLemmas.{feeds-append}

-- what the reading rests on, of a kind of head
pub record IsGrammar {H : Type 0} (Spells : List ℕ → H → Type 0) (HasNone IsOver : List ℕ → Type 0) : Type 0 where
  pub short : (bytes : List ℕ) (head : H) → Spells bytes head → length bytes ≤ HEAD_MAX
  pub some : (bytes : List ℕ) (head : H) → Spells bytes head → 0 < length bytes
  pub one : (bytes rest other more : List ℕ) (head last : H) → Spells bytes head → Spells other last → bytes ++ rest ≡ other ++ more → last ≡ head
  pub none : (bytes rest text : List ℕ) (head : H) → Spells bytes head → text ≡ bytes ++ rest → HasNone text → ⊥
  pub over : (bytes rest text more : List ℕ) (head : H) → Spells bytes head → text ++ more ≡ bytes ++ rest → HasNone text → IsOver text → ⊥

-- what the source has left after a reading
pub still_left : (old new : Option (List ℕ)) (before after bytes left : List ℕ) → Moves old new before after bytes → old ≡ Some left
    → (rest : List ℕ) × (new ≡ Some rest) × (before ++ left ≡ bytes ++ (after ++ rest))
still_left old None before after bytes left m told = absurd (subst (λ (o : Option (List ℕ)). Consumes o None m.taken) told m.consumed)
still_left old (Some rest) before after bytes left m told =
    let came : left ≡ m.taken ++ rest = subst (λ (o : Option (List ℕ)). Consumes o (Some rest) m.taken) told m.consumed in
    (rest, refl, ap (λ x. before ++ x) came ∙ sym (append_assoc before m.taken rest) ∙ ap (λ x. x ++ rest) m.parts ∙ append_assoc bytes after rest)

-- of two beginnings of one text the shorter is a beginning of the longer
pub shorter : (front rest text more : List ℕ) → text ++ more ≡ front ++ rest → length front ≤ length text → text ≡ front ++ drop (length front) text
shorter front rest text more same short =
    let n = length front in
    let is : take n text ≡ front = sym (take-append-le n text more short) ∙ ap (take n) same ∙ take-append_seam front rest in
    sym (take-append-drop n text) ∙ ap (λ x. x ++ drop n text) is

-- a beginning with as many line feeds as a head can have is longer than the head
pub feeds_over : (bytes rest text more : List ℕ) → IsWithinLimits bytes → ((n : ℕ) → n < length bytes → 1 ≤ feeds (drop n bytes)) → text ++ more ≡ bytes ++ rest
    → FEEDS_MAX ≤ feeds text → length bytes ≤ length text
feeds_over bytes rest text more limits ends same many = elim (cases_lt (length text) (length bytes)) [
  | inl short ↦
      let whole = shorter text more bytes rest (sym same) (omega (arith, short)) in
      absurd (omega (arith, limits.1, ap feeds whole, feeds-append text (drop (length text) bytes), many, ends (length text) short))
  | inr long ↦ long
]

module _ {H : Type 0} (Spells : List ℕ → H → Type 0) (HasNone IsOpen IsOver : List ℕ → Type 0) (grammar : IsGrammar Spells HasNone IsOver) where
  longer : (bytes rest text more : List ℕ) (head : H) → Spells bytes head → text ++ more ≡ bytes ++ rest → length bytes ≤ length text → HasNone text → ⊥
  longer bytes rest text more head spells same short none = grammar.none bytes _ text head spells (shorter bytes rest text more same short) none

  hopeless : (bytes rest text more : List ℕ) (head : H) → Spells bytes head → text ++ more ≡ bytes ++ rest → HasNone text → IsHopeless Spells HasNone IsOpen IsOver text → ⊥
  hopeless bytes rest text more head spells same none (inl over) = grammar.over bytes rest text more head spells same none over
  hopeless bytes rest text more head spells same none (inr long) =
      longer bytes rest text more head spells same (omega (arith, grammar.short bytes head spells, long)) none

  pub finds : (old new : Option (List ℕ)) (before after : List ℕ) (result : HeadRead H) → ReadsHead Spells HasNone IsOpen IsOver old new before after result
      → FindsHead Spells old before result
  finds old new before after (read.Head last) reads bytes rest head spells come =
      let left = still_left old new before after reads.0 come.0 reads.1 come.1 in
      grammar.one bytes rest reads.0 _ head last spells reads.2 (sym come.2 ∙ left.2)
  finds old new before after read.Ended reads bytes rest head spells come =
      let left = still_left old new before after [] come.0 reads.0 come.1 in
      let gone : left.0 ≡ [] = subst IsAtEnd left.1 reads.1 in
      let nothing : bytes ++ rest ≡ [] = sym come.2 ∙ left.2 ∙ ap (λ x. after ++ x) gone ∙ append-nil after ∙ reads.2 in
      omega (arith, grammar.some bytes head spells, ap length nothing, length-append bytes rest)
  finds old new before after (read.CutShort taken) reads bytes rest head spells come =
      let left = still_left old new before after [] come.0 reads.0 come.1 in
      let gone : left.0 ≡ [] = subst IsAtEnd left.1 reads.1 in
      grammar.none bytes rest after head spells (sym (append-nil after) ∙ ap (λ x. after ++ x) (sym gone) ∙ sym left.2 ∙ come.2) reads.2.none
  finds old new before after (read.BadHead taken) reads bytes rest head spells come =
      let left = still_left old new before after [] come.0 reads.0 come.1 in
      hopeless bytes rest after left.0 head spells (sym left.2 ∙ come.2) reads.1.none reads.1.cause
  finds old new before after read.ReadFault reads bytes rest head spells come = tt
  finds old new before after read.Memory reads bytes rest head spells come = tt
