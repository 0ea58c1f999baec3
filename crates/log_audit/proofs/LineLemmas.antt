-- The lines of a text.
use Rattle.std.proofs.Common.{◌≡◌, ℕ, zero, suc, ◌+◌, ◌≤◌, ◌==◌, ◌⊎◌, inl, inr, Bool, true, false, cond, List, [], ◌∷◌, ◌++◌, length, drop, refl, ap, sym, ◌∙◌, append_assoc, arith}
use Rattle.std.proofs.lemmas.Bool.{eqb-true, false≢true}
use Rattle.std.proofs.lemmas.List.Sums.{sum_by-cons}
use Rattle.std.specs.List.{AllByRecursion, concat, count_by}
use Rattle.log_audit.specs.Lines.{lines_of, onto_line}

abbrev pub is_none : List ℕ → Bool
is_none [] = true
is_none (byte ∷ bytes) = false

-- a line with its LF at its end, and no other
abbrev pub is_line : List ℕ → Bool
is_line [] = false
is_line (byte ∷ bytes) = cond (byte == 10) (is_none bytes) (is_line bytes)

abbrev pub AreLines : List (List ℕ) → Type 0
AreLines lines = AllByRecursion (λ line. is_line line ≡ true) lines

-- how many LF
abbrev pub feeds : List ℕ → ℕ
feeds text = count_by (λ byte. byte == 10) text

none_is : (bytes : List ℕ) → is_none bytes ≡ true → bytes ≡ []
none_is [] is = refl
none_is (byte ∷ bytes) is = absurd (false≢true is)

-- ---- a line cut off

cut_by : (byte : ℕ) (bytes rest : List ℕ) → (is_line bytes ≡ true → lines_of (bytes ++ rest) ≡ bytes ∷ lines_of rest) → (feed : Bool) → (byte == 10) ≡ feed → cond feed (is_none bytes) (is_line bytes) ≡ true → cond feed ((10 ∷ []) ∷ lines_of (bytes ++ rest)) (onto_line byte (lines_of (bytes ++ rest))) ≡ (byte ∷ bytes) ∷ lines_of rest
cut_by byte bytes rest others true is line = rw (none_is bytes line, eqb-true byte 10 is) refl
cut_by byte bytes rest others false is line = ap (onto_line byte) (others line)

pub cut_line : (line rest : List ℕ) → is_line line ≡ true → lines_of (line ++ rest) ≡ line ∷ lines_of rest
cut_line [] rest is = absurd (false≢true is)
cut_line (byte ∷ bytes) rest is = cut_by byte bytes rest (cut_line bytes rest) (byte == 10) refl is

pub cut_lines : (lines : List (List ℕ)) (rest : List ℕ) → AreLines lines → lines_of (concat lines ++ rest) ≡ lines ++ lines_of rest
cut_lines [] rest all = refl
cut_lines (line ∷ lines) rest all =
    ap lines_of (append_assoc line (concat lines) rest) ∙ (cut_line line (concat lines ++ rest) all.0 ∙ ap (λ l. line ∷ l) (cut_lines lines rest all.1))

-- ---- lines joined again

onto_joined : (byte : ℕ) (lines : List (List ℕ)) → concat (onto_line byte lines) ≡ byte ∷ concat lines
onto_joined byte [] = refl
onto_joined byte (line ∷ lines) = refl

joined_by : (byte : ℕ) (bytes : List ℕ) → concat (lines_of bytes) ≡ bytes → (feed : Bool) → (byte == 10) ≡ feed → concat (cond feed ((10 ∷ []) ∷ lines_of bytes) (onto_line byte (lines_of bytes))) ≡ byte ∷ bytes
joined_by byte bytes others true is = ap (λ t. 10 ∷ t) others ∙ ap (λ b. b ∷ bytes) (sym (eqb-true byte 10 is))
joined_by byte bytes others false is = onto_joined byte (lines_of bytes) ∙ ap (λ t. byte ∷ t) others

pub joined : (text : List ℕ) → concat (lines_of text) ≡ text
joined [] = refl
joined (byte ∷ bytes) = joined_by byte bytes (joined bytes) (byte == 10) refl

-- ---- how many lines

feeds_cons : (byte : ℕ) (bytes : List ℕ) → feeds (byte ∷ bytes) ≡ cond (byte == 10) 1 0 + feeds bytes
feeds_cons byte bytes = sum_by-cons (λ b. cond (b == 10) 1 0) byte bytes

feeds_by : (byte : ℕ) (bytes rest : List ℕ) → (is_line bytes ≡ true → feeds (bytes ++ rest) ≡ 1 + feeds rest) → (feed : Bool) → cond feed (is_none bytes) (is_line bytes) ≡ true → cond feed 1 0 + feeds (bytes ++ rest) ≡ 1 + feeds rest
feeds_by byte bytes rest others true line = rw (none_is bytes line) refl
feeds_by byte bytes rest others false line = omega (arith, others line)

pub feeds_line : (line rest : List ℕ) → is_line line ≡ true → feeds (line ++ rest) ≡ 1 + feeds rest
feeds_line [] rest is = absurd (false≢true is)
feeds_line (byte ∷ bytes) rest is = feeds_cons byte (bytes ++ rest) ∙ feeds_by byte bytes rest (feeds_line bytes rest) (byte == 10) is

pub feeds_lines : (lines : List (List ℕ)) (rest : List ℕ) → AreLines lines → feeds (concat lines ++ rest) ≡ length lines + feeds rest
feeds_lines [] rest all = omega arith
feeds_lines (line ∷ lines) rest all =
    let more : 1 + feeds (concat lines ++ rest) ≡ length (line ∷ lines) + feeds rest = omega (arith, feeds_lines lines rest all.1) in
    ap feeds (append_assoc line (concat lines) rest) ∙ (feeds_line line (concat lines ++ rest) all.0 ∙ more)

-- ---- all lines but the last are ended

abbrev pub Ended : List (List ℕ) → Type 0
Ended [] = Unit {0}
Ended (line ∷ lines) = ((is_line line ≡ true) × Ended lines) ⊎ ((lines ≡ []) × (feeds line ≡ 0))

onto_ended : (byte : ℕ) (lines : List (List ℕ)) → (byte == 10) ≡ false → Ended lines → Ended (onto_line byte lines)
onto_ended byte [] is ended = inr (refl, feeds_cons byte [] ∙ rw is refl)
onto_ended byte (line ∷ lines) is (inl whole) = inl (rw is whole.0, whole.1)
onto_ended byte (line ∷ lines) is (inr last) = inr (last.0, feeds_cons byte line ∙ rw is (omega (arith, last.1)))

ended_by : (byte : ℕ) (bytes : List ℕ) → Ended (lines_of bytes) → (feed : Bool) → (byte == 10) ≡ feed → Ended (cond feed ((10 ∷ []) ∷ lines_of bytes) (onto_line byte (lines_of bytes)))
ended_by byte bytes others true is = inl (refl, others)
ended_by byte bytes others false is = onto_ended byte (lines_of bytes) is others

pub ended : (text : List ℕ) → Ended (lines_of text)
ended [] = tt
ended (byte ∷ bytes) = ended_by byte bytes (ended bytes) (byte == 10) refl

nil_cons : {x : List ℕ} {xs : List (List ℕ)} → [] ≡ x ∷ xs → ⊥
nil_cons e = cc

head_same : {x y : List ℕ} {xs ys : List (List ℕ)} → x ∷ xs ≡ y ∷ ys → x ≡ y
head_same e = cc

tail_same : {x y : List ℕ} {xs ys : List (List ℕ)} → x ∷ xs ≡ y ∷ ys → xs ≡ ys
tail_same e = cc

-- a line that is not ended is the last
pub last_at : (lines : List (List ℕ)) (k : ℕ) (line : List ℕ) (rest : List (List ℕ)) → Ended lines → drop k lines ≡ line ∷ rest → is_line line ≡ false → (rest ≡ []) × (feeds line ≡ 0)
last_at [] zero line rest all cut is = absurd (nil_cons cut)
last_at [] (suc k) line rest all cut is = absurd (nil_cons cut)
last_at (first ∷ lines) zero line rest (inl whole) cut is = absurd (false≢true (sym is ∙ (ap is_line (sym (head_same cut)) ∙ whole.0)))
last_at (first ∷ lines) zero line rest (inr last) cut is = (sym (tail_same cut) ∙ last.0, ap feeds (sym (head_same cut)) ∙ last.1)
last_at (first ∷ lines) (suc k) line rest (inl whole) cut is = last_at lines k line rest whole.1 cut is
last_at (first ∷ lines) (suc k) line rest (inr last) cut is = last_at lines k line rest (rw last.0 tt) cut is

length_ended : (lines : List (List ℕ)) → Ended lines → length lines ≤ feeds (concat lines) + 1
length_ended [] all = omega arith
length_ended (line ∷ lines) (inl whole) = omega (arith, length_ended lines whole.1, feeds_line line (concat lines) whole.0)
length_ended (line ∷ lines) (inr last) = rw last.0 (omega arith)

-- there is at most one line more than LF
pub few_lines : (text : List ℕ) → length (lines_of text) ≤ feeds text + 1
few_lines text = rw (joined text) at (length_ended (lines_of text) (ended text))
