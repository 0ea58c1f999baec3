-- A script on its way: what was written, what is in the buffer and what is left to say are the whole text.
use Rattle.std.proofs.Common.{◌≡◌, ℕ, suc, ◌+◌, ◌-◌, ◌<◌, false, List, [], ◌++◌, length, take, sym, ◌∙◌, ap, subst, refl, arith, append_assoc, append-nil, length-append}
use Rattle.std.specs.declared.option.Option.{Option}
use Rattle.std.specs.Io.KnownBytes.{Appends}
use Rattle.std.proofs.KnownBytes.{Appends-trans, Appends-nil}
use Rattle.std.proofs.Math.Seq.{take-append-add, take-append_seam}
use Rattle.std.proofs.lemmas.List.{take-append-le}
use Rattle.generated_script.specs.Line.{first_lines}
use Rattle.generated_script.specs.Course.{course_of, round_lines, after_round}
use Rattle.generated_script.specs.declared.course.Course.{Course}
use Rattle.generated_script.specs.Script.{script_of, rounds_text, MovesOut}

pub record UnderWay (old now : Option (List ℕ)) (buffer rest text : List ℕ) : Type 0 where
  pub written : List ℕ
  pub added : Appends old now written
  pub whole : written ++ (buffer ++ rest) ≡ text

-- nothing is written yet
pub running_start : (old : Option (List ℕ)) (buffer rest text : List ℕ) → buffer ++ rest ≡ text → UnderWay old old buffer rest text
running_start old buffer rest text is = record { written = []; added = Appends-nil old; whole = is }

-- more of the rest is in the buffer
pub running_put : (old now : Option (List ℕ)) (buffer rest text lines more grown : List ℕ) → UnderWay old now buffer rest text → grown ≡ buffer ++ lines → rest ≡ lines ++ more
    → UnderWay old now grown more text
running_put old now buffer rest text lines more grown r grown_is rest_is = record {
  written = r.written;
  added = r.added;
  whole = ap (λ (l : List ℕ). r.written ++ l) (ap (λ (l : List ℕ). l ++ more) grown_is ∙ append_assoc buffer lines more ∙ ap (λ (l : List ℕ). buffer ++ l) (sym rest_is)) ∙ r.whole;
}

-- one round more is in the buffer
rounds_text_next : (left round : ℕ) (course : Course) → rounds_text (suc left) round course ≡ round_lines round course ++ rounds_text left (round + 1) (after_round round course)
unfolding rounds_text
rounds_text_next left round course = refl

rounds_text_from : (left next round : ℕ) (course : Course) → left ≡ suc next → rounds_text left round course ≡ round_lines round course ++ rounds_text next (round + 1) (after_round round course)
rounds_text_from left next round course is = ap (λ n. rounds_text n round course) is ∙ rounds_text_next next round course

pub running_round : (old now : Option (List ℕ)) (buffer text grown : List ℕ) (left round : ℕ) (course after : Course) → UnderWay old now buffer (rounds_text left round course) text → 0 < left
    → grown ≡ buffer ++ round_lines round course → after ≡ after_round round course → UnderWay old now grown (rounds_text (left - 1) (round + 1) after) text
running_round old now buffer text grown left round course after r some grown_is after_is =
    running_put old now buffer _ text (round_lines round course) _ grown r grown_is
    (rounds_text_from left (left - 1) round course (omega arith) ∙ ap (λ (c : Course). round_lines round course ++ rounds_text (left - 1) (round + 1) c) (sym after_is))

-- a front of the buffer was written
pub running_moved : (old now next : Option (List ℕ)) (buffer rest text kept : List ℕ) → UnderWay old now buffer rest text → MovesOut now next buffer kept false → UnderWay old next kept rest text
running_moved old now next buffer rest text kept r moved = record {
  written = r.written ++ moved.0;
  added = Appends-trans old now next _ _ r.added moved.1;
  whole = append_assoc r.written moved.0 (kept ++ rest) ∙ ap (λ (l : List ℕ). r.written ++ l) (sym (append_assoc moved.0 kept rest) ∙ ap (λ (l : List ℕ). l ++ rest) (sym moved.2)) ∙ r.whole;
}

-- a part of the buffer was written that lacks its end
pub running_cut : (old now next : Option (List ℕ)) (buffer rest text : List ℕ) → UnderWay old now buffer rest text → (n : ℕ) → n < length buffer → Appends now next (take n buffer)
    → (m : ℕ) × (m < length text) × Appends old next (take m text)
running_cut old now next buffer rest text r n short added =
    let front : take (length r.written + n) text ≡ r.written ++ take n buffer =
    ap (take (length r.written + n)) (sym r.whole) ∙ take-append-add r.written (buffer ++ rest) n ∙ ap (λ (l : List ℕ). r.written ++ l) (take-append-le n buffer rest (omega arith)) in
    let long : length text ≡ length r.written + (length buffer + length rest) =
    ap length (sym r.whole) ∙ length-append r.written (buffer ++ rest) ∙ ap (λ (k : ℕ). length r.written + k) (length-append buffer rest) in
    (length r.written + n, omega (arith, long), subst (Appends old next) (sym front) (Appends-trans old now next _ _ r.added added))

-- nothing more was written
pub running_front : (old now : Option (List ℕ)) (buffer rest text : List ℕ) → UnderWay old now buffer rest text → (m : ℕ) × Appends old now (take m text)
running_front old now buffer rest text r =
    (length r.written, subst (Appends old now) (sym (ap (take (length r.written)) (sym r.whole) ∙ take-append_seam r.written (buffer ++ rest))) r.added)

-- all is in the buffer, and was written
pub running_done : (old now next : Option (List ℕ)) (buffer text : List ℕ) (left round : ℕ) (course : Course) → UnderWay old now buffer (rounds_text left round course) text → left ≡ 0 → Appends now next buffer
    → Appends old next text
unfolding rounds_text
running_done old now next buffer text left round course r none added =
    let rest : rounds_text left round course ≡ [] = ap (λ n. rounds_text n round course) none in
    let all : r.written ++ buffer ≡ text = ap (λ (l : List ℕ). r.written ++ l) (sym (ap (λ (l : List ℕ). buffer ++ l) rest ∙ append-nil buffer)) ∙ r.whole in
    subst (Appends old next) all (Appends-trans old now next _ _ r.added added)

-- the first lines are in the buffer
pub begun : (empty buffer : List ℕ) (left rounds seed : ℕ) (course : Course) → empty ≡ [] → buffer ≡ empty ++ first_lines → left ≡ rounds → course ≡ course_of seed
    → buffer ++ rounds_text left 1 course ≡ script_of rounds seed
unfolding script_of
begun empty buffer left rounds seed course none is left_is start =
    ap (λ (l : List ℕ). l ++ rounds_text left 1 course) (is ∙ ap (λ (l : List ℕ). l ++ first_lines) none) ∙ ap (λ (n : ℕ). first_lines ++ rounds_text n 1 course) left_is
    ∙ ap (λ (c : Course). first_lines ++ rounds_text rounds 1 c) start
