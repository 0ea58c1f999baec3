-- What stands between two pieces of a line, and lines cut off from a text.
use Rattle.std.proofs.Common.{◌≡◌, ℕ, suc, ◌+◌, ◌-◌, ◌<◌, ◌≤◌, ◌==◌, ◌&&◌, ⊎_elim, Bool, true, false, not, List, [], ◌∷◌, ◌++◌, Option, None, Some, length, take, drop, refl, ap, sym, subst, ◌∙◌, append_assoc, arith, take-append-drop, take_at, ltb}
use Rattle.std.proofs.lemmas.Bool.{cases_Bool, cond-true, cond-false, eqb-true, ltb-true, ltb-false, not_from_true, not_from_false}
use Rattle.std.proofs.lemmas.List.{drop-drop, drop_at, length-append, length-drop, length-take, drop_all, take_all}
use Rattle.std.proofs.lemmas.List.Splits.{join_with_byte-slice_split}
use Rattle.std.proofs.lemmas.Option.{same_Some}
use Rattle.std.proofs.lemmas.Slice.Eq.{bytes_eq-Decides}
use Rattle.std.specs.Prelude.{bytes_eq, slice_range}
use Rattle.std.specs.List.{position_or_len}
use Rattle.std.specs.Option.{option_map, option_map_or}
use Rattle.listing.specs.Word.{parts_at}
use Rattle.cdni_log.specs.declared.field.Field.{Field}
use Rattle.cdni_log.specs.Line.{line_end}
use Rattle.log_audit.specs.Lines.{is_record_line, lines_of, onto_line, parts_in, values_in, IsCutOff, IsFramed}
use Rattle.log_audit.specs.Value.{is_record}

same_text : (a b : List ℕ) → bytes_eq a b ≡ true → a ≡ b
same_text a b = (bytes_eq-Decides a b).0

itself : (a : List ℕ) → bytes_eq a a ≡ true
itself a = (bytes_eq-Decides a a).1 refl

-- ---- frames

-- what is between so many bytes in front and so many at the end
abbrev inside : List ℕ → List ℕ → List ℕ → List ℕ
inside front back line = slice_range line (length front) (length line - length back)

pub framed_is : (front back line : List ℕ) → length front + length back ≤ length line → take (length front) line ≡ front → drop (length line - length back) line ≡ back → line ≡ front ++ (inside front back line ++ back)
framed_is front back line long first last =
    let n = length front in
    let m = length line - length back - n in
    let behind : drop n line ≡ take m (drop n line) ++ back = sym (take-append-drop m (drop n line)) ∙ ap (λ t. take m (drop n line) ++ t) (drop-drop m n line ∙ (ap (λ k. drop k line) (omega (arith, long)) ∙ last)) in
    sym (take-append-drop n line) ∙ (ap (λ t. t ++ drop n line) first ∙ ap (λ t. front ++ t) behind)

-- a line with a frame has its pieces
pub frame_long : (front middle back line : List ℕ) → line ≡ front ++ (middle ++ back) → length front + length back ≤ length line
frame_long front middle back line is = omega (arith, ap length is, length-append front (middle ++ back), length-append middle back)

pub frame_first : (front middle back line : List ℕ) → line ≡ front ++ (middle ++ back) → take (length front) line ≡ front
frame_first front middle back line is = ap (take (length front)) is ∙ take_at front (middle ++ back) (length front) refl

pub frame_last : (front middle back line : List ℕ) → line ≡ front ++ (middle ++ back) → drop (length line - length back) line ≡ back
frame_last front middle back line is =
    let whole : line ≡ (front ++ middle) ++ back = is ∙ sym (append_assoc front middle back) in
    ap (λ n. drop n line) (omega (arith, ap length is, length-append front (middle ++ back), length-append middle back, length-append front middle))
    ∙ (ap (drop (length (front ++ middle))) whole ∙ drop_at (front ++ middle) back (length (front ++ middle)) refl)

pub frame_inside : (front middle back line : List ℕ) → line ≡ front ++ (middle ++ back) → inside front back line ≡ middle
frame_inside front middle back line is =
    let rest : drop (length front) line ≡ middle ++ back = ap (drop (length front)) is ∙ drop_at front (middle ++ back) (length front) refl in
    ap (take (length line - length back - length front)) rest ∙ take_at middle back _ (omega (arith, ap length is, length-append front (middle ++ back), length-append middle back))

no_true : (b : Bool) → (b ≡ true → ⊥) → b ≡ false
no_true true never = absurd (never refl)
no_true false never = refl

and_true : (b : Bool) → (b && true) ≡ b
and_true true = refl
and_true false = refl

and_false : (b : Bool) → (b && false) ≡ false
and_false true = refl
and_false false = refl

-- the test of a form that prints the line again
pub frame_test : (form : List ℕ → Bool) (front back line : List ℕ) (found : Option (List ℕ)) → IsFramed front back line found
    → (form (inside front back line) && bytes_eq line (front ++ (inside front back line ++ back))) ≡ option_map_or form found false
frame_test form front back line None none =
    ap (λ t. form (inside front back line) && t) (no_true (bytes_eq line (front ++ (inside front back line ++ back))) (λ is. none (inside front back line) (same_text line _ is))) ∙ and_false (form (inside front back line))
frame_test form front back line (Some middle) is =
    let same = frame_inside front middle back line is in
    let printed : bytes_eq line (front ++ (inside front back line ++ back)) ≡ true = ap (λ m. bytes_eq line (front ++ (m ++ back))) same ∙ (bytes_eq-Decides line (front ++ (middle ++ back))).1 is in
    ap (λ t. form (inside front back line) && t) printed ∙ (and_true (form (inside front back line)) ∙ ap form same)

pub record_test : (fields : List Field) (line : List ℕ) (found : Option (List ℕ)) → IsFramed [] line_end line found → is_record_line fields line ≡ option_map_or (λ values. is_record fields (parts_in (Some values))) found false
record_test fields line found framed =
    ap (λ t. is_record fields (values_in line) && bytes_eq line (t ++ line_end)) (join_with_byte-slice_split 9 (inside [] line_end line))
    ∙ frame_test (λ values. is_record fields (parts_in (Some values))) [] line_end line found framed

-- ---- lines cut off

abbrev first_feed : List ℕ → ℕ
first_feed text = position_or_len (λ byte. byte == 10) text

feed_here : (byte : ℕ) (bytes : List ℕ) → (byte == 10) ≡ true → first_feed (byte ∷ bytes) ≡ 0
feed_here byte bytes is = cond-false (not (byte == 10)) (1 + first_feed bytes) 0 (not_from_true (byte == 10) is)

feed_behind : (byte : ℕ) (bytes : List ℕ) → (byte == 10) ≡ false → first_feed (byte ∷ bytes) ≡ 1 + first_feed bytes
feed_behind byte bytes is = cond-true (not (byte == 10)) (1 + first_feed bytes) 0 (not_from_false (byte == 10) is)

abbrev cut_after : ℕ → List ℕ → List (List ℕ)
cut_after n text = take n text ∷ lines_of (drop n text)

cut_first : (text : List ℕ) → first_feed text < length text → lines_of text ≡ cut_after (first_feed text + 1) text
cut_first [] h = absurd (omega (arith, h))
cut_first (byte ∷ bytes) h = ⊎_elim
    (λ here.
    let at : 1 ≡ first_feed (byte ∷ bytes) + 1 = omega (arith, feed_here byte bytes here) in
    cond-true (byte == 10) ((10 ∷ []) ∷ lines_of bytes) (onto_line byte (lines_of bytes)) here ∙ (ap (λ b. (b ∷ []) ∷ lines_of bytes) (sym (eqb-true byte 10 here)) ∙ ap (λ n. cut_after n (byte ∷ bytes)) at))
    (λ there.
    let at : suc (first_feed bytes + 1) ≡ first_feed (byte ∷ bytes) + 1 = omega (arith, feed_behind byte bytes there) in
    cond-false (byte == 10) ((10 ∷ []) ∷ lines_of bytes) (onto_line byte (lines_of bytes)) there ∙ (ap (onto_line byte) (cut_first bytes (omega (arith, h, feed_behind byte bytes there))) ∙ ap (λ n. cut_after n (byte ∷ bytes)) at))
    (cases_Bool (byte == 10))

abbrev cond_lines : List ℕ → List (List ℕ)
cond_lines [] = []
cond_lines (byte ∷ bytes) = (byte ∷ bytes) ∷ []

joined_line : (byte : ℕ) (bytes : List ℕ) → onto_line byte (cond_lines bytes) ≡ (byte ∷ bytes) ∷ []
joined_line byte [] = refl
joined_line byte (b ∷ bs) = refl

whole_line : (bytes : List ℕ) → length bytes ≤ first_feed bytes → lines_of bytes ≡ cond_lines bytes
whole_line [] h = refl
whole_line (byte ∷ bytes) h = ⊎_elim
    (λ here. absurd (omega (arith, h, feed_here byte bytes here)))
    (λ there. cond-false (byte == 10) ((10 ∷ []) ∷ lines_of bytes) (onto_line byte (lines_of bytes)) there ∙ (ap (onto_line byte) (whole_line bytes (omega (arith, h, feed_behind byte bytes there))) ∙ joined_line byte bytes))
    (cases_Bool (byte == 10))

abbrev parts_at_place : List ℕ → Option ℕ → Option (List ℕ × List ℕ)
parts_at_place text place = option_map (λ i. (take i text, drop (i + 1) text)) place

some_none : {A : Type 0} {a : A} → Some a ≡ None → ⊥
some_none h = cc

-- where a line is cut off
pub line_cut_off : (text before behind : List ℕ) → Some (before, behind) ≡ parts_at 10 text → IsCutOff text (take (length before + 1) text) (drop (length before + 1) text)
unfolding parts_at
line_cut_off text before behind e =
    let at = first_feed text in
    ⊎_elim (λ found.
    let within = ltb-true at (length text) found in
    let cut : parts_at 10 text ≡ Some (take at text, drop (at + 1) text) = ap (parts_at_place text) (cond-true (ltb at (length text)) (Some at) None found) in
    let first : before ≡ take at text = ap (λ (p : List ℕ × List ℕ). p.0) (same_Some (before, behind) (take at text, drop (at + 1) text) (e ∙ cut)) in
    let long : at + 1 ≡ length before + 1 = omega (arith, ap length first, length-take at text, within) in
    (cut_first text within ∙ ap (λ n. cut_after n text) long, omega (arith, length-drop (length before + 1) text, long, within)))
    (λ none. absurd (some_none (e ∙ ap (parts_at_place text) (cond-false (ltb at (length text)) (Some at) None none))))
    (cases_Bool (ltb at (length text)))

-- where none is
pub no_line_cut_off : (text : List ℕ) → 0 < length text → None ≡ parts_at 10 text → IsCutOff text text []
unfolding parts_at
no_line_cut_off [] some e = absurd (omega (arith, some))
no_line_cut_off (byte ∷ bytes) some e =
    let text = byte ∷ bytes in
    let at = first_feed text in
    ⊎_elim (λ found. absurd (some_none (sym (e ∙ ap (parts_at_place text) (cond-true (ltb at (length text)) (Some at) None found)))))
    (λ none. (whole_line text (ltb-false at (length text) none), some))
    (cases_Bool (ltb at (length text)))

pub whole_cut_off : (text : List ℕ) → 0 < length text → None ≡ parts_at 10 text → IsCutOff text (take (length text) text) (drop (length text) text)
whole_cut_off text some e =
    subst (λ (l : List ℕ). IsCutOff text l (drop (length text) text)) (sym (take_all (length text) text (omega arith)))
    (subst (λ (r : List ℕ). IsCutOff text text r) (sym (drop_all (length text) text (omega arith))) (no_line_cut_off text some e))

pub before_within : (text before behind : List ℕ) → Some (before, behind) ≡ parts_at 10 text → length before + 1 ≤ length text
unfolding parts_at
before_within text before behind e =
    let at = first_feed text in
    ⊎_elim (λ found.
    let within = ltb-true at (length text) found in
    let cut : parts_at 10 text ≡ Some (take at text, drop (at + 1) text) = ap (parts_at_place text) (cond-true (ltb at (length text)) (Some at) None found) in
    let first : before ≡ take at text = ap (λ (p : List ℕ × List ℕ). p.0) (same_Some (before, behind) (take at text, drop (at + 1) text) (e ∙ cut)) in
    omega (arith, ap length first, length-take at text, within))
    (λ none. absurd (some_none (e ∙ ap (parts_at_place text) (cond-false (ltb at (length text)) (Some at) None none))))
    (cases_Bool (ltb at (length text)))
