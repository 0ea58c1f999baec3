-- Log files and their bad lines.
use Rattle.std.proofs.Common.{◌≡◌, ℕ, ◌+◌, ◌-◌, ◌<◌, ◌≤◌, inl, inr, ⊎_elim, ◌↔◌, true, false, List, [], ◌∷◌, ◌++◌, Option, None, Some, length, take, drop, refl, ap, sym, subst, ◌∙◌, append-nil, append_assoc, take-append-drop, arith}
use Rattle.std.proofs.lemmas.Bool.{cases_Bool, cases_order, false≢true}
use Rattle.std.proofs.lemmas.List.{drop-take, length-drop, length-take, take-take, take_all}
use Rattle.std.proofs.lemmas.Option.{none-some, same_Some}
use Rattle.std.specs.List.{concat}
use Rattle.log_audit.specs.declared.place.Place.{Place}
use Rattle.log_audit.specs.declared.place.Place.TheVariants as place
use Rattle.log_audit.specs.LogFile.{LogFile, IsLogFile}
use Rattle.log_audit.specs.Lines.{bad_line, front, is_end, lines_of, next, Begins, EndsHope, IsBadLine}
use Rattle.log_audit.proofs.LineLemmas.{AreLines, cut_lines, ended, feeds, feeds_lines, few_lines, is_line, joined, last_at}
use Rattle.log_audit.proofs.WalkLemmas.{found, gone, none_bad, passed, stopped, walk, walk_append, walked_lines}
use Rattle.log_audit.proofs.WholeLemmas.{ending, ending_walks, of_file, to_file}

pub no_bad_line : (text : List ℕ) → (bad_line text ≡ None) ↔ ((file : LogFile) × IsLogFile text file)
no_bad_line text = (
  λ none. to_file text (passed 1 place.Version (lines_of text) none),
  λ is. none_bad 1 place.Version (lines_of text) (of_file text is.0 is.1),
)

-- ---- beginnings

are_append : (lines others : List (List ℕ)) → AreLines lines → AreLines others → AreLines (lines ++ others)
are_append [] others all more = more
are_append (line ∷ lines) others all more = (all.0, are_append lines others all.1 more)

concat_append : (lines others : List (List ℕ)) → concat (lines ++ others) ≡ concat lines ++ concat others
concat_append [] others = refl
concat_append (line ∷ lines) others = ap (λ t. line ++ t) (concat_append lines others) ∙ sym (append_assoc line (concat lines) (concat others))

-- lines over which a walk leads begin a log file
begins_from : (lines : List (List ℕ)) (last : Place) → walk place.Version lines ≡ Some last → Begins (concat lines)
begins_from lines last is =
    let rest = concat (ending last) in
    let whole = walked_lines place.Version last lines is in
    let others = walked_lines last place.End (ending last) (ending_walks last) in
    let cut_rest : lines_of rest ≡ ending last = ap lines_of (sym (append-nil rest)) ∙ (cut_lines (ending last) [] others ∙ append-nil (ending last)) in
    let cut : lines_of (concat lines ++ rest) ≡ lines ++ ending last = cut_lines lines rest whole ∙ ap (λ l. lines ++ l) cut_rest in
    let leads : walk place.Version (lines_of (concat lines ++ rest)) ≡ Some place.End = ap (walk place.Version) cut ∙ (walk_append place.Version lines (ending last) ∙ rw is (ending_walks last)) in
    let made = to_file (concat lines ++ rest) leads in
    (rest, made.0, made.1)

-- over lines that begin a log file a walk leads
begins_to : (lines : List (List ℕ)) → AreLines lines → Begins (concat lines) → (last : Place) × (walk place.Version lines ≡ Some last)
begins_to lines all begins =
    let leads : walk place.Version (lines ++ lines_of begins.0) ≡ Some place.End = ap (walk place.Version) (sym (cut_lines lines begins.0 all)) ∙ of_file (concat lines ++ begins.0) begins.1 begins.2 in
    let on = gone (walk place.Version lines) (λ after. walk after (lines_of begins.0)) place.End (sym (walk_append place.Version lines (lines_of begins.0)) ∙ leads) in
    (on.0, on.1)

-- what begins what begins a log file begins one
begins_less : (text more : List ℕ) → Begins (text ++ more) → Begins text
begins_less text more begins = (more ++ begins.0, begins.1, subst (λ t. IsLogFile t begins.1) (append_assoc text more begins.0) begins.2)

-- ---- the first lines

take_more : {A : Type 0} (n m : ℕ) (xs : List A) → n ≤ m → take m xs ≡ take n xs ++ take (m - n) (drop n xs)
take_more n m xs le =
    let back : m ≡ n + (m - n) = omega arith in
    let behind = ap (λ j. drop n (take j xs)) back ∙ drop-take n (m - n) xs in
    sym (take-append-drop n (take m xs)) ∙ (ap (λ t. t ++ drop n (take m xs)) (take-take n m xs le) ∙ ap (λ t. take n xs ++ t) behind)

fronts : (text : List ℕ) (n m : ℕ) → n ≤ m → (more : List ℕ) × (front m text ≡ front n text ++ more)
fronts text n m le =
    let lines = lines_of text in
    (concat (take (m - n) (drop n lines)), ap concat (take_more n m lines le) ∙ concat_append (take n lines) (take (m - n) (drop n lines)))

front_all : (text : List ℕ) (n : ℕ) → length (lines_of text) ≤ n → front n text ≡ text
front_all text n le = ap concat (take_all n (lines_of text) le) ∙ joined text

-- ---- one bad line

never_before : (text : List ℕ) (n m : ℕ) → IsBadLine text n → IsBadLine text m → n < m → ⊥
never_before text n m first second lt =
    let prefix = fronts text n (m - 1) (omega (arith, lt)) in
    let begins = begins_less (front n text) prefix.0 (subst Begins prefix.1 second.before) in
    ⊎_elim (λ refused. refused begins) (λ cut. at_end cut.0) first.after
  where
    at_end : feeds text + 1 ≡ n → ⊥
    at_end count =
        let all : front (m - 1) text ≡ text = front_all text (m - 1) (omega (arith, few_lines text, count, lt)) in
        let more : front m text ≡ text = front_all text m (omega (arith, few_lines text, count, lt)) in
        ⊎_elim (λ refused. refused (subst Begins (sym more) (subst Begins all second.before))) (λ other. absurd (omega (arith, other.0, count, lt))) second.after

-- ---- the bad line that is found

is_bad : (text : List ℕ) (n : ℕ) → bad_line text ≡ Some n → IsBadLine text n
is_bad text n is =
    let lines = lines_of text in
    let at = found 1 place.Version lines n is in
    let back : n - 1 ≡ at.0 = omega (arith, at.2) in
    record {
      from = omega (arith, at.2);
      before = subst (λ k. Begins (front k text)) (sym back) (begins_from (take at.0 lines) at.1 at.3);
      after = ⊎_elim (λ out. inr (ends at.0 at.1 n at.2 at.3 out.0 out.1)) (λ refused. stops at.0 at.1 n at.2 at.3 refused.0 refused.1 refused.2 refused.3) at.4;
    }
  where
    no_file : (last : Option Place) → walk place.Version (lines_of text) ≡ last → (last ≡ Some place.End → ⊥) → (file : LogFile) → IsLogFile text file → ⊥
    no_file last walks other file is = other (sym walks ∙ of_file text file is)

    ends : (k : ℕ) (last : Place) (n : ℕ) → n ≡ 1 + k → walk place.Version (take k (lines_of text)) ≡ Some last → k ≡ length (lines_of text) → is_end last ≡ false → (feeds text + 1 ≡ n) × ((file : LogFile) → IsLogFile text file → ⊥)
    ends k last n count walks out early =
        let whole : take k (lines_of text) ≡ lines_of text = take_all k (lines_of text) (omega (arith, out)) in
        let leads : walk place.Version (lines_of text) ≡ Some last = ap (walk place.Version) (sym whole) ∙ walks in
        let all = walked_lines place.Version last (lines_of text) leads in
        let counted : feeds text ≡ length (lines_of text) + 0 = ap feeds (sym (joined text) ∙ sym (append-nil (concat (lines_of text)))) ∙ feeds_lines (lines_of text) [] all in
        (omega (arith, counted, out, count), no_file (Some last) leads (λ same. false≢true (sym early ∙ ap is_end (same_Some last place.End same))))

    stops : (k : ℕ) (last : Place) (n : ℕ) → n ≡ 1 + k → walk place.Version (take k (lines_of text)) ≡ Some last → (line : List ℕ) (rest : List (List ℕ)) → drop k (lines_of text) ≡ line ∷ rest → next last line ≡ None → EndsHope text n
    stops k last n count walks line rest cut none = ⊎_elim (λ whole. inl (λ begins. refused whole begins)) (λ part. inr (counted part, no_file None (ap (walk place.Version) all ∙ stopped place.Version last (take k (lines_of text)) line rest walks none) (λ same. none-some place.End same))) (cases_Bool (is_line line))
      where
        all : lines_of text ≡ take k (lines_of text) ++ line ∷ rest
        all = sym (take-append-drop k (lines_of text)) ∙ ap (λ t. take k (lines_of text) ++ t) cut

        before : AreLines (take k (lines_of text))
        before = walked_lines place.Version last (take k (lines_of text)) walks

        first : take n (lines_of text) ≡ take k (lines_of text) ++ line ∷ []
        first =
            let one : 1 + k - k ≡ 1 = omega arith in
            ap (λ j. take j (lines_of text)) count ∙ (take_more k (1 + k) (lines_of text) (omega arith) ∙ ap (λ t. take k (lines_of text) ++ t) (ap (λ j. take j (drop k (lines_of text))) one ∙ ap (take 1) cut))

        refused : is_line line ≡ true → Begins (front n text) → ⊥
        refused whole begins =
            let lines : AreLines (take k (lines_of text) ++ line ∷ []) = are_append (take k (lines_of text)) (line ∷ []) before (whole, tt) in
            let leads = begins_to (take k (lines_of text) ++ line ∷ []) lines (subst (λ l. Begins (concat l)) first begins) in
            none-some leads.0 (sym (stopped place.Version last (take k (lines_of text)) line [] walks none) ∙ leads.1)

        counted : is_line line ≡ false → feeds text + 1 ≡ n
        counted part =
            let end = last_at (lines_of text) k line rest (ended text) cut part in
            let long : length (take k (lines_of text)) ≡ k = length-take k (lines_of text) ∙ omega (arith, ap length cut, length-drop k (lines_of text)) in
            let text_is : text ≡ concat (take k (lines_of text)) ++ (line ++ concat rest) = sym (joined text) ∙ (ap concat all ∙ concat_append (take k (lines_of text)) (line ∷ rest)) in
            let none_left : feeds (line ++ concat rest) ≡ 0 = ap (λ r. feeds (line ++ concat r)) end.0 ∙ (ap feeds (append-nil line) ∙ end.1) in
            let total = ap feeds text_is ∙ feeds_lines (take k (lines_of text)) (line ++ concat rest) before in
            omega (arith, total, none_left, long, count)

-- ---- both ways

begins_whole : (text : List ℕ) (n : ℕ) (file : LogFile) → IsLogFile text file → Begins (front n text)
begins_whole text n file is =
    let prefix = fronts text n (n + length (lines_of text)) (omega arith) in
    let whole = sym prefix.1 ∙ front_all text (n + length (lines_of text)) (omega arith) in
    begins_less (front n text) prefix.0 ([], file, subst (λ t. IsLogFile t file) (sym (append-nil (front n text ++ prefix.0) ∙ whole)) is)

pub bad_line_is : (text : List ℕ) (n : ℕ) → (bad_line text ≡ Some n) ↔ IsBadLine text n
bad_line_is text n = (is_bad text n, λ bad. by bad (bad_line text) refl)
  where
    one : (m : ℕ) → IsBadLine text n → IsBadLine text m → n ≡ m
    one m first second = ⊎_elim (λ same. same) (λ apart. ⊎_elim (λ less. absurd (never_before text n m first second less)) (λ more. absurd (never_before text m n second first more)) apart) (cases_order n m)

    by : IsBadLine text n → (found : Option ℕ) → bad_line text ≡ found → found ≡ Some n
    by bad None e =
        let made = (no_bad_line text).0 e in
        ⊎_elim (λ refused. absurd (refused (begins_whole text n made.0 made.1))) (λ cut. absurd (cut.1 made.0 made.1)) bad.after
    by bad (Some m) e = ap Some (sym (one m bad (is_bad text m e)))
