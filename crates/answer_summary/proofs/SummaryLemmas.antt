-- One answer more changes the summary as it is counted.
use Rattle.std.proofs.Common.{◌≡◌, ◌≢◌, ℕ, suc, ◌+◌, ◌-◌, ◌^◌, ◌<◌, ◌≤◌, min, true, false, cond, List, [], ◌∷◌, ◌++◌, map, length, refl, sym, ◌∙◌, ap, subst, arith, ◌⊎◌, inl, inr, bytes_eq, append-nil, zero, take, drop, get_or, set}
use Rattle.std.specs.List.{filter, fold, prefix_len, insert}
use Rattle.std.specs.Ordering.{nat_cmp, ordering_reverse, is_lt, is_eq}
use Rattle.std.proofs.lemmas.Map.Text.{is_eq-slice_cmp}
use Rattle.std.specs.declared.cmp.Ordering.{Ordering}
use Rattle.std.specs.declared.cmp.Ordering.TheVariants.{Less, Equal, Greater}
use Rattle.std.specs.Cmp.Lexicographic.{slice_cmp}
use Rattle.std.specs.FinMap.{slice_cmp-IsAntisymmetric, nat_cmp-IsAntisymmetric}
use Rattle.std.proofs.lemmas.Cmp.{nat_list_cmp_total, tied_itself}
use Rattle.std.proofs.lemmas.List.{map-append, length-map, get_or_default}
use Rattle.std.proofs.lemmas.List.Elements.{filter-append}
use Rattle.std.proofs.lemmas.List.Sums.{fold-append, sum_by-append, count_by-le-length, length-filter}
use Rattle.answer_summary.specs.Summary.{word_of, is_word, words_of, placed, rising, times, rows_of, counted, stands_before}
use Rattle.answer_summary.specs.Law.{IsCounted, SumsUp}
use Rattle.answer_summary.specs.declared.summary.Row.{Row}
use Rattle.std.specs.List.{AllByRecursion, list_any}
use Rattle.std.specs.List.Sorted.{IsStrictlySortedBy}
use Rattle.std.proofs.lemmas.Bool.{or_left, or_right}

-- ---- byte order

abbrev order : List ℕ → List ℕ → Ordering
order one two = slice_cmp nat_cmp one two

same_word : (one two : List ℕ) → order one two ≡ Equal → one ≡ two
same_word one two is = slice_cmp-IsAntisymmetric nat_cmp-IsAntisymmetric one two is

itself : (word : List ℕ) → order word word ≡ Equal
itself word = tied_itself nat_list_cmp_total word

less_apart : (one two : List ℕ) → order one two ≡ Less → one ≢ two
less_apart one two is same = let e : order one two ≡ Equal = ap (order one) (sym same) ∙ itself one in cc

greater_apart : (one two : List ℕ) → order one two ≡ Greater → one ≢ two
greater_apart one two is same = let e : order one two ≡ Equal = ap (order one) (sym same) ∙ itself one in cc

turned : (one two : List ℕ) → order one two ≡ Greater → order two one ≡ Less
turned one two is = nat_list_cmp_total.antisymm two one ∙ ap ordering_reverse is

follows : (one two three : List ℕ) → order one two ≡ Less → order two three ≡ Less → order one three ≡ Less
follows one two three first second = nat_list_cmp_total.trans one two three first second

-- ---- words that rise

-- each word stands behind this one
Above : List ℕ → List (List ℕ) → Type 0
Above word [] = Unit {0}
Above word (next ∷ words) = (order word next ≡ Less) × Above word words

Rising : List (List ℕ) → Type 0
Rising [] = Unit {0}
Rising (word ∷ words) = Above word words × Rising words

IsIn : List ℕ → List (List ℕ) → Type 0
IsIn word [] = ⊥
IsIn word (next ∷ words) = (next ≡ word) ⊎ IsIn word words

-- ---- the three ways in which a word is placed

placed_less : (next word : List ℕ) (words : List (List ℕ)) → order next word ≡ Less → placed (next ∷ words) word ≡ next ∷ placed words word
unfolding placed
placed_less next word words is = rw (is, placed) refl

placed_equal : (next word : List ℕ) (words : List (List ℕ)) → order next word ≡ Equal → placed (next ∷ words) word ≡ next ∷ words
unfolding placed
placed_equal next word words is = rw (is, placed) refl

placed_greater : (next word : List ℕ) (words : List (List ℕ)) → order next word ≡ Greater → placed (next ∷ words) word ≡ word ∷ next ∷ words
unfolding placed
placed_greater next word words is = rw (is, placed) refl

by_order : (one two : List ℕ) (P : Type 0) → (order one two ≡ Less → P) → (order one two ≡ Equal → P) → (order one two ≡ Greater → P) → P
by_order one two P less equal greater =
    elim (order one two) as (λ o. order one two ≡ o → P) [ Less ↦ less | Equal ↦ equal | Greater ↦ greater ] refl

above_all : (one two : List ℕ) (words : List (List ℕ)) → order one two ≡ Less → Above two words → Above one words
unfolding Above
above_all one two [] is above = tt
above_all one two (next ∷ words) is above = (follows one two next is above.0, above_all one two words is above.1)

above_placed : (one word : List ℕ) (words : List (List ℕ)) → order one word ≡ Less → Above one words → Above one (placed words word)
unfolding Above placed
above_placed one word [] is above = (is, tt)
above_placed one word (next ∷ words) is above = by_order next word (Above one (placed (next ∷ words) word))
    (λ o. subst (Above one) (sym (placed_less next word words o)) (above.0, above_placed one word words is above.1))
    (λ o. subst (Above one) (sym (placed_equal next word words o)) above)
    (λ o. subst (Above one) (sym (placed_greater next word words o)) (is, above))

placed_rises : (words : List (List ℕ)) (word : List ℕ) → Rising words → Rising (placed words word)
unfolding Above Rising placed
placed_rises [] word rises = (tt, tt)
placed_rises (next ∷ words) word rises = by_order next word (Rising (placed (next ∷ words) word))
    (λ o. subst Rising (sym (placed_less next word words o)) (above_placed next word words o rises.0, placed_rises words word rises.1))
    (λ o. subst Rising (sym (placed_equal next word words o)) rises)
    (λ o. let t = turned next word o in subst Rising (sym (placed_greater next word words o)) ((t, above_all word next words t rises.0), rises))

rises_from : (words more : List (List ℕ)) → Rising words → Rising (fold placed words more)
rises_from words [] rises = rises
rises_from words (word ∷ more) rises = rises_from (placed words word) more (placed_rises words word rises)

rising_rises : (words : List (List ℕ)) → Rising (rising words)
unfolding rising Rising
rising_rises words = rises_from [] words tt

placed_has : (words : List (List ℕ)) (word : List ℕ) → IsIn word (placed words word)
unfolding IsIn placed
placed_has [] word = inl refl
placed_has (next ∷ words) word = by_order next word (IsIn word (placed (next ∷ words) word))
    (λ o. subst (IsIn word) (sym (placed_less next word words o)) (inr (placed_has words word)))
    (λ o. subst (IsIn word) (sym (placed_equal next word words o)) (inl (same_word next word o)))
    (λ o. subst (IsIn word) (sym (placed_greater next word words o)) (inl refl))

placed_keeps : (words : List (List ℕ)) (word other : List ℕ) → IsIn other words → IsIn other (placed words word)
unfolding IsIn
placed_keeps [] word other is = absurd is
placed_keeps (next ∷ words) word other is = by_order next word (IsIn other (placed (next ∷ words) word))
    (λ o. subst (IsIn other) (sym (placed_less next word words o)) (elim is [ inl same ↦ inl same | inr later ↦ inr (placed_keeps words word other later) ]))
    (λ o. subst (IsIn other) (sym (placed_equal next word words o)) is)
    (λ o. subst (IsIn other) (sym (placed_greater next word words o)) (inr is))

-- ---- how often a word is there

times_none : (word : List ℕ) → times word [] ≡ 0
unfolding times
times_none word = refl

one_if : List ℕ → List ℕ → ℕ
one_if word other = cond (bytes_eq word other) 1 0

times_one : (word other : List ℕ) → times word (other ∷ []) ≡ one_if word other
unfolding times one_if
times_one word other = omega arith

times_append : (word : List ℕ) (words more : List (List ℕ)) → times word (words ++ more) ≡ times word words + times word more
unfolding times
times_append word words more = sum_by-append (λ x. cond (bytes_eq word x) 1 0) words more

times_first : (word next : List ℕ) (words : List (List ℕ)) → times word (next ∷ words) ≡ one_if word next + times word words
times_first word next words = times_append word (next ∷ []) words ∙ ap (λ n. n + times word words) (times_one word next)

times_last : (word next : List ℕ) (words : List (List ℕ)) → times word (words ++ next ∷ []) ≡ times word words + one_if word next
times_last word next words = times_append word words (next ∷ []) ∙ ap (λ n. times word words + n) (times_one word next)

times_most : (word : List ℕ) (words : List (List ℕ)) → times word words ≤ length words
unfolding times
times_most word words = count_by-le-length (bytes_eq word) words

bytes_eq_same : (word other : List ℕ) → word ≡ other → bytes_eq word other ≡ true
bytes_eq_same word other same = sym (is_eq-slice_cmp word other) ∙ ap is_eq (ap (order word) (sym same) ∙ itself word)

bytes_eq_apart : (word other : List ℕ) → word ≢ other → bytes_eq word other ≡ false
bytes_eq_apart word other apart = by_order word other (bytes_eq word other ≡ false)
    (λ o. sym (is_eq-slice_cmp word other) ∙ ap is_eq o)
    (λ o. absurd (apart (same_word word other o)))
    (λ o. sym (is_eq-slice_cmp word other) ∙ ap is_eq o)

one_same : (word other : List ℕ) → word ≡ other → one_if word other ≡ 1
unfolding one_if
one_same word other same = rw (bytes_eq_same word other same) refl

one_other : (word other : List ℕ) → word ≢ other → one_if word other ≡ 0
unfolding one_if
one_other word other apart = rw (bytes_eq_apart word other apart) refl

-- a word that is there is among those that rise
is_placed : (words more : List (List ℕ)) (word : List ℕ) → IsIn word words ⊎ (times word more ≢ 0) → IsIn word (fold placed words more)
is_placed words [] word there = elim there [ inl is ↦ is | inr some ↦ absurd (some (times_none word)) ]
is_placed words (next ∷ more) word there = elim there [
  | inl is ↦ is_placed (placed words next) more word (inl (placed_keeps words next word is))
  | inr some ↦ by_order word next (IsIn word (fold placed (placed words next) more))
      (λ o. is_placed (placed words next) more word (inr (λ none. some (times_first word next more ∙ ap (λ n. n + times word more) (one_other word next (less_apart word next o)) ∙ omega (arith, none)))))
      (λ o. is_placed (placed words next) more word (inl (subst (λ w. IsIn w (placed words next)) (sym (same_word word next o)) (placed_has words next))))
      (λ o. is_placed (placed words next) more word (inr (λ none. some (times_first word next more ∙ ap (λ n. n + times word more) (one_other word next (greater_apart word next o)) ∙ omega (arith, none)))))
]

is_rising : (words : List (List ℕ)) (word : List ℕ) → times word words ≢ 0 → IsIn word (rising words)
unfolding rising
is_rising words word some = is_placed [] words word (inr some)

-- ---- rows

row_in : List (List ℕ) → List ℕ → Row
row_in words word = record { word = word; count = times word words }

counted_none : (word : List ℕ) → counted word [] ≡ record { word = word; count = 1 } ∷ []
unfolding counted
counted_none word = refl

counted_less : (word : List ℕ) (row : Row) (rows : List Row) → order row.word word ≡ Less → counted word (row ∷ rows) ≡ row ∷ counted word rows
unfolding counted
counted_less word row rows is = rw (is, counted) refl

counted_equal : (word : List ℕ) (row : Row) (rows : List Row) → order row.word word ≡ Equal → counted word (row ∷ rows) ≡ record row { count = min (row.count + 1) (2 ^ 64 - 1) } ∷ rows
unfolding counted
counted_equal word row rows is = rw (is, counted) refl

counted_greater : (word : List ℕ) (row : Row) (rows : List Row) → order row.word word ≡ Greater → counted word (row ∷ rows) ≡ record { word = word; count = 1 } ∷ row ∷ rows
unfolding counted
counted_greater word row rows is = rw (is, counted) refl

module _ (words : List (List ℕ)) (word : List ℕ) (few : length words < 2 ^ 64 - 1) where
  -- the rows of other words stay
  row_stays : (other : List ℕ) → other ≢ word → row_in (words ++ word ∷ []) other ≡ row_in words other
  unfolding row_in
  row_stays other apart = ap (λ (n : ℕ). record { word = other; count = n }) (times_last other word words ∙ ap (λ n. times other words + n) (one_other other word apart) ∙ omega arith)

  row_grows : (other : List ℕ) → other ≡ word → row_in (words ++ word ∷ []) other ≡ record { word = other; count = min (times other words + 1) (2 ^ 64 - 1) }
  unfolding row_in
  row_grows other same = ap (λ (n : ℕ). record { word = other; count = n }) (times_last other word words ∙ ap (λ n. times other words + n) (one_same other word same) ∙ omega (arith, few, times_most other words))

  rows_stay : (others : List (List ℕ)) → (IsIn word others → ⊥) → map (row_in (words ++ word ∷ [])) others ≡ map (row_in words) others
  unfolding IsIn
  rows_stay [] apart = refl
  rows_stay (other ∷ others) apart =
      ap (λ (row : Row). row ∷ map (row_in (words ++ word ∷ [])) others) (row_stays other (λ same. apart (inl same)))
      ∙ ap (λ (rows : List Row). row_in words other ∷ rows) (rows_stay others (λ later. apart (inr later)))

  is_new : (others : List (List ℕ)) → (times word words ≢ 0 → IsIn word others) → (IsIn word others → ⊥) → row_in (words ++ word ∷ []) word ≡ record { word = word; count = 1 }
  unfolding row_in
  is_new others known apart = ap (λ (n : ℕ). record { word = word; count = n })
      (times_last word word words ∙ ap (λ n. times word words + n) (one_same word word refl) ∙ ap (λ n. n + 1) (none (times word words) (λ some. apart (known some))))
    where
      none : (n : ℕ) → (n ≢ 0 → ⊥) → n ≡ 0
      none zero never = refl
      none (suc n) never = absurd (never (λ is. omega (arith, is)))

  -- the words that rise: none is this one where it stands before them
  above_apart : (next : List ℕ) (others : List (List ℕ)) → Above next others → IsIn next others → ⊥
  unfolding Above IsIn
  above_apart next [] above is = is
  above_apart next (other ∷ others) above is = elim is [ inl same ↦ less_apart next other above.0 (sym same) | inr later ↦ above_apart next others above.1 later ]

  rows_grow : (others : List (List ℕ)) → Rising others → (times word words ≢ 0 → IsIn word others) → map (row_in (words ++ word ∷ [])) (placed others word) ≡ counted word (map (row_in words) others)
  unfolding Rising Above IsIn placed row_in
  rows_grow [] rises known = ap (λ (row : Row). row ∷ []) (is_new [] known (λ is. is)) ∙ sym (counted_none word)
  rows_grow (next ∷ others) rises known = by_order next word (map (row_in (words ++ word ∷ [])) (placed (next ∷ others) word) ≡ counted word (row_in words next ∷ map (row_in words) others))
      (λ o. ap (map (row_in (words ++ word ∷ []))) (placed_less next word others o)
      ∙ ap (λ (row : Row). row ∷ map (row_in (words ++ word ∷ [])) (placed others word)) (row_stays next (less_apart next word o))
      ∙ ap (λ (rows : List Row). row_in words next ∷ rows) (rows_grow others rises.1 (λ some. elim (known some) [ inl same ↦ absurd (less_apart next word o same) | inr later ↦ later ]))
      ∙ sym (counted_less word (row_in words next) (map (row_in words) others) o))
      (λ o. ap (map (row_in (words ++ word ∷ []))) (placed_equal next word others o)
      ∙ ap (λ (row : Row). row ∷ map (row_in (words ++ word ∷ [])) others) (row_grows next (same_word next word o))
      ∙ ap (λ (rows : List Row). record { word = next; count = min (times next words + 1) (2 ^ 64 - 1) } ∷ rows) (rows_stay others (subst (λ w. IsIn w others → ⊥) (same_word next word o) (above_apart next others rises.0)))
      ∙ sym (counted_equal word (row_in words next) (map (row_in words) others) o))
      (λ o. let apart : IsIn word (next ∷ others) → ⊥ = λ is. elim is [ inl same ↦ greater_apart next word o same | inr later ↦ above_apart word others (above_all word next others (turned next word o) rises.0) later ] in
      ap (map (row_in (words ++ word ∷ []))) (placed_greater next word others o)
      ∙ ap (λ (row : Row). row ∷ map (row_in (words ++ word ∷ [])) (next ∷ others)) (is_new (next ∷ others) known apart)
      ∙ ap (λ (rows : List Row). record { word = word; count = 1 } ∷ rows) (rows_stay (next ∷ others) apart)
      ∙ sym (counted_greater word (row_in words next) (map (row_in words) others) o))

-- ---- one answer more

words_append : (answers : List (List ℕ)) (answer : List ℕ) → words_of (answers ++ answer ∷ []) ≡ words_of answers ++ filter is_word (word_of answer ∷ [])
unfolding words_of
words_append answers answer = ap (filter is_word) (map-append word_of answers (answer ∷ [])) ∙ filter-append is_word (map word_of answers) (word_of answer ∷ [])

words_few : (answers : List (List ℕ)) → length (words_of answers) ≤ length answers
unfolding words_of
words_few answers = omega (arith, length-filter is_word (map word_of answers), count_by-le-length is_word (map word_of answers), length-map answers word_of)

rows_in : List (List ℕ) → List Row
rows_in words = map (row_in words) (rising words)

rows_are : (answers : List (List ℕ)) → rows_of answers ≡ rows_in (words_of answers)
unfolding rows_of rows_in row_in
rows_are answers = refl

rising_last : (words : List (List ℕ)) (word : List ℕ) → rising (words ++ word ∷ []) ≡ placed (rising words) word
unfolding rising
rising_last words word = fold-append placed [] words (word ∷ [])

rows_more : (words : List (List ℕ)) (word : List ℕ) → length words < 2 ^ 64 - 1 → rows_in (words ++ word ∷ []) ≡ counted word (rows_in words)
unfolding rows_in
rows_more words word few = ap (map (row_in (words ++ word ∷ []))) (rising_last words word) ∙ rows_grow words word few (rising words) (rising_rises words) (is_rising words word)

-- an answer with a word
pub rows_count : (answers : List (List ℕ)) (answer word : List ℕ) (rows now : List Row) → word ≡ word_of answer → length word ≢ 0 → now ≡ counted word rows → length answers < 2 ^ 64 - 1 → rows ≡ rows_of answers
    → now ≡ rows_of (answers ++ answer ∷ [])
rows_count answers answer word rows now is some counts few same =
    let kept : filter is_word (word_of answer ∷ []) ≡ word ∷ [] = rw (sym is) (with_word word some) in
    let words : words_of (answers ++ answer ∷ []) ≡ words_of answers ++ word ∷ [] = words_append answers answer ∙ ap (λ l. words_of answers ++ l) kept in
    counts ∙ ap (counted word) (same ∙ rows_are answers) ∙ sym (rows_more (words_of answers) word (omega (arith, few, words_few answers))) ∙ ap rows_in (sym words) ∙ sym (rows_are (answers ++ answer ∷ []))
  where
    with_word : (w : List ℕ) → length w ≢ 0 → filter is_word (w ∷ []) ≡ w ∷ []
    with_word [] some = absurd (some refl)
    with_word (byte ∷ bytes) some = refl

-- an answer without a word
pub rows_without : (answers : List (List ℕ)) (answer word : List ℕ) (rows : List Row) → word ≡ word_of answer → length word ≡ 0 → rows ≡ rows_of answers → rows ≡ rows_of (answers ++ answer ∷ [])
rows_without answers answer word rows is none same =
    let kept : filter is_word (word_of answer ∷ []) ≡ [] = rw (sym is) (without_word word none) in
    let words : words_of (answers ++ answer ∷ []) ≡ words_of answers = words_append answers answer ∙ ap (λ l. words_of answers ++ l) kept ∙ append-nil (words_of answers) in
    same ∙ rows_are answers ∙ ap rows_in (sym words) ∙ sym (rows_are (answers ++ answer ∷ []))
  where
    without_word : (w : List ℕ) → length w ≡ 0 → filter is_word (w ∷ []) ≡ []
    without_word [] none = refl
    without_word (byte ∷ bytes) none = absurd (cc)

-- ---- a row at its place

abbrev Pass : List ℕ → List Row → ℕ
Pass word rows = prefix_len (stands_before word) rows

passed : (word : List ℕ) (row : Row) (rows : List Row) → order row.word word ≡ Less → Pass word (row ∷ rows) ≡ suc (Pass word rows)
passed word row rows is = rw (is) (omega arith)

stopped : (word : List ℕ) (row : Row) (rows : List Row) → is_lt (order row.word word) ≡ false → Pass word (row ∷ rows) ≡ 0
stopped word row rows is = rw is refl

-- the word has a row
pub row_bumped : (word : List ℕ) (rows : List Row) (d row : Row) → Pass word rows < length rows → get_or rows (Pass word rows) d ≡ row → row.word ≡ word
    → set rows (Pass word rows) (record row { count = min (row.count + 1) (2 ^ 64 - 1) }) ≡ counted word rows
row_bumped word [] d row within at same = absurd (omega arith)
row_bumped word (next ∷ rows) d row within at same =
    let now : Row = record row { count = min (row.count + 1) (2 ^ 64 - 1) } in
    by_order next.word word (set (next ∷ rows) (Pass word (next ∷ rows)) now ≡ counted word (next ∷ rows))
    (λ o. let p = passed word next rows o in
    ap (λ i. set (next ∷ rows) i now) p
    ∙ ap (λ (l : List Row). next ∷ l) (row_bumped word rows d row (omega (arith, within, p)) (sym (ap (λ i. get_or (next ∷ rows) i d) p) ∙ at) same)
    ∙ sym (counted_less word next rows o))
    (λ o. let p = stopped word next rows (ap is_lt o) in
    let here : next ≡ row = sym (ap (λ i. get_or (next ∷ rows) i d) p) ∙ at in
    ap (λ i. set (next ∷ rows) i now) p
    ∙ ap (λ (r : Row). record r { count = min (r.count + 1) (2 ^ 64 - 1) } ∷ rows) (sym here)
    ∙ sym (counted_equal word next rows o))
    (λ o. let p = stopped word next rows (ap is_lt o) in
    let here : next ≡ row = sym (ap (λ i. get_or (next ∷ rows) i d) p) ∙ at in
    absurd (greater_apart next.word word o (ap (λ (r : Row). r.word) here ∙ same)))

-- the word has no row: where it would stand there is none, or one of another word
pub row_added : (word : List ℕ) (rows : List Row) (d : Row) → ((row : Row) → Pass word rows < length rows → get_or rows (Pass word rows) d ≡ row → row.word ≢ word)
    → take (Pass word rows) rows ++ (record { word = word; count = 1 } ∷ drop (Pass word rows) rows) ≡ counted word rows
row_added word [] d other = sym (counted_none word)
row_added word (next ∷ rows) d other =
    let new : Row = record { word = word; count = 1 } in
    let at : ℕ → List Row = λ i. take i (next ∷ rows) ++ (new ∷ drop i (next ∷ rows)) in
    by_order next.word word (at (Pass word (next ∷ rows)) ≡ counted word (next ∷ rows))
    (λ o. let p = passed word next rows o in
    ap at p
    ∙ ap (λ (l : List Row). next ∷ l) (row_added word rows d (λ row within is. other row (omega (arith, within, p)) (ap (λ i. get_or (next ∷ rows) i d) p ∙ is)))
    ∙ sym (counted_less word next rows o))
    (λ o. let p = stopped word next rows (ap is_lt o) in
    absurd (other next (omega (arith, p)) (ap (λ i. get_or (next ∷ rows) i d) p) (same_word next.word word o)))
    (λ o. ap at (stopped word next rows (ap is_lt o)) ∙ sym (counted_greater word next rows o))

-- what the code reads at the place
pub read_again : (rows : List Row) (at : ℕ) (d row : Row) → at < length rows → row ≡ get_or rows at row → get_or rows at d ≡ row
read_again rows at d row within is = get_or_default rows at d row within ∙ sym is

pub count_bumped : (word : List ℕ) (rows : List Row) (at : ℕ) (seen row : Row) (count : ℕ) → at ≡ Pass word rows → at < length rows → seen ≡ get_or rows at seen → seen.word ≡ word → row ≡ get_or rows at row → count ≡ min (row.count + 1) (2 ^ 64 - 1)
    → set rows at (record { word = row.word; count = count }) ≡ counted word rows
count_bumped word rows at seen row count place within first same second more =
    let one : seen ≡ row = first ∙ read_again rows at seen row within second in
    let found : get_or rows (Pass word rows) row ≡ row = sym (ap (λ i. get_or rows i row) place) ∙ sym second in
    ap (λ n. set rows at (record { word = row.word; count = n })) more ∙ ap (λ i. set rows i (record row { count = min (row.count + 1) (2 ^ 64 - 1) })) place
    ∙ row_bumped word rows row row (omega (arith, place, within)) found (sym (ap (λ (r : Row). r.word) one) ∙ same)

-- no row is at the place, or one of another word
pub count_added : (word : List ℕ) (rows now : List Row) (at : ℕ) → at ≡ Pass word rows → ((row : Row) → at < length rows → row ≡ get_or rows at row → row.word ≢ word)
    → now ≡ insert rows at (record { word = word; count = 1 }) → now ≡ counted word rows
count_added word rows now at place other is =
    let d : Row = record { word = word; count = 1 } in
    is ∙ ap (λ i. insert rows i d) place
    ∙ row_added word rows d (λ row within found. other row (omega (arith, place, within)) (sym (ap (λ i. get_or rows i row) place ∙ get_or_default rows (Pass word rows) row d within ∙ found)))

-- ---- what a summary is

each_above : (one : List ℕ) (others : List (List ℕ)) → Above one others → AllByRecursion (λ other. order one other ≡ Less) others
unfolding Above
each_above one [] above = tt
each_above one (other ∷ others) above = (above.0, each_above one others above.1)

strictly : (words : List (List ℕ)) → Rising words → IsStrictlySortedBy (slice_cmp nat_cmp) words
unfolding Rising IsStrictlySortedBy
strictly [] rises = tt
strictly (word ∷ words) rises = (each_above word words rises.0, strictly words rises.1)

words_in : (words all : List (List ℕ)) → map (λ (row : Row). row.word) (map (row_in all) words) ≡ words
unfolding row_in
words_in [] all = refl
words_in (word ∷ words) all = ap (λ (l : List (List ℕ)). word ∷ l) (words_in words all)

-- a word among those that rise is there
taken_in : (words : List (List ℕ)) (word other : List ℕ) → IsIn other (placed words word) → (other ≡ word) ⊎ IsIn other words
unfolding IsIn placed
taken_in [] word other is = elim is [ inl same ↦ inl (sym same) | inr never ↦ absurd never ]
taken_in (next ∷ words) word other is = by_order next word ((other ≡ word) ⊎ IsIn other (next ∷ words))
    (λ o. elim (subst (IsIn other) (placed_less next word words o) is) [
      | inl same ↦ inr (inl same)
      | inr later ↦ elim (taken_in words word other later) [ inl same ↦ inl same | inr there ↦ inr (inr there) ]
    ])
    (λ o. inr (subst (IsIn other) (placed_equal next word words o) is))
    (λ o. elim (subst (IsIn other) (placed_greater next word words o) is) [ inl same ↦ inl (sym same) | inr there ↦ inr there ])

comes_from : (words more : List (List ℕ)) (word : List ℕ) → IsIn word (fold placed words more) → IsIn word words ⊎ (1 ≤ times word more)
comes_from words [] word is = inl is
comes_from words (next ∷ more) word is = elim (comes_from (placed words next) more word is) [
  | inl there ↦ elim (taken_in words next word there) [
    | inl same ↦ inr (omega (arith, times_first word next more, one_same word next same))
    | inr before ↦ inl before
  ]
  | inr some ↦ inr (omega (arith, times_first word next more, some))
]

each_some : (words : List (List ℕ)) (word : List ℕ) → IsIn word (rising words) → 1 ≤ times word words
unfolding rising IsIn
each_some words word is = elim (comes_from [] words word is) [ inl never ↦ absurd never | inr some ↦ some ]

all_counted : (words all : List (List ℕ)) → ((word : List ℕ) → IsIn word words → 1 ≤ times word all) → AllByRecursion (IsCounted all) (map (row_in all) words)
unfolding IsIn row_in
all_counted [] all some = tt
all_counted (word ∷ words) all some = (record { number = refl; some = some word (inl refl) }, all_counted words all (λ other is. some other (inr is)))

row_there : (words all : List (List ℕ)) (word : List ℕ) → IsIn word words → list_any (λ row. bytes_eq row.word word) (map (row_in all) words) ≡ true
unfolding IsIn row_in
row_there [] all word is = absurd is
row_there (next ∷ words) all word is = elim is [
  | inl same ↦ or_left _ _ (bytes_eq_same next word same)
  | inr later ↦ or_right _ _ (row_there words all word later)
]

pub sums_up : (answers : List (List ℕ)) → SumsUp answers (rows_of answers)
unfolding rows_of row_in
sums_up answers =
    let words : List (List ℕ) = words_of answers in
    record {
      rising = subst (IsStrictlySortedBy (slice_cmp nat_cmp)) (sym (words_in (rising words) words)) (strictly (rising words) (rising_rises words));
      counted = all_counted (rising words) words (each_some words);
      whole = λ word some. row_there (rising words) words word (is_rising words word some);
    }
