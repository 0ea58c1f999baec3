-- Words in the form of options.
use Rattle.std.proofs.lemmas.Option.{none-some, same_Some}
use Rattle.std.specs.declared.option.Option.{Option}
use Rattle.std.proofs.Common.{◌≡◌, ℕ, ◌-◌, ◌≤◌, ◌==◌, Bool, true, false, ◌&&◌, ◌||◌, if◌then◌else◌, bytes_eq, is_some, None, Some, List, [], ◌∷◌, length, take, drop, refl, true≢false, sym, ◌∙◌, ap, arith}
use Rattle.std.specs.Prelude.{String, string_bytes, slice_index_or}
use Rattle.std.specs.declared.alloc.Global.{Global}
use Rattle.std.proofs.lemmas.List.{take_all}
use Rattle.serve_words.specs.Form.{Pair, are_well, has_name, is_well, pairs_behind, pairs_of, texts_of, well_pairs, with_pair}

-- the first word, and the words behind it
pub behind : (words : List (String Global)) (word : String Global) (text : List ℕ) → 1 ≤ length words → word ≡ slice_index_or words 0 word → text ≡ string_bytes word
    → pairs_behind text (texts_of (take (length words - 1) (drop 1 words))) ≡ pairs_of (texts_of words)
behind [] word text some first is = absurd (omega (arith, some))
behind (w ∷ words) word text some first is =
    let e : length (w ∷ words) - 1 ≡ length words = omega arith in
    ap (λ (n : ℕ). pairs_behind text (texts_of (take n words))) e ∙ ap (λ (t : List ℕ). pairs_behind t (texts_of (take (length words) words))) (is ∙ ap string_bytes first)
    ∙ ap (λ (l : List (String Global)). pairs_behind (string_bytes w) (texts_of l)) (take_all (length words) words (omega arith))

-- the options behind one
pub rest_of : (name value : List ℕ) (others : Option (List Pair)) (pairs : List Pair) → with_pair name value others ≡ Some pairs → (rest : List Pair) × (others ≡ Some rest) × (pairs ≡ (name, value) ∷ rest)
rest_of name value None pairs is = absurd (none-some _ is)
rest_of name value (Some rest) pairs is = (rest, refl, sym (same_Some _ _ is))

-- of words that are options these are left, and one of them has the name exactly where one of all has
abbrev pub IsLeft : List ℕ → List (List ℕ) → List (List ℕ) → Type 0
IsLeft name words rest = (pairs : List Pair) → pairs_of words ≡ Some pairs → (left : List Pair) × (pairs_of rest ≡ Some left) × (has_name name pairs ≡ has_name name left)

pub left_all : (name : List ℕ) (words : List (List ℕ)) → IsLeft name words words
left_all name words pairs is = (pairs, is, refl)

pub left_less : (name : List ℕ) (words rest next : List (List ℕ)) (first value : List ℕ) → IsLeft name words rest → pairs_of rest ≡ with_pair first value (pairs_of next) → bytes_eq first name ≡ false → IsLeft name words next
left_less name words rest next first value left is other pairs all =
    let l = left pairs all in
    let r = rest_of first value (pairs_of next) l.0 (sym is ∙ l.1) in
    (r.0, r.1, l.2 ∙ ap (has_name name) r.2 ∙ ap (λ (t : Bool). t || has_name name r.0) other)

pub named_here : (name : List ℕ) (words rest next : List (List ℕ)) (first value : List ℕ) → IsLeft name words rest → pairs_of rest ≡ with_pair first value (pairs_of next) → bytes_eq first name ≡ true → (pairs : List Pair) → pairs_of words ≡ Some pairs → true ≡ has_name name pairs
named_here name words rest next first value left is same pairs all =
    let l = left pairs all in
    let r = rest_of first value (pairs_of next) l.0 (sym is ∙ l.1) in
    sym (l.2 ∙ ap (has_name name) r.2 ∙ ap (λ (t : Bool). t || has_name name r.0) same)

pub named_nowhere : (name : List ℕ) (words rest : List (List ℕ)) (count : ℕ) → IsLeft name words rest → pairs_of rest ≡ (if count == 0 then Some [] else None) → (pairs : List Pair) → pairs_of words ≡ Some pairs → false ≡ has_name name pairs
named_nowhere name words rest count left is pairs all = by (count == 0) refl
  where
    by : (t : Bool) → (count == 0) ≡ t → false ≡ has_name name pairs
    by true t =
        let l = left pairs all in
        let none : l.0 ≡ [] = sym (same_Some _ _ (sym (rw t at is) ∙ l.1)) in
        sym (l.2 ∙ ap (has_name name) none)
    by false t =
        let l = left pairs all in
        absurd (none-some _ (sym (rw t at is) ∙ l.1))

-- ---- all options

some_if : (t : Bool) (pairs : List Pair) → is_some (if t then Some pairs else None) ≡ t
some_if true pairs = refl
some_if false pairs = refl

-- words whose first option is this one
pub well_first : (words rest : List (List ℕ)) (name value : List ℕ) → pairs_of words ≡ with_pair name value (pairs_of rest) → (first others : Bool) → ((pairs : List Pair) → pairs_of rest ≡ Some pairs → first ≡ is_well (name, value) pairs)
    → others ≡ is_some (well_pairs (pairs_of rest)) → (first && others) ≡ is_some (well_pairs (pairs_of words))
well_first words rest name value is first others here more = by (pairs_of rest) refl
  where
    never : (a : Bool) → (a && false) ≡ false
    never true = refl
    never false = refl

    by : (found : Option (List Pair)) → pairs_of rest ≡ found → (first && others) ≡ is_some (well_pairs (pairs_of words))
    by None none =
        ap (λ (t : Bool). first && t) (more ∙ ap (λ (o : Option (List Pair)). is_some (well_pairs o)) none) ∙ never first
        ∙ sym (ap (λ (o : Option (List Pair)). is_some (well_pairs o)) (is ∙ ap (with_pair name value) none))
    by (Some pairs) some =
        let rest_well : others ≡ are_well pairs = more ∙ ap (λ (o : Option (List Pair)). is_some (well_pairs o)) some ∙ some_if (are_well pairs) pairs in
        let all : is_some (well_pairs (pairs_of words)) ≡ are_well ((name, value) ∷ pairs) = ap (λ (o : Option (List Pair)). is_some (well_pairs o)) (is ∙ ap (with_pair name value) some) ∙ some_if (are_well ((name, value) ∷ pairs)) ((name, value) ∷ pairs) in
        ap (λ (t : Bool). t && others) (here pairs some) ∙ ap (λ (t : Bool). is_well (name, value) pairs && t) rest_well ∙ sym all

-- the first option is not well
pub ill_first : (words rest : List (List ℕ)) (name value : List ℕ) → pairs_of words ≡ with_pair name value (pairs_of rest) → ((pairs : List Pair) → pairs_of rest ≡ Some pairs → false ≡ is_well (name, value) pairs) → false ≡ is_some (well_pairs (pairs_of words))
ill_first words rest name value is here = well_first words rest name value is false (is_some (well_pairs (pairs_of rest))) here refl

pub well_none : (words : List (List ℕ)) (count : ℕ) → pairs_of words ≡ (if count == 0 then Some [] else None) → (count == 0) ≡ is_some (well_pairs (pairs_of words))
well_none words count is = by (count == 0) refl
  where
    by : (t : Bool) → (count == 0) ≡ t → (count == 0) ≡ is_some (well_pairs (pairs_of words))
    by true t = t ∙ sym (ap (λ (o : Option (List Pair)). is_some (well_pairs o)) (rw t at is))
    by false t = t ∙ sym (ap (λ (o : Option (List Pair)). is_some (well_pairs o)) (rw t at is))

-- what is not there is none
pub not_pairs : {A : Type 0} (found : Option A) → is_some found ≡ false → found ≡ None
not_pairs None is = refl
not_pairs (Some a) is = absurd (true≢false is)
