-- How many answers of a script begin with each word.
use Rattle.std.specs.Prelude.{ℕ, ◌+◌, ◌-◌, ◌^◌, min, Bool, true, false, not, List, [], ◌∷◌, ◌++◌, map, codes, decimal, bytes_eq, ◌==◌, ◌&&◌}
use Rattle.std.specs.List.{take_while, filter, fold, flat_map, count_by}
use Rattle.std.specs.Ordering.{nat_cmp, is_lt}
use Rattle.std.specs.declared.cmp.Ordering.TheVariants.{Less, Equal, Greater}
use Rattle.std.specs.Cmp.Lexicographic.{slice_cmp}
use Rattle.answer_summary.specs.declared.summary.Row.{Row}
use Rattle.answer_summary.specs.declared.summary.TheConstants.{SPACE, LINE_FEED}

-- ---- words

-- no space and no line feed
abbrev pub is_in_word : ℕ → Bool
is_in_word byte = not (byte == SPACE) && not (byte == LINE_FEED)

-- the word that begins an answer: what stands before its first space or line feed
abbrev pub word_of : List ℕ → List ℕ
word_of answer = take_while is_in_word answer

abbrev pub is_word : List ℕ → Bool
is_word [] = false
is_word (byte ∷ bytes) = true

-- the words of the answers that have one
unfoldable pub words_of : List (List ℕ) → List (List ℕ)
words_of answers = filter is_word (map word_of answers)

-- ---- byte order

-- the word at its place in byte order among words that rise, once
unfoldable pub placed : List (List ℕ) → List ℕ → List (List ℕ)
placed [] word = word ∷ []
placed (next ∷ words) word = elim (slice_cmp nat_cmp next word) [
  | Less ↦ next ∷ placed words word
  | Equal ↦ next ∷ words
  | Greater ↦ word ∷ next ∷ words
]

-- the words in byte order, each once
unfoldable pub rising : List (List ℕ) → List (List ℕ)
rising words = fold placed [] words

-- ---- the summary

-- how often the word is there
unfoldable pub times : List ℕ → List (List ℕ) → ℕ
times word words = count_by (bytes_eq word) words

-- each word that begins an answer, in byte order, and how many begin with it
unfoldable pub rows_of : List (List ℕ) → List Row
rows_of answers = map (λ word. record { word = word; count = times word (words_of answers) }) (rising (words_of answers))

-- the word, a space and the number
abbrev pub row_line : Row → List ℕ
row_line row = row.word ++ codes " " ++ decimal row.count ++ codes "\n"

abbrev pub summary_text : List Row → List ℕ
summary_text rows = flat_map row_line rows

-- the summary of these answers
abbrev pub summary : List (List ℕ) → List ℕ
summary answers = summary_text (rows_of answers)

-- ---- one answer more

-- whether the row has a word before this one
abbrev pub stands_before : List ℕ → Row → Bool
stands_before word row = is_lt (slice_cmp nat_cmp row.word word)

-- the rows after one answer more that begins with the word
unfoldable pub counted : List ℕ → List Row → List Row
counted word [] = record { word = word; count = 1 } ∷ []
counted word (row ∷ rows) = elim (slice_cmp nat_cmp row.word word) [
  | Less ↦ row ∷ counted word rows
  | Equal ↦ record row { count = min (row.count + 1) (2 ^ 64 - 1) } ∷ rows
  | Greater ↦ record { word = word; count = 1 } ∷ row ∷ rows
]
