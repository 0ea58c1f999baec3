-- What a summary is, in other words than those of its definition.
use Rattle.std.specs.Prelude.{◌≡◌, ◌≢◌, ℕ, ◌≤◌, List, map, true, bytes_eq}
use Rattle.std.specs.List.{AllByRecursion, list_any}
use Rattle.std.specs.List.Sorted.{IsStrictlySortedBy}
use Rattle.std.specs.Ordering.{nat_cmp}
use Rattle.std.specs.Cmp.Lexicographic.{slice_cmp}
use Rattle.answer_summary.specs.Summary.{words_of, times}
use Rattle.answer_summary.specs.declared.summary.Row.{Row}

-- the row says how many of these words are its own, which are some
pub record IsCounted (words : List (List ℕ)) (row : Row) : Type 0 where
  pub number : row.count ≡ times row.word words
  pub some : 1 ≤ row.count

-- each word stands before the next in byte order, so that none comes twice; each row is counted; and each word that
-- begins an answer has a row
pub record SumsUp (answers : List (List ℕ)) (rows : List Row) : Type 0 where
  pub rising : IsStrictlySortedBy (slice_cmp nat_cmp) (map (λ row. row.word) rows)
  pub counted : AllByRecursion (IsCounted (words_of answers)) rows
  pub whole : (word : List ℕ) → times word (words_of answers) ≢ 0
      → list_any (λ row. bytes_eq row.word word) rows ≡ true
