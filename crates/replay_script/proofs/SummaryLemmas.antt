-- The answers that were given were counted.
use Rattle.std.proofs.Common.{◌≡◌, ℕ, ◌+◌, ◌^◌, ◌<◌, ◌≤◌, List, [], ◌∷◌, ◌++◌, length, refl, sym, ◌∙◌, ap, inl, inr, None, Some}
use Rattle.std.specs.declared.option.Option.{Option}
use Rattle.answer_summary.specs.Summary.{rows_of, words_of, rising}
use Rattle.answer_summary.specs.declared.summary.Row.{Row}
use Rattle.replay_script.specs.Lines.{Line, lines_of}
use Rattle.replay_script.specs.Script.{Listed, listed_of, summary_rows}
use Rattle.replay_script.specs.Reading.{Underway, Running, AreAll, Ended}
use Rattle.replay_script.specs.Summary.{Summarizes, ReadsSummed}
use Rattle.replay_script.specs.declared.script.ReplayEnd.{ReplayEnd}
use Rattle.replay_script.specs.declared.script.ReplayEnd.TheVariants as replay_end
use Rattle.replay_script.proofs.ReadingLemmas.{given_so_far, unstarted}
use Rattle.replay_script.proofs.ReplayLemmas.{stops_none, stops_at}

counted_all : (script : List ℕ) (given : List (List ℕ)) (rows : List Row) → AreAll given (listed_of (lines_of script)) → rows ≡ rows_of given → rows ≡ summary_rows script
unfolding summary_rows
counted_all script given rows all counted = counted ∙ sym (ap (λ (l : Listed). rows_of l.each) all)

module _ (before after : Option (List ℕ)) (given : List (List ℕ)) (rows : List Row) (counted : rows ≡ rows_of given) where
  pub sums : (end : ReplayEnd) → Ended before after given end → Summarizes before after rows end
  sums replay_end.Done e = (e.script, e.told, (e.at.0, stops_none _ given e.at.1, counted_all e.script given rows e.at.1 counted))
  sums (replay_end.NotALine number at) e = (e.script, e.told, stops_at _ number at given e.at.0)
  sums replay_end.ReadFault e = (e.script, e.told, tt)
  sums replay_end.WriteFault e = absurd e.at
  sums replay_end.Memory e = (e.script, e.told, tt)

  pub sums_reads : (end : ReplayEnd) → Ended before after given end → ReadsSummed before after end
  sums_reads replay_end.Done e = (e.bytes, e.consumed, stops_none _ given e.at.2)
  sums_reads (replay_end.NotALine number at) e = (e.bytes, e.consumed, elim e.at.1 [ inl read ↦ inl (stops_at _ number at given read) | inr end ↦ inr end ])
  sums_reads replay_end.ReadFault e = (e.bytes, e.consumed, stops_none _ given e.at.1)
  sums_reads replay_end.WriteFault e = absurd e.at
  sums_reads replay_end.Memory e = (e.bytes, e.consumed, tt)

-- nothing is counted yet
pub counted_none : [] ≡ rows_of []
unfolding rows_of words_of rising
counted_none = refl

-- want of memory behind an answer
pub sums_memory : (before after : Option (List ℕ)) (given : List (List ℕ)) (way : Underway) (rows : List Row) → Running before after given way → Summarizes before after rows replay_end.Memory
sums_memory before after given way rows r = let s = given_so_far before after given way r in (s.script, s.told, tt)

pub sums_memory_reads : (before after : Option (List ℕ)) (given : List (List ℕ)) (way : Underway) → Running before after given way → ReadsSummed before after replay_end.Memory
sums_memory_reads before after given way r = let s = given_so_far before after given way r in (s.bytes, s.consumed, tt)

-- before the first line
pub sums_unstarted : (before : Option (List ℕ)) (rows : List Row) → Summarizes before before rows replay_end.Memory
sums_unstarted before rows = let e = unstarted before in (e.script, e.told, tt)

pub sums_unstarted_reads : (before : Option (List ℕ)) → ReadsSummed before before replay_end.Memory
sums_unstarted_reads before = let e = unstarted before in (e.bytes, e.consumed, tt)
