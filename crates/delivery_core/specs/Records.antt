-- The deliveries that are open, and the rows of those that were finished.
use Rattle.std.specs.Prelude.{ℕ, ◌+◌, ◌-◌, List, ◌∷◌, [], ◌++◌, None, Some}
use Rattle.std.specs.Option.{option_map}
use Rattle.std.specs.declared.option.Option.{Option}
use Rattle.cdni_log.specs.declared.row.Row.{Row}
use Rattle.history.specs.After.{row_of}
use Rattle.history.specs.declared.begun.Admission.{Admission}
use Rattle.shelf.specs.Open.{unnamed}
use Rattle.shelf.specs.declared.open.Open.{Open}
use Rattle.delivery_core.specs.declared.records.Ending.{Ending}

-- the open deliveries, in order, how many were begun, the rows that no log file has, in order, how many there ever were, and
-- how many deliveries can begin without memory
pub record RecordsView : Type 0 where
  pub deliveries : List (Open Admission)
  pub delivered : ℕ
  pub unfiled : List Row
  pub logged : ℕ
  pub spare : ℕ

-- one delivery more
abbrev pub begun : RecordsView → ℕ → Admission → RecordsView
begun r pass what = record r {
  deliveries = r.deliveries ++ record { number = r.delivered + 1; pass = pass; what = what } ∷ [];
  delivered = r.delivered + 1;
  spare = r.spare - 1;
}

-- the row of a delivery that ended so
abbrev pub finished_row : Admission → Ending → Row
finished_row what ending = row_of ending.status ending.total ending.entity ending.moment what

abbrev pub finish_reply : RecordsView → Option (Open Admission) → Option ℕ
finish_reply r found = option_map (λ one. r.logged + 1) found

abbrev pub finish_after : RecordsView → ℕ → ℕ → Ending → Option (Open Admission) → RecordsView
finish_after r pass delivery ending None = r
finish_after r pass delivery ending (Some one) = record r {
  deliveries = unnamed delivery pass r.deliveries;
  unfiled = r.unfiled ++ finished_row one.what ending ∷ [];
  logged = r.logged + 1;
}
