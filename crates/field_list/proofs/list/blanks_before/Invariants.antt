use Rattle.std.proofs.Common.{◌≡◌, ◌≤◌, ◌<◌, ◌-◌, ℕ, true, length, get_or}
use Rattle.field_list.specs.List.{is_blank}
use Rattle.field_list.proofs.list.blanks_before.Given as goal

abbrev pub invariant-blanks : goal.invariant-blanks
invariant-blanks l = record { within : l.count ≤ length l.text; blank : (k : ℕ) → k < l.count → is_blank (get_or l.text k 0) ≡ true }

abbrev pub decreases-blanks : goal.decreases-blanks
decreases-blanks l = length l.text - l.count
