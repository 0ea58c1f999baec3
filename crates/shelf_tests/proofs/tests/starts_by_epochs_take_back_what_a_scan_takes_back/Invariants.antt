use Rattle.std.proofs.Common.{◌+◌, ◌≤◌}
use Rattle.shelf_tests.proofs.tests.starts_by_epochs_take_back_what_a_scan_takes_back.Given as goal

abbrev pub invariant-calls : goal.invariant-calls
invariant-calls g l = l.shelf.fetched + l.shelf.starts ≤ l.call-counter
