use Rattle.std.proofs.Common.{◌≡◌, drop, map}
use Rattle.json_read.specs.Path.{item_of}
use Rattle.serde_json.specs.View.{view}
use Rattle.trigger_command.specs.Draft.{each_from, each_of, pattern_at}
use Rattle.trigger_command.proofs.Loops.{with_front}
use Rattle.trigger_command.proofs.draft.patterns_of.Given as goal

abbrev pub invariant-items : goal.invariant-items
invariant-items l = with_front l.list (each_from (λ n value. pattern_at (item_of l.path n) value) l.i (drop l.i (map view l.items))) ≡ each_of pattern_at l.path (map view l.items)
