use Rattle.std.proofs.Common.{◌≡◌, drop}
use Rattle.metadata_links.specs.Filled.{all_seen}
use Rattle.metadata_links.specs.Gathering.{values_of}
use Rattle.metadata_links.proofs.Trees.{in_front}
use Rattle.metadata_links.proofs.tree.values_of.Given as goal

abbrev pub invariant-texts : goal.invariant-texts
invariant-texts l = in_front (all_seen l.values.items) (values_of (drop l.i l.texts)) ≡ values_of l.texts
