use Rattle.std.proofs.Common.{◌≡◌, length, reverse}
use Rattle.metadata_links.specs.Gathering.{next_of}
use Rattle.metadata_links.proofs.gathering.next_of.Given as goal

abbrev pub decreases-documents : goal.decreases-documents
decreases-documents l = length l.opened.items

abbrev pub invariant-documents : goal.invariant-documents
invariant-documents l = next_of (reverse l.opened.items) ≡ next_of (reverse l.initial.opened.items)
