use Rattle.std.proofs.Common.{◌≡◌, length}
use Rattle.listing.specs.Number.{number_of}
use Rattle.script_line.specs.Grammar.{each_of}
use Rattle.script_line.specs.declared.grammar.TheConstants.{COMMA}
use Rattle.script_line.proofs.GrammarLemmas.{parts_of, with_front}
use Rattle.script_line.proofs.grammar.read_ids.Given as goal

abbrev pub invariant-ids : goal.invariant-ids
invariant-ids l = with_front l.ids (each_of number_of (parts_of COMMA l.rest)) ≡ each_of number_of (parts_of COMMA l.text)

abbrev pub decreases-ids : goal.decreases-ids
decreases-ids l = length l.rest
