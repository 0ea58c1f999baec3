use Rattle.std.proofs.Common.{◌≡◌, length}
use Rattle.script_line.specs.Grammar.{each_of, key_of_url}
use Rattle.script_line.specs.declared.grammar.TheConstants.{BAR}
use Rattle.script_line.proofs.GrammarLemmas.{parts_of, with_front}
use Rattle.script_line.proofs.grammar.read_keys.Given as goal

abbrev pub invariant-urls : goal.invariant-urls
invariant-urls l = with_front l.keys (each_of key_of_url (parts_of BAR l.rest)) ≡ each_of key_of_url (parts_of BAR l.text)

abbrev pub decreases-urls : goal.decreases-urls
decreases-urls l = length l.rest
