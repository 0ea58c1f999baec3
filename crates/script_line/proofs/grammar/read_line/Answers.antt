use Rattle.script_line.proofs.GrammarLemmas.{read_value, read_says, read_nothing, read_tells}
use Rattle.script_line.proofs.grammar.read_line.Goals as goal

pub returns-clause-value : goal.returns-clause-value
returns-clause-value c = read_value c.read_words.result _ c.read_words.ensures

pub returns-clause-says : goal.returns-clause-says
returns-clause-says c = read_says c.read_words.result c.args.line.now c.read_words.ensures

pub returns-clause-silent : goal.returns-clause-silent
returns-clause-silent c = read_nothing c.read_words.result c.args.line.now c.read_words.ensures

pub returns-clause-no_memory : goal.returns-clause-no_memory
returns-clause-no_memory c = read_tells c.read_words.result _ c.read_words.ensures
