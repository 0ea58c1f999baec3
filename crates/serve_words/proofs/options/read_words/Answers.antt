use Rattle.std.proofs.Common.{sym}
use Rattle.serve_words.proofs.OptionsLemmas.{says_nothing}
use Rattle.serve_words.proofs.options.read_words.Goals as goal

pub returns-then-not-is_in_form : goal.returns-then-not-is_in_form
returns-then-not-is_in_form c = says_nothing c.args.words.now (sym c.if-not-is_in_form.ensures)
