use Rattle.std.proofs.Common.{◌∙◌, sym, None}
use Rattle.std.proofs.lemmas.Option.{none-some}
use Rattle.http_node.proofs.ServeLemmas.{as_read, no_room, not_usage}
use Rattle.workers.proofs.HiringLemmas.{diary_same}
use Rattle.http_node.proofs.serve.serve_main.Goals as goal

pub returns-in-Options-clause-usage : goal.returns-in-Options-clause-usage
returns-in-Options-clause-usage g c = λ is. absurd (not_usage _ c.serve_noted.ensures.command.1.kind is)

pub returns-in-Options-clause-no_command : goal.returns-in-Options-clause-no_command
returns-in-Options-clause-no_command g c = λ none. absurd (none-some _ (sym none ∙ c.in-Options.ensures))

pub returns-in-Options-clause-untouched : goal.returns-in-Options-clause-untouched
returns-in-Options-clause-untouched g c = λ none. absurd (none-some _ (sym none ∙ c.in-Options.ensures))

pub returns-in-Options-clause-usage_noted : goal.returns-in-Options-clause-usage_noted
returns-in-Options-clause-usage_noted g c = λ none. absurd (none-some _ (sym none ∙ c.in-Options.ensures))

pub returns-in-Options-clause-command : goal.returns-in-Options-clause-command
returns-in-Options-clause-command g c = λ options is. as_read c.in-Options.options options c.args.words.now c.in-Options.ensures is _ _ _ _ _ _ _ _ c.serve_noted.ensures.command

pub returns-in-NotOne-clause-command : goal.returns-in-NotOne-clause-command
returns-in-NotOne-clause-command g c = λ options is. absurd (none-some _ (sym c.in-NotOne.ensures ∙ is))

pub returns-in-Memory-clause-command : goal.returns-in-Memory-clause-command
returns-in-Memory-clause-command g c = λ options is. (None, no_room options _ _ _ _ _ _ (diary_same _), c.note_status-in-Memory.ensures)
