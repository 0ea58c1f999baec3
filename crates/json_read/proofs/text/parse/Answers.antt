use Rattle.std.proofs.Common.{◌∙◌}
use Rattle.std.proofs.lemmas.Bool.{iff_false}
use Rattle.json_read.proofs.Texts.{json_of-utf8, json_of-none}
use Rattle.json_read.proofs.text.parse.Goals as goal

pub returns-in-Ok : goal.returns-in-Ok
returns-in-Ok c = json_of-utf8 _ c.in-Ok.ensures.ok.0 ∙ c.in-Ok.ensures.ok.1

pub returns-else-is_memory : goal.returns-else-is_memory
returns-else-is_memory c = json_of-none _ (c.in-Err.ensures.err (iff_false c.is_memory.ensures c.if-is_memory.false))
