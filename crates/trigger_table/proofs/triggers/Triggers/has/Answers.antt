use Rattle.std.proofs.Common.{◌∙◌}
use Rattle.trigger_table.proofs.Cancels.{has_is}
use Rattle.trigger_table.proofs.triggers.Triggers.has.Goals as goal

pub returns : goal.returns
returns c = c.is_some.ensures ∙ has_is c.args.id c.args.self.now.triggers c.place_of.result c.place_of.ensures
