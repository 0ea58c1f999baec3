use Rattle.trigger_command.proofs.SelectionLemmas.{url_hits_is}
use Rattle.trigger_command.proofs.selection.UrlItem.hits.Goals as goal

pub returns : goal.returns
returns c = url_hits_is c.args.key.now c.args.self.now c.is_of.result c.is_of.ensures
