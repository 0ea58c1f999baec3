use Rattle.std.proofs.Common.{sym, ◌∙◌}
use Rattle.metadata_links.proofs.Trees.{whole_is}
use Rattle.metadata_links.proofs.tree.whole_of.Goals as goal

pub returns-in-Some : goal.returns-in-Some
returns-in-Some c = whole_is c.args.values.items _ c.in-Some.root c.fill_index.result _ (sym c.into_iter-documents.ensures.rest ∙ c.in-Some.ensures.items) c.fill_index.ensures
