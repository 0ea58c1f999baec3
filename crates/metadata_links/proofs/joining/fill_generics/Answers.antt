use Rattle.std.proofs.Common.{arith, ◌∙◌, codes, sym, ap}
use Rattle.std.proofs.lemmas.List.{set-set}
use Rattle.metadata_links.specs.Joined.{followed}
use Rattle.metadata_links.proofs.Items.{list_is_filled}
use Rattle.metadata_links.proofs.joining.fill_generics.Goals as goal

pub returns-in-Ok : goal.returns-in-Ok
returns-in-Ok c = list_is_filled followed _ c.in-Ok.items.items c.fill_each_generic.result _ _ c.in-Ok.ensures c.fill_each_generic.ensures
