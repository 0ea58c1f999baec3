use Rattle.std.proofs.Common.{Some, ap, sym}
use Rattle.json.proofs.Trees.{view-Array}
use Rattle.metadata_links.proofs.Items.{items_are}
use Rattle.metadata_links.proofs.joining.into_items.Goals as goal

pub returns-in-Array : goal.returns-in-Array
returns-in-Array c = rw (c.in-Array.is, view-Array c.in-Array.items) (ap Some (sym (items_are c.in-Array.items.items)))
