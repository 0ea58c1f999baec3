use Rattle.std.proofs.Common.{refl}
use Rattle.json.proofs.Trees.{view-Array}
use Rattle.json_read.proofs.BorrowedData.{items_are}
use Rattle.json_read.proofs.value.BorrowedValueJsonValue.as_array.Goals as goal

pub returns-in-Array : goal.returns-in-Array
returns-in-Array c = rw (c.as_slice.ensures.value, items_are c.in-Array.items.items, c.in-Array.is, view-Array c.in-Array.items) refl
