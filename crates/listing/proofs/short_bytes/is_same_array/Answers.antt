use Rattle.std.proofs.Common.{rules}
use Rattle.listing.proofs.ShortLemmas.{same_numbers}
use Rattle.listing.proofs.short_bytes.is_same_array.Goals as goal

pub returns : goal.returns
returns c = same_numbers c.args.bytes c.args.others c.from_le_bytes.result c.from_le_bytes-2.result (search rules) (search rules) (search rules) (search rules) c.from_le_bytes.ensures c.from_le_bytes-2.ensures
