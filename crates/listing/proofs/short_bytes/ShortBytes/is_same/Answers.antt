use Rattle.std.proofs.Common.{◌∙◌}
use Rattle.listing.proofs.ShortLemmas.{same_fronts}
use Rattle.listing.proofs.short_bytes.ShortBytes.is_same.Goals as goal

pub returns-then-self-other : goal.returns-then-self-other
returns-then-self-other c = rw (← c.self.view_is, ← c.other.view_is) (c.is_same_array.ensures ∙ same_fronts c.self.inside.length c.other.inside.length c.self.inside.bytes c.other.inside.bytes c.if-self-other.true c.self.invariant.1 c.other.invariant.1)
