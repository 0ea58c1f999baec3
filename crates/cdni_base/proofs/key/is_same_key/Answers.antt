use Rattle.cdni_base.specs.KeyEqualityLemmas.{key_decides}
use Rattle.cdni_base.proofs.key.is_same_key.Goals as goal

pub returns : goal.returns
returns c = rw c.eq.ensures (key_decides c.args.key.now c.args.other.now)
