use Rattle.cdni_base.proofs.KeyLemmas.{with_all_pieces}
use Rattle.cdni_base.proofs.key.kept_pieces.Goals as goal

pub pieces-init : goal.pieces-init
pieces-init c = rw c.in_ok-kept.ensures.items (with_all_pieces _)
