use Rattle.cdni_base.proofs.KeyLemmas.{all_pieces_seen}
use Rattle.cdni_base.proofs.key.are_kept_pieces.Goals as goal

pub returns : goal.returns
returns c = all_pieces_seen (λ bytes. bytes.now) _ _ c.pieces.left c.is_none.ensures (rw c.in_default.is at c.pieces.invariant)
