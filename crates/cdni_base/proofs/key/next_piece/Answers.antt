use Rattle.cdni_base.proofs.KeyLemmas.{piece_cut_off, no_piece_cut_off}
use Rattle.cdni_base.proofs.key.next_piece.Goals as goal

pub returns-in-Some-clause-pieces : goal.returns-in-Some-clause-pieces
returns-in-Some-clause-pieces c = (piece_cut_off _ _ _ c.in-Some.ensures).0

pub returns-in-Some-clause-shorter : goal.returns-in-Some-clause-shorter
returns-in-Some-clause-shorter c = (piece_cut_off _ _ _ c.in-Some.ensures).1

pub returns-in-None-clause-pieces : goal.returns-in-None-clause-pieces
returns-in-None-clause-pieces c = no_piece_cut_off _ c.in-None.ensures
