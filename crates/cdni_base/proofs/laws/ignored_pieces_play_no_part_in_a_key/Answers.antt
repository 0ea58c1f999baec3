use Rattle.cdni_base.proofs.KeyLemmas.{same_key}
use Rattle.cdni_base.proofs.laws.ignored_pieces_play_no_part_in_a_key.Goals as goal

pub returns : goal.returns
returns c = same_key
