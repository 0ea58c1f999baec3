use Rattle.cdni_base.proofs.KeyLemmas.{told_apart}
use Rattle.cdni_base.proofs.laws.kept_pieces_tell_keys_apart.Goals as goal

pub returns : goal.returns
returns c = told_apart
