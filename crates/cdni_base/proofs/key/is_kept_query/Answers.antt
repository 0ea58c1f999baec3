use Rattle.cdni_base.specs.Key.{is_kept}
use Rattle.cdni_base.proofs.KeyLemmas.{chain_iff, joined_is}
use Rattle.cdni_base.proofs.key.is_kept_query.Goals as goal

pub returns-in-Names : goal.returns-in-Names
returns-in-Names c =
    let pieces = rw (c.as_slice.ensures, c.bytes_of.ensures, c.bytes_of-in-Names.ensures) at c.are_kept_pieces.ensures in
    rw c.in-Names.is (chain_iff pieces (joined_is (is_kept c.in-Names.names) c.args.query.now c.args.kept.now))
