use Rattle.std.proofs.Common.{rules}
use Rattle.epochs.proofs.ChainLemmas.{chained_more, written_back}
use Rattle.epochs.proofs.chains.Chains.add_chained.Goals as goal

pub returns-clause-whole : goal.returns-clause-whole
returns-clause-whole c unchained before whole =
    rw (c.push_back_reserved.ensures.items, c.push_back_reserved-2.ensures.items, written_back c.args.self.now.last.items c.chain.new.last c.args.self.now.last.len (search rules) (search rules))
    (chained_more c.args.self.now.starts.items c.args.self.now.links.items c.args.self.now.last.items c.args.newest unchained c.args.selection c.chain.new.list c.chain.new.last whole before c.requires.fits
    (rw (c.as_slice.ensures, c.deref_mut.ensures.value) at c.chain.ensures.chained))
