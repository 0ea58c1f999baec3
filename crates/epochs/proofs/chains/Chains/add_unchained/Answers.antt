use Rattle.epochs.proofs.ChainLemmas.{chained_none}
use Rattle.epochs.proofs.chains.Chains.add_unchained.Goals as goal

pub returns-clause-whole : goal.returns-clause-whole
returns-clause-whole c unchained whole = rw (c.push_back_reserved.ensures.items, c.push_back_reserved-2.ensures.items)
    (chained_none c.args.self.now.starts.items c.args.self.now.links.items c.args.self.now.last.items c.args.newest unchained c.args.selection c.args.list whole c.requires.fits)
