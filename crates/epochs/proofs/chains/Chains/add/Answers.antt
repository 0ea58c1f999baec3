use Rattle.epochs.proofs.chains.Chains.add.Goals as goal

pub returns-then-len-capacity-clause-whole : goal.returns-then-len-capacity-clause-whole
returns-then-len-capacity-clause-whole c = c.add_unchained.ensures.whole c.args.unchained c.requires.whole

pub returns-clause-whole : goal.returns-clause-whole
returns-clause-whole c = c.add_chained.ensures.whole c.args.unchained c.requires.before c.requires.whole
