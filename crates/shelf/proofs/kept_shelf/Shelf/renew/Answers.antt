use Rattle.shelf.proofs.TriedLemmas.{part_both}
use Rattle.shelf.proofs.kept_shelf.Shelf.renew.Goals as goal

pub returns-clause-held : goal.returns-clause-held
returns-clause-held c =
    part_both c.args.self.now.held c.renew_one.new.self.held c.sweep_some.new.self.held c.in_ok-renew_one.ensures.held c.sweep_some.ensures.held
