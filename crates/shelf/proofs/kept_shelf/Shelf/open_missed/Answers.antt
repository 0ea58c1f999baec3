use Rattle.shelf.proofs.TriedLemmas.{part_both}
use Rattle.shelf.proofs.kept_shelf.Shelf.open_missed.Goals as goal

pub returns-clause-held : goal.returns-clause-held
returns-clause-held c =
    part_both c.args.self.now.held c.open_without.new.self.held c.sweep_some.new.self.held c.in_ok-fetch.ensures.held c.sweep_some.ensures.held
