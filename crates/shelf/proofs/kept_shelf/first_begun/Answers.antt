use Rattle.shelf.proofs.BegunLemmas.{first_least, none_least}
use Rattle.shelf.proofs.kept_shelf.first_begun.Goals as goal

pub returns-in-Some : goal.returns-in-Some
returns-in-Some c = first_least 0 c.args.newest c.in-Some.first.now c.args.flights.now.items c.requires c.in-Some.ensures

pub returns-in-None : goal.returns-in-None
returns-in-None c = none_least c.args.newest c.args.flights.now.items c.in-None.ensures
