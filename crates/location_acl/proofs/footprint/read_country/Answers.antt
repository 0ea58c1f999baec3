use Rattle.location_acl.proofs.FootprintLemmas.{countries_read}
use Rattle.location_acl.proofs.footprint.read_country.Goals as goal

pub returns-clause-grammar : goal.returns-clause-grammar
returns-clause-grammar c = countries_read c.args.text.now c.known_country.result c.known_country.ensures
