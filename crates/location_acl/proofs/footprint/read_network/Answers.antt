use Rattle.location_acl.proofs.FootprintLemmas.{networks_read}
use Rattle.location_acl.proofs.footprint.read_network.Goals as goal

pub returns-clause-grammar : goal.returns-clause-grammar
returns-clause-grammar c = networks_read c.args.text.now c.known_asn.result c.known_asn.ensures
