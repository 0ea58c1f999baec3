use Rattle.location_acl.proofs.FootprintLemmas.{types_read}
use Rattle.location_acl.proofs.footprint.FootprintType.read.Goals as goal

pub returns-clause-named : goal.returns-clause-named
returns-clause-named c = types_read c.args.name.now c.read_type.result c.read_type.ensures
