use Rattle.location_acl.proofs.FootprintLemmas.{values_read}
use Rattle.location_acl.proofs.footprint.Footprint.read_as.Goals as goal

pub returns-clause-grammar : goal.returns-clause-grammar
returns-clause-grammar c = values_read c.args.kind c.args.value.now c.read_value.result c.read_value.ensures
