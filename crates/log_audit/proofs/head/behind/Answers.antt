use Rattle.log_audit.proofs.HeadLemmas.{bad_empty, bad_here, fixed_goes_on}
use Rattle.log_audit.proofs.head.behind.Goals as goal

pub returns-in_default : goal.returns-in_default
returns-in_default c n = bad_empty n c.args.place.now c.args.text.now c.in_default.ensures (fixed_goes_on c.args.place.now c.requires)

pub returns-else-stands : goal.returns-else-stands
returns-else-stands c n = bad_here n c.args.place.now c.args.text.now c.in-Some.line.now c.in-Some.rest.now c.in-Some.ensures.0 c.if-stands.ensures
