use Rattle.std.proofs.Common.{sym}
use Rattle.location_acl.proofs.PartLemmas.{parts_are}
use Rattle.location_acl.proofs.LineLemmas.{line_fits, first_shorter}
use Rattle.location_acl.proofs.table.first_line.Goals as goal

pub returns-clause-shorter : goal.returns-clause-shorter
returns-clause-shorter c = first_shorter c.args.bytes.now c.in_ok-text.text.now c.in_ok-text.after.now (parts_are 10 c.args.bytes.now c.in_ok-text.text.now c.in_ok-text.after.now (sym c.in_ok-text.ensures))

pub returns-clause-fits : goal.returns-clause-fits
returns-clause-fits c = line_fits c.in_ok-text.text.now c.in_ok-line.line (sym c.in_ok-line.ensures)
