use Rattle.http_wire.proofs.ReadingLemmas.{tries_some}
use Rattle.http_wire.proofs.reading.try_some.Goals as goal

pub returns : goal.returns
returns g c = tries_some g.H.HeadForm.spells g.H.HeadForm.has_none g.H.HeadForm.is_open g.H.HeadForm.is_over c.args.bytes.now c.try_read.result c.try_read.ensures
