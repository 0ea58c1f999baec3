use Rattle.rows.proofs.RowLemmas.{before_same}
use Rattle.rows.proofs.row.make_room.Goals as goal

pub returns-then-room-gt0-clause-passed : goal.returns-then-room-gt0-clause-passed
returns-then-room-gt0-clause-passed g c = before_same c.args.cells.now.cells c.args.walk.now
