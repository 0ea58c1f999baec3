use Rattle.http_wire.specs.declared.limits.TheConstants.{HEAD_MAX}
use Rattle.sockets.proofs.RoomLemmas.{held}
use Rattle.sockets.proofs.room.Room.hold.Goals as goal

pub returns : goal.returns
returns c =
    held HEAD_MAX c.min-count.result c.self.inside.bytes.len c.args.bytes.now c.put_front.new.buf c.deref_mut.result.now _ c.min-count.ensures c.self.invariant.2 c.put_front.ensures
