use Rattle.std.proofs.Common.{arith}
use Rattle.http_wire.proofs.InboxLemmas.{filled, some_filled}
use Rattle.http_wire.proofs.inbox.Inbox.fill.Goals as goal

pub returns-in-Some-read_at-clause-bytes : goal.returns-in-Some-read_at-clause-bytes
returns-in-Some-read_at-clause-bytes g c =
    let read = c.in-Some-read_at.ensures in (
      _,
      read.bytes,
      filled _ c.self.inside.bytes.items c.make_room.new.bytes.items c.read_at.new.bytes.items c.self.inside.from c.self.inside.to c.in-Some.from c.in-Some.to c.in-Some-read_at.count c.self.view_is c.in-Some.ensures.room read.front,
      some_filled c.make_room.new.bytes.items c.read_at.new.bytes.items c.in-Some.to c.in-Some-read_at.count (omega (arith, read.len, c.make_room.new.bytes.ok.0, c.read_at.new.bytes.ok.0)) (omega (arith, read.count.0), omega (arith, read.count.1, c.make_room.new.bytes.ok.0)),
    )
