use Rattle.doors.proofs.MemoryDoorLemmas.{shorter}
use Rattle.doors.proofs.memory_door.turned.Goals as goal

pub items-smaller : goal.items-smaller
items-smaller g c = shorter c.items.left c.pop.new.self c.in-Some.item c.in-Some.ensures
