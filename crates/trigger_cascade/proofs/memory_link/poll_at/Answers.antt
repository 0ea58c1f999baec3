use Rattle.std.proofs.Common.{sym}
use Rattle.trigger_cascade.proofs.MemoryLinkLemmas.{poll_is}
use Rattle.trigger_cascade.proofs.memory_link.poll_at.Goals as goal

pub returns-then-place-len : goal.returns-then-place-len
returns-then-place-len c = sym (poll_is c.args.polls.now c.args.place c.at.result.now c.at.ensures)
