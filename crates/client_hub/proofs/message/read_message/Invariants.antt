use Rattle.std.proofs.Common.{◌≤◌, length}
use Rattle.client_hub.specs.Message.{Follows}
use Rattle.client_hub.proofs.message.read_message.Given as goal

abbrev pub invariant-reads : goal.invariant-reads
invariant-reads l = record {
  read : Follows l.fn.got.items l.got.items;
  within : length l.fn.got.items ≤ l.whole → length l.got.items ≤ l.whole;
}
