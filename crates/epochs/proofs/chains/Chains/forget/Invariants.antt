use Rattle.std.proofs.Common.{◌≡◌}
use Rattle.std.specs.VecDeque.{deque_len, deque_capacity}
use Rattle.epochs.specs.EpochsList.{behind_front}
use Rattle.epochs.proofs.ChainLemmas.{IsCut}
use Rattle.epochs.proofs.chains.Chains.forget.Given as goal

abbrev pub invariant-starts : goal.invariant-starts
invariant-starts l = record {
  starts : behind_front l.oldest l.self.starts.items ≡ behind_front l.oldest l.initial.self.starts.items;
  cut : IsCut l.initial.self l.self;
  last : l.self.last ≡ l.initial.self.last;
  room : deque_capacity l.self.starts ≡ deque_capacity l.initial.self.starts;
  link_room : deque_capacity l.self.links ≡ deque_capacity l.initial.self.links;
}

abbrev pub decreases-starts : goal.decreases-starts
decreases-starts l = deque_len l.self.starts
