use Rattle.std.proofs.Common.{◌≡◌, ◌≤◌, [], drop, length}
use Rattle.std.specs.Vec.{vec_len, vec_capacity}
use Rattle.epochs.specs.Chains.{chained}
use Rattle.epochs.specs.declared.chains.TheConstants.{BUCKETS}
use Rattle.epochs.proofs.chains.chain.Given as goal

abbrev pub invariant-urls : goal.invariant-urls
invariant-urls l = record {
  chained : chained l.epoch l.item (drop l.item l.urls) l.last l.list.items ≡ chained l.epoch 0 l.urls l.initial.last [];
  buckets : length l.last ≡ BUCKETS;
  count : vec_len l.list ≡ l.item;
  room : length l.urls ≤ vec_capacity l.list;
}
