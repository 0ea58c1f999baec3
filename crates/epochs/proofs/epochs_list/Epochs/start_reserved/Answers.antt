use Rattle.std.proofs.Common.{length, ap, ◌≡◌, ◌+◌, subst, sym, arith}
use Rattle.std.specs.Option.{option_to_list}
use Rattle.std.specs.Vec.{vec_len}
use Rattle.epochs.specs.Chains.{HasRoom}
use Rattle.epochs.specs.EpochsList.{AreRising}
use Rattle.epochs.proofs.EpochsLemmas.{rising_more}
use Rattle.epochs.proofs.epochs_list.Epochs.start_reserved.Goals as goal

pub invariant_of-self : goal.invariant_of-self
invariant_of-self c =
    let e = c.self.inside in
    let one : length (option_to_list c.pop.result) ≡ 1 = ap (λ item. length (option_to_list item)) c.unwrap-list.ensures in
    let left : vec_len e.spare ≡ vec_len c.pop.new.self + 1 = omega (arith, one, c.pop.ensures.len) in (
      c.add-self-inside.ensures.room (vec_len c.pop.new.self) (subst (HasRoom e.chains) left c.self.invariant.0),
      subst (AreRising e.settled (e.newest + 1)) (sym c.add-self-inside.ensures.starts)
          (rising_more e.settled e.newest e.chains.starts.items c.args.selection c.self.invariant.1),
      c.add-self-inside.ensures.whole,
      c.add-self-inside.ensures.within,
    )
