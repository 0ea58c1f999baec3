use Rattle.std.proofs.Common.{◌≡◌, ◌+◌, ◌++◌, ◌∷◌, [], ap, ◌∙◌, subst, sym, arith}
use Rattle.std.specs.Vec.{vec_len}
use Rattle.epochs.specs.Chains.{HasRoom}
use Rattle.epochs.specs.EpochsList.{AreRising, next_start}
use Rattle.epochs.proofs.EpochsLemmas.{rising_more}
use Rattle.epochs.proofs.epochs_list.Epochs.start.Goals as goal

pub invariant_of-self : goal.invariant_of-self
invariant_of-self c =
    let e = c.self.inside in (
      c.reserve.ensures.kept (vec_len e.spare) c.self.invariant.0,
      rw (c.reserve.ensures.starts) c.self.invariant.1,
      rw (c.reserve.ensures.starts, c.reserve.ensures.links, c.reserve.ensures.last) c.self.invariant.2,
      c.self.invariant.3,
    )

pub invariant_of-self-2 : goal.invariant_of-self-2
invariant_of-self-2 c =
    let e = c.self.inside in
    let places : c.len-2.result + 1 ≡ vec_len e.spare + 1 = omega (arith, c.len-2.ensures) in (
      c.add-self-inside.ensures.room (vec_len e.spare) (subst (HasRoom c.reserve.new.self) places c.in_ok-reserve.ensures.room),
      subst (AreRising e.settled (e.newest + 1)) (sym (c.add-self-inside.ensures.starts ∙ ap (λ starts. starts ++ next_start e.newest c.args.selection ∷ []) c.in_ok-reserve.ensures.starts))
          (rising_more e.settled e.newest e.chains.starts.items c.args.selection c.self.invariant.1),
      c.add-self-inside.ensures.whole,
      c.add-self-inside.ensures.within,
    )
