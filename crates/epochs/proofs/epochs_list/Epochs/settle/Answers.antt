use Rattle.std.proofs.Common.{◌≤◌, subst, sym, refl}
use Rattle.std.specs.Vec.{vec_len}
use Rattle.epochs.specs.EpochsList.{EpochsView}
use Rattle.epochs.proofs.EpochsLemmas.{behind_is_past, past_agrees, rising_past}
use Rattle.epochs.proofs.epochs_list.Epochs.settle.Goals as goal

pub invariant_of-self : goal.invariant_of-self
invariant_of-self c = let e = c.self.inside in
    let within : c.args.oldest ≤ e.newest = subst (λ (v : EpochsView). c.args.oldest ≤ v.known.newest) (sym c.self.view_is) c.requires in (
      c.forget.ensures.room (vec_len e.spare) c.self.invariant.0,
      rw (c.forget.ensures.starts, c.max-self-inside.ensures) (rising_past c.args.oldest e.settled e.newest e.chains.starts.items within c.self.invariant.1),
      c.forget.ensures.whole e.newest e.unchained c.self.invariant.2,
      c.self.invariant.3,
    )

pub returns-clause-known : goal.returns-clause-known
returns-clause-known c = let e = c.self.inside in
    rw (← c.self.view_is, c.max-self-inside.ensures, c.forget.ensures.starts, behind_is_past c.args.oldest e.settled e.newest e.chains.starts.items c.self.invariant.1) refl

pub returns-clause-agrees : goal.returns-clause-agrees
returns-clause-agrees c begun key ccid before = let e = c.self.inside in
    rw (← c.self.view_is, c.forget.ensures.starts, behind_is_past c.args.oldest e.settled e.newest e.chains.starts.items c.self.invariant.1)
    (past_agrees c.args.oldest begun e.chains.starts.items key ccid before)
