use Rattle.std.proofs.Common.{◌≡◌, false, subst}
use Rattle.epochs.specs.EpochsList.{EpochsView, is_stale}
use Rattle.epochs.proofs.EpochsLemmas.{none_after}
use Rattle.epochs.proofs.epochs_list.Epochs.newest.Goals as goal

pub returns-clause-none : goal.returns-clause-none
returns-clause-none c key ccid = subst (λ (v : EpochsView). is_stale v.known.starts c.self.inside.newest key ccid ≡ false) c.self.view_is
    (none_after c.self.inside.settled c.self.inside.newest c.self.inside.chains.starts.items key ccid c.self.invariant.1)
