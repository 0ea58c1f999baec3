use Rattle.std.proofs.Common.{◌≡◌, ◌↔◌, Bool, false, IsTrue, subst, sym, ap, ◌∙◌}
use Rattle.epochs.specs.EpochsList.{EpochsView, IsStale, is_stale}
use Rattle.epochs.proofs.EpochsLemmas.{none_later, stale_decides}
use Rattle.epochs.proofs.epochs_list.Epochs.is_stale.Goals as goal

pub returns-then-begun-self-clause-value : goal.returns-then-begun-self-clause-value
returns-then-begun-self-clause-value c = let e = c.self.inside in
    rw (← c.self.view_is) (sym (none_later e.settled e.newest c.args.begun e.chains.starts.items c.args.key.now _ c.if-begun-self.true c.self.invariant.1))

pub returns-then-begun-self-clause-relation : goal.returns-then-begun-self-clause-relation
returns-then-begun-self-clause-relation c = let e = c.self.inside in
    rw (← c.self.view_is) (
      λ is. (stale_decides e.chains.starts.items c.args.begun c.args.key.now _).0
          (none_later e.settled e.newest c.args.begun e.chains.starts.items c.args.key.now _ c.if-begun-self.true c.self.invariant.1 ∙ is),
      λ is. sym (none_later e.settled e.newest c.args.begun e.chains.starts.items c.args.key.now _ c.if-begun-self.true c.self.invariant.1)
          ∙ (stale_decides e.chains.starts.items c.args.begun c.args.key.now _).1 is,
    )

pub returns-clause-relation : goal.returns-clause-relation
returns-clause-relation c = let e = c.self.inside in
    rw (← c.self.view_is, c.is_hit_since.ensures) (stale_decides e.chains.starts.items c.args.begun c.args.key.now _)
