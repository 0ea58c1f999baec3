use Rattle.std.proofs.Common.{map, subst, sym}
use Rattle.object_cache.specs.ObjectTable as objects
use Rattle.shelf.proofs.kept_shelf.sweep_portion.Goals as goal
use Rattle.shelf.specs.KeptShelf.{AreUpToEpoch, IsPartOf, kept_object}

pub returns-clause-held : goal.returns-clause-held
returns-clause-held c =
    subst (λ (v : objects.Kept). IsPartOf (map kept_object c.try_some.new.table.objects) (map kept_object v.objects)) c.walk_if.ensures.table c.try_some.ensures.held

pub returns-clause-up_to : goal.returns-clause-up_to
returns-clause-up_to c top up =
    c.try_some.ensures.up_to top (subst (λ (v : objects.Kept). AreUpToEpoch top v.objects) (sym c.walk_if.ensures.table) up)
