-- What a decision says of what is kept.
use Rattle.std.proofs.Common.{◌≡◌, List, None, Some, refl, ap}
use Rattle.std.specs.Option.{is_some}
use Rattle.std.specs.declared.option.Option.{Option}
use Rattle.cdni_base.specs.declared.rule.Rule.{Rule}
use Rattle.history.specs.Kept.{kept_of}
use Rattle.history.specs.Metadata.{key_by, objects_of}
use Rattle.history.specs.World.{Kept}
use Rattle.metadata_objects.specs.LevelData.{Index}
use Rattle.metadata_objects.specs.declared.generic.Generic.{Generic}
use Rattle.targets.specs.declared.target.Target.{Target}
use Rattle.delivery_core.specs.Edge.{IsOfKept, allowed_by, decided}

allowed_of : (kept : List Kept) (objects : List Generic) (target : Target) (found : Option Kept) → kept_of (key_by objects target) kept ≡ found
    → IsOfKept kept (allowed_by objects target found)
allowed_of kept objects target None is = is
allowed_of kept objects target (Some one) is = ap (λ (k : Option Kept). is_some k) is

pub decided_of : (index : Option Index) (kept : List Kept) (target : Target) (rule : Option Rule) → IsOfKept kept (decided index kept target rule)
decided_of index kept target (Some rule) = tt
decided_of index kept target None = let objects = objects_of index target in allowed_of kept objects target (kept_of (key_by objects target) kept) refl
