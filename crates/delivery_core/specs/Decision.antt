-- What is decided of a request.
use Rattle.std.specs.Prelude.{◌≡◌, ℕ, List, None, Some, if◌then◌else◌}
use Rattle.std.specs.declared.option.Option.{Option}
use Rattle.cdni_base.specs.declared.asked.Asked.{Asked}
use Rattle.location_acl.specs.declared.footprint.Place.{Place}
use Rattle.metadata_objects.specs.LevelData.{Index}
use Rattle.metadata_objects.specs.declared.generic.Generic.{Generic}
use Rattle.targets.specs.declared.endpoint.Endpoint.{Endpoint}
use Rattle.targets.specs.declared.target.Target.{Target}
use Rattle.verdict.specs.Plan.{plan_of}
use Rattle.history.specs.Metadata.{forbidden, is_skipped_by, objects_of, objects_in, rule_in}
use Rattle.delivery_core.specs.Installed.{Seen, index_in, invalid_in}
use Rattle.delivery_core.specs.declared.decision.Judged.{Judged}
use Rattle.delivery_core.specs.declared.decision.Judged.TheVariants.{Allowed, Forbidden}

-- forbidden by the first rule that does, or allowed by the effective metadata
abbrev pub IsJudged : Option Seen → Asked → Place → ℕ → Judged → Type 0
IsJudged seen asked place moment (Allowed objects) =
    (forbidden (index_in seen) (invalid_in seen) asked place moment ≡ None)
    × (objects_of (index_in seen) asked.target ≡ objects)
IsJudged seen asked place moment (Forbidden rule) =
    forbidden (index_in seen) (invalid_in seen) asked place moment ≡ Some rule

-- the same of what is installed, the method apart
abbrev pub IsJudgedBy : Index → Option ℕ → Asked → Place → ℕ → Judged → Type 0
IsJudgedBy index invalid asked place moment (Allowed objects) =
    (rule_in index invalid asked place moment ≡ None) × (objects_in index asked.target ≡ Some objects)
IsJudgedBy index invalid asked place moment (Forbidden rule) = rule_in index invalid asked place moment ≡ Some rule

-- ---- of a URL that a trigger would fetch

-- its effective metadata, where no trigger has made this metadata invalid and a HostMatch matches
abbrev pub effective_in : Index → Option ℕ → Target → Option (List Generic)
effective_in index (Some trigger) url = None
effective_in index None url = objects_in index url

-- its effective metadata, where valid metadata is installed and a HostMatch matches
abbrev pub effective_at : Option Seen → Target → Option (List Generic)
effective_at None url = None
effective_at (Some seen) url = effective_in seen.tree.index seen.invalid url

-- where its content can be had by this effective metadata, unless it is skipped
abbrev pub unskipped_plan : List Generic → Option (List Endpoint)
unskipped_plan objects = if is_skipped_by (Some objects) then None else Some (plan_of objects)

abbrev pub unskipped_plan_by : Option (List Generic) → Option (List Endpoint)
unskipped_plan_by None = None
unskipped_plan_by (Some objects) = unskipped_plan objects
