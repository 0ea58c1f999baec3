use Rattle.std.proofs.Common.{◌≡◌, take}
use Rattle.footprints.specs.Logging.{optional_names}
use Rattle.footprints.proofs.logging.optional_names.Given as goal

abbrev pub invariant-fields : goal.invariant-fields
invariant-fields l = l.names ≡ optional_names (take l.field-index l.fields)
