-- Trigger specifications.
use Rattle.trigger_command.specs.declared.selection.Selection.{Selection}
use Rattle.trigger_command.specs.declared.spec.TriggerKind.{TriggerKind}

-- a trigger specification (RFC 8007, section 5.2.1)
pub record SpecParts : Type 0 where
  pub kind : TriggerKind
  pub selection : Selection
