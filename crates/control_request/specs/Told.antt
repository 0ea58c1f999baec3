-- That a new trigger has been answered (RFC 8007, section 4.1).
use Rattle.std.specs.Prelude.{ℕ, Bool, List}
use Rattle.std.specs.declared.option.Option.{Option}
use Rattle.edge_base.specs.Write.{HasCause}
use Rattle.session_base.specs.Answer.{Says}
use Rattle.session_base.specs.declared.manner.Manner.{Manner}
use Rattle.session_base.specs.declared.send.Sent.{Sent}
use Rattle.session_base.specs.declared.settings.Settings.{Settings}
use Rattle.trigger_command.specs.Spec.{SpecParts}
use Rattle.control_request.specs.Control.{IsCreated}

-- Behind what a sink held before, as far as it tells that, it now holds the answer to the creation of this trigger: the whole of
-- it, or what it took of it before its count of faults rose.
pub record IsToldOf (settings : Settings) (manner : Manner) (id : ℕ) (held : Option (List ℕ)) (faults : ℕ) : Type 0 where
  pub spec : SpecParts
  pub short : Bool
  pub before : Option (List ℕ)
  pub earlier : ℕ
  pub sent : Sent
  pub says : Says (IsCreated settings manner id spec short) before held sent
  pub cause : HasCause earlier faults sent.fault
