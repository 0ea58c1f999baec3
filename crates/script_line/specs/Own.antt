-- The node of a script, as trigger commands and their answers know it.
use Rattle.std.specs.Prelude.{ℕ, List, codes}
use Rattle.cdni_base.specs.declared.provider.ProviderId.{ProviderId}

-- its id (RFC 8007, section 4.6)
abbrev pub own_id : ProviderId
own_id = record { 0 = codes "AS64496:0" }

-- the host at which its triggers have their status resources
abbrev pub control_host : List ℕ
control_host = codes "control.example"
