-- Trigger commands that are passed on (RFC 8007, section 5.1.1).
use Rattle.std.specs.Prelude.{ℕ, List, codes}
use Rattle.cdni_base.specs.declared.provider.ProviderId.{ProviderId}
use Rattle.serde_json.specs.Data.{Data, string, array, object, no_members, member}
use Rattle.serde_json.specs.Written.{compact_text}
use Rattle.trigger_command.specs.Spec.{SpecParts}
use Rattle.trigger_status.specs.Items.{each_as}
use Rattle.trigger_status.specs.Job.{trigger_data}

abbrev pub id_data : ProviderId → Data
id_data id = string id.0

-- a command that came through these CDNs, whose trigger is the one that a status resource shows (section 5.1.2)
abbrev pub command_data : List ProviderId → SpecParts → Data
command_data path spec = object (member (codes "cdn-path") (array (each_as id_data path))
    (member (codes "trigger") (trigger_data spec) no_members))

-- its text, without spaces
abbrev pub command_text : List ProviderId → SpecParts → List ℕ
command_text path spec = compact_text (command_data path spec)
