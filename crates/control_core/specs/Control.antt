-- The triggers that are not deleted, and the log files that are kept.
use Rattle.std.specs.Prelude.{ℕ, ◌+◌, Bool, ◌==◌, List, [], ◌∷◌, ◌++◌, length, None, Some, if◌then◌else◌}
use Rattle.std.specs.List.{find}
use Rattle.std.specs.Option.{option_map}
use Rattle.std.specs.declared.option.Option.{Option}
use Rattle.cdni_base.specs.Limits.{Bounds}
use Rattle.cdni_log.specs.File.{file_text}
use Rattle.cdni_log.specs.declared.row.FileHead.{FileHead}
use Rattle.cdni_log.specs.declared.row.Row.{Row}
use Rattle.history.specs.World.{Trigger}
use Rattle.trigger_table.specs.Triggers.{TriggersView}
use Rattle.control_core.specs.declared.control.LogFile.{LogFile}

-- the triggers; the kept files, in order, how many are kept at most, and how many there ever were
pub record ControlView : Type 0 where
  pub triggers : TriggersView
  pub files : List LogFile
  pub most : ℕ
  pub filed : ℕ

abbrev pub empty : Bounds → ControlView
empty limits = record { triggers = record { triggers = []; most = limits.triggers; created = 0 }; files = []; most = limits.files; filed = 0 }

abbrev pub has_number : ℕ → LogFile → Bool
has_number number file = file.number == number

-- the text of the file of this number
abbrev pub text_at : ℕ → List LogFile → Option (List ℕ)
text_at number files = option_map (λ file. file.text) (find (has_number number) files)

abbrev pub with_table : ControlView → TriggersView → ControlView
with_table v table = record v { triggers = table }

abbrev pub with_triggers : ControlView → List Trigger → ControlView
with_triggers v triggers = with_table v (record v.triggers { triggers = triggers })

-- ---- a file more

abbrev pub file_reply : ControlView → Option ℕ
file_reply v = if length v.files == v.most then None else Some (v.filed + 1)

abbrev pub with_file : ControlView → FileHead → List Row → ControlView
with_file v head rows = record v {
  files = v.files ++ record { number = head.number; text = file_text head rows } ∷ [];
  filed = head.number;
}

abbrev pub file_after : ControlView → FileHead → List Row → ControlView
file_after v head rows = if length v.files == v.most then v else with_file v head rows
