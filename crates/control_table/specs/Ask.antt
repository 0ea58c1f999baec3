-- Which method asks for what at which path.
use Rattle.std.specs.Prelude.{◌≡◌, ◌⊎◌, ℕ, List, codes, bytes_eq, if◌then◌else◌}
use Rattle.control_table.specs.Path.{Fits, path_text}
use Rattle.control_table.specs.declared.ask.ControlAsk.{ControlAsk}
use Rattle.control_table.specs.declared.ask.ControlAsk.TheVariants as ask
use Rattle.control_table.specs.declared.path.ControlPath.{ControlPath}
use Rattle.control_table.specs.declared.path.ControlPath.TheVariants as place
use Rattle.trigger_status.specs.declared.job.Filter.TheVariants as filter

-- only GET asks for something
abbrev pub ask_of_get : List ℕ → ControlAsk → ControlAsk
ask_of_get method asked = if bytes_eq method (codes "GET") then asked else ask.WrongMethod

-- this method asks for the first, and GET for the second
abbrev pub ask_by : List ℕ → List ℕ → ControlAsk → ControlAsk → ControlAsk
ask_by method other first second = if bytes_eq method other then first else ask_of_get method second

-- what a method asks for at a path
abbrev pub ask_at : ControlPath → List ℕ → ControlAsk
ask_at (place.Triggers filter.All) method = ask_by method (codes "POST") ask.Command (ask.List filter.All)
ask_at (place.Triggers filter.Pending) method = ask_of_get method (ask.List filter.Pending)
ask_at (place.Triggers filter.Active) method = ask_of_get method (ask.List filter.Active)
ask_at (place.Triggers filter.Complete) method = ask_of_get method (ask.List filter.Complete)
ask_at (place.Triggers filter.Failed) method = ask_of_get method (ask.List filter.Failed)
ask_at (place.Trigger id) method = ask_by method (codes "DELETE") (ask.Delete id) (ask.Status id)
ask_at place.Advertisement method = ask_of_get method ask.Advertise
ask_at place.Logs method = ask_by method (codes "POST") ask.Cut ask.ListLogs
ask_at (place.Log number) method = ask_by method (codes "DELETE") (ask.DropLog number) (ask.ReadLog number)

-- nothing stands at this path
abbrev pub IsNoPath : List ℕ → Type 0
IsNoPath path = (place : ControlPath) → Fits place → path ≡ path_text place → ⊥

-- the request asks for this: by the table of what stands at its path, or nothing stands there
abbrev pub IsAskedAt : List ℕ → List ℕ → ControlAsk → Type 0
IsAskedAt method path asked = ((place : ControlPath) × Fits place × (path ≡ path_text place) × (asked ≡ ask_at place method))
    ⊎ (IsNoPath path × (asked ≡ ask.Absent))
