-- The paths of what stands at the control host.
use Rattle.std.specs.Prelude.{ℕ, ◌<◌, ◌^◌, List, ◌++◌, codes, decimal}
use Rattle.control_table.specs.declared.path.ControlPath.{ControlPath}
use Rattle.control_table.specs.declared.path.ControlPath.TheVariants as place
use Rattle.trigger_status.specs.declared.job.Filter.{Filter}
use Rattle.trigger_status.specs.declared.job.Filter.TheVariants as filter

-- the path of a collection of triggers
abbrev pub filter_path : Filter → List ℕ
filter_path filter.All = codes "/triggers"
filter_path filter.Pending = codes "/triggers/pending"
filter_path filter.Active = codes "/triggers/active"
filter_path filter.Complete = codes "/triggers/complete"
filter_path filter.Failed = codes "/triggers/failed"

-- the path of each; a number is decimal, without leading zeros
abbrev pub path_text : ControlPath → List ℕ
path_text (place.Triggers filter) = filter_path filter
path_text (place.Trigger id) = codes "/triggers/" ++ decimal id
path_text place.Advertisement = codes "/fci"
path_text place.Logs = codes "/logs"
path_text (place.Log number) = codes "/logs/" ++ decimal number

-- its number is one of 64 bits
abbrev pub Fits : ControlPath → Type 0
Fits (place.Triggers filter) = Unit {0}
Fits (place.Trigger id) = id < 2 ^ 64
Fits place.Advertisement = Unit {0}
Fits place.Logs = Unit {0}
Fits (place.Log number) = number < 2 ^ 64
