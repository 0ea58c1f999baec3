-- Lists of statuses and of numbers, as JSON without spaces (RFC 8259).
use Rattle.std.specs.Prelude.{ℕ, List, codes}
use Rattle.serde_json.specs.Data.{Data, array, member, no_members, number, object, string, unsigned}
use Rattle.serde_json.specs.Written.{compact_text}
use Rattle.trigger_status.specs.Items.{each_as}
use Rattle.trigger_status.specs.Job.{status_name}
use Rattle.trigger_status.specs.declared.job.JobStatus.{JobStatus}

abbrev pub number_data : ℕ → Data
number_data n = number (unsigned n)

abbrev pub status_data : JobStatus → Data
status_data status = string (status_name status)

-- the numbers of log files
unfoldable pub numbers_text : List ℕ → List ℕ
numbers_text numbers = compact_text (object (member (codes "logs") (array (each_as number_data numbers)) no_members))

-- the statuses of triggers, in the order in which a cancel names them
unfoldable pub statuses_text : List JobStatus → List ℕ
statuses_text list = compact_text (object (member (codes "statuses") (array (each_as status_data list)) no_members))
