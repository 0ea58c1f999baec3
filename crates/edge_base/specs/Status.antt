-- Exit statuses.
use Rattle.std.specs.Prelude.{ℕ}
use Rattle.edge_base.specs.declared.status.Status.{Status}
use Rattle.edge_base.specs.declared.status.Status.TheVariants.{Done, Script, Usage, ReadFault, WriteFault, Memory, Outside}

abbrev pub number_of_status : Status → ℕ
number_of_status Done = 0
number_of_status Script = 1
number_of_status Usage = 2
number_of_status ReadFault = 3
number_of_status WriteFault = 4
number_of_status Memory = 5
number_of_status Outside = 6
