use Rattle.command_law.proofs.Again.{shown_again}
use Rattle.command_law.proofs.Shown.{shows_trigger}
use Rattle.command_law.proofs.status.what_a_status_resource_shows_reads_as_the_same_trigger.Goals as goal

pub returns-clause-shown : goal.returns-clause-shown
returns-clause-shown c = shows_trigger

pub returns-clause-read : goal.returns-clause-read
returns-clause-read c = shown_again
