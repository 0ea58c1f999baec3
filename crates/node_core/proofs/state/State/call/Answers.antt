use Rattle.std.proofs.Common.{ap}
use Rattle.node_core.specs.State.{StateHolding}
use Rattle.shelf.proofs.HeldLemmas.{part_or_same}
use Rattle.node_core.proofs.PurgedLemmas.{part_or_eq}
use Rattle.node_core.proofs.state.State.call.Goals as goal

pub returns-in-RefreshBegin-clause-held : goal.returns-in-RefreshBegin-clause-held
returns-in-RefreshBegin-clause-held c = part_or_eq _ _ _ c.refresh_begin.ensures.held

pub returns-in-Cut-clause-held : goal.returns-in-Cut-clause-held
returns-in-Cut-clause-held c = part_or_eq _ _ _ c.cut.ensures.held

pub returns-in-DropLog-clause-held : goal.returns-in-DropLog-clause-held
returns-in-DropLog-clause-held c = part_or_eq _ _ _ c.drop_log.ensures.held

pub returns-in-Cancel-clause-held : goal.returns-in-Cancel-clause-held
returns-in-Cancel-clause-held c = part_or_eq _ _ _ c.cancel.ensures.held

pub returns-in-Delete-clause-held : goal.returns-in-Delete-clause-held
returns-in-Delete-clause-held c = part_or_eq _ _ _ c.delete.ensures.held

pub returns-in_ok-clone-in-Command-clause-held : goal.returns-in_ok-clone-in-Command-clause-held
returns-in_ok-clone-in-Command-clause-held c = part_or_eq _ _ _ c.command.ensures.held

pub returns-in-LogFile-clause-held : goal.returns-in-LogFile-clause-held
returns-in-LogFile-clause-held c = part_or_eq _ _ _ (ap (λ (v : StateHolding). v.held) c.log_file.ensures.same)

pub returns-in-ListLogs-clause-held : goal.returns-in-ListLogs-clause-held
returns-in-ListLogs-clause-held c = part_or_same _ _

pub returns-in-ReadStatus-clause-held : goal.returns-in-ReadStatus-clause-held
returns-in-ReadStatus-clause-held c = part_or_same _ _

pub returns-in-List-clause-held : goal.returns-in-List-clause-held
returns-in-List-clause-held c = part_or_same _ _

pub returns-in_err-clone-in-Admit-clause-held : goal.returns-in_err-clone-in-Admit-clause-held
returns-in_err-clone-in-Admit-clause-held c = part_or_same _ _

pub returns-in_err-clone-in-Command-clause-held : goal.returns-in_err-clone-in-Command-clause-held
returns-in_err-clone-in-Command-clause-held c = part_or_same _ _

pub returns-in_err-extra_of-in-Admit-clause-held : goal.returns-in_err-extra_of-in-Admit-clause-held
returns-in_err-extra_of-in-Admit-clause-held c = part_or_same _ _
