use Rattle.trigger_law.proofs.AccountLaw.{accounts}
use Rattle.trigger_law.proofs.accounts.a_trigger_stands_where_its_calls_left_it.Goals as goal

pub returns : goal.returns
returns c = accounts
