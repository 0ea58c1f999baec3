use Rattle.delivery_law.proofs.RefreshLaw.{early_told, recent_told}
use Rattle.delivery_law.proofs.refreshes.a_refresh_is_due_where_no_fresh_metadata_is_installed.Goals as goal

pub returns-clause-early : goal.returns-clause-early
returns-clause-early c = early_told

pub returns-clause-fresh : goal.returns-clause-fresh
returns-clause-fresh c = recent_told
