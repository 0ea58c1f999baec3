use Rattle.delivery_law.proofs.RefreshLaw.{installed_is, older_is, stale_is}
use Rattle.delivery_law.proofs.refreshes.metadata_is_stale_where_a_start_has_hit_it.Goals as goal

pub returns-clause-stale : goal.returns-clause-stale
returns-clause-stale c = stale_is

pub returns-clause-installed : goal.returns-clause-installed
returns-clause-installed c = installed_is

pub returns-clause-older : goal.returns-clause-older
returns-clause-older c = older_is
