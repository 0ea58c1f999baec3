use Rattle.delivery_law.proofs.RefreshLaw.{later_is, latest_is}
use Rattle.delivery_law.proofs.refreshes.the_latest_refresh_is_installed.Goals as goal

pub returns-clause-latest : goal.returns-clause-latest
returns-clause-latest c = latest_is

pub returns-clause-older : goal.returns-clause-older
returns-clause-older c = later_is
