use Rattle.history.proofs.Numbers.{installed_never_falls}
use Rattle.history.proofs.laws.the_installed_refresh_never_falls.Goals as goal

pub returns : goal.returns
returns c = installed_never_falls
