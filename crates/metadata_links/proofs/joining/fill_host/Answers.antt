use Rattle.metadata_links.proofs.Items.{host_is_filled}
use Rattle.metadata_links.proofs.joining.fill_host.Goals as goal

pub returns : goal.returns
returns c = host_is_filled _ _ _ _ _ c.follow-host.ensures c.fill_level_at.ensures
