use Rattle.metadata_links.proofs.Members.{with_is_set}
use Rattle.metadata_links.proofs.joining.put_at.Goals as goal

pub returns : goal.returns
returns c = with_is_set c.args.members.now.items c.args.i c.index_mut.result.now c.args.value c.requires c.index_mut.ensures.value
