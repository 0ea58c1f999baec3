use Rattle.std.proofs.Common.{◌∙◌}
use Rattle.metadata_objects.specs.LevelData.{index_view}
use Rattle.inheritance.proofs.HostLemmas.{found_among}
use Rattle.inheritance.proofs.chain.host_by.Goals as goal

pub returns : goal.returns
returns c =
    let h = rw (c.as_slice.ensures, c.places.ensures, c.requires c.args.target.now.host) at c.host_among.ensures in
    h ∙ found_among c.args.target.now (index_view c.args.index.now)
