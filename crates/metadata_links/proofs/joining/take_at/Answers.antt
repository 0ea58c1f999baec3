use Rattle.std.proofs.Common.{sym, ◌∙◌, ap}
use Rattle.metadata_links.specs.Filled.{with_member}
use Rattle.metadata_links.proofs.Members.{with_is_set, with_itself}
use Rattle.metadata_links.proofs.joining.take_at.Goals as goal

pub returns : goal.returns
returns c =
    let ms = c.args.members.now.items in
    let m = c.index_mut.result.now in (
      with_itself ms c.args.i m c.requires c.index_mut.ensures.value ∙ ap (with_member ms c.args.i) (sym c.replace.ensures.value),
      with_is_set ms c.args.i m c.replace.new.dest c.requires c.index_mut.ensures.value ∙ ap (with_member ms c.args.i) c.replace.ensures.after,
    )
