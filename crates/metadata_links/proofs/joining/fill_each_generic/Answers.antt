use Rattle.std.proofs.Common.{arith, ◌∙◌, codes, sym, ap}
use Rattle.std.proofs.lemmas.List.{set-set}
use Rattle.metadata_links.specs.Joined.{followed}
use Rattle.metadata_links.proofs.Items.{one_more, each_filled}
use Rattle.metadata_links.proofs.joining.fill_each_generic.Goals as goal

pub items-preserved : goal.items-preserved
items-preserved c =
    rw set-set (one_more followed c.args.generics.items _ c.items.i c.items.items.items _ c.items.invariant (omega (arith, c.items-test.true, c.len-i-end.ensures, c.args.generics.ok.0)) c.index_mut.result.now c.replace-generic.result c.follow.result _ (c.replace-generic.ensures.value ∙ c.index_mut.ensures.value) c.follow.ensures)

pub returns : goal.returns
returns c = each_filled followed c.args.generics.items _ c.items.i c.items.items.items _ c.items.invariant (omega (arith, c.items-test.false, c.len-i-end.ensures, c.args.generics.ok.0))
