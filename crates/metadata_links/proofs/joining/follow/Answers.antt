use Rattle.std.proofs.Common.{sym, ◌∙◌, ap}
use Rattle.metadata_links.specs.Filled.{seen, all_seen}
use Rattle.metadata_links.proofs.Items.{is_link, follows_next, follows_none, follows_value, empty}
use Rattle.metadata_links.proofs.joining.follow.Goals as goal

pub links-preserved : goal.links-preserved
links-preserved c = follows_next _ (seen c.links.value) _ c.links.invariant (seen c.in-Some.document) _ (is_link _ c.get.result _ c.get.ensures _ (sym c.is_some.ensures ∙ c.links-test.true)) (ap all_seen c.in-Some.ensures.items)

pub returns-in-None : goal.returns-in-None
returns-in-None c = follows_none _ (seen c.links.value) _ c.links.invariant _ (ap all_seen (empty _ (sym c.links.documents.rest.ok.0 ∙ c.in-None.ensures.cases.0))) (ap all_seen (sym c.in-None.ensures.items))

pub returns : goal.returns
returns c = follows_value _ (seen c.links.value) _ c.links.invariant (is_link _ c.get.result _ c.get.ensures _ (sym c.is_some.ensures ∙ c.links-test.false))
