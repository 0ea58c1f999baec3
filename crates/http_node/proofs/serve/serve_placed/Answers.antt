use Rattle.std.proofs.Common.{refl, ◌∙◌}
use Rattle.http_node.proofs.ServeLemmas.{crew_as, made_as, placed_listens}
use Rattle.http_node.proofs.serve.serve_placed.Goals as goal

pub returns-clause-placed : goal.returns-clause-placed
returns-clause-placed g c =
    placed_listens c.args.options c.args.places c.bytes.result.now c.in-Ok.node.made _ _ _ _ _ _ _ _ c.bytes.ensures (c.in-Ok.ensures.made ∙ made_as c.args.options.limits _ _ _ _ c.origin.view_is refl)
    (crew_as c.args.options c.args.places _ c.advert.view_is) c.serve_listening.ensures.listens
