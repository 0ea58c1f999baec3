use Rattle.trigger_cascade.specs.Cascade.{passed_text}
use Rattle.trigger_cascade.proofs.LawLemmas.{posted_once}
use Rattle.trigger_cascade.proofs.OrderLemmas.{order_waits}
use Rattle.trigger_cascade.proofs.laws.each_other_cdn_is_posted_to_once.Goals as goal

pub returns : goal.returns
returns c words order path spec made last is runs =
    posted_once path (passed_text order path spec) order.rounds order.cdns (order_waits words order is) made last runs
