use Rattle.trigger_cascade.specs.Cascade.{passed_text}
use Rattle.trigger_cascade.proofs.LawLemmas.{open_polled}
use Rattle.trigger_cascade.proofs.OrderLemmas.{order_waits}
use Rattle.trigger_cascade.proofs.laws.an_open_cdn_was_polled_in_each_round.Goals as goal

pub returns : goal.returns
returns c words order path spec made last is runs =
    open_polled path (passed_text order path spec) order.rounds order.cdns (order_waits words order is) made last runs
