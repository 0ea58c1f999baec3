use Rattle.std.proofs.Common.{ap}
use Rattle.std.specs.Prelude.{Err}
use Rattle.listing.specs.declared.text.Text.{Text}
use Rattle.http_node.proofs.ServeLemmas.{failed_rose, found_after, no_text, none_after}
use Rattle.http_node.proofs.serve.ask_places.Goals as goal

pub returns-in-Ok-clause-found : goal.returns-in-Ok-clause-found
returns-in-Ok-clause-found g c = found_after c.args.path.now c.bytes.result.now c.in-Ok.text c.bytes-in-Ok.result.now _ _ c.read_places.result c.bytes.ensures c.bytes-in-Ok.ensures c.in-Ok.ensures.diary c.read_places.ensures.found

pub returns-in-Ok-clause-none : goal.returns-in-Ok-clause-none
returns-in-Ok-clause-none g c = none_after c.args.path.now c.bytes.result.now c.in-Ok.text c.bytes-in-Ok.result.now _ _ _ _ c.read_places.result c.bytes.ensures c.bytes-in-Ok.ensures c.in-Ok.ensures.diary c.read_places.ensures.none

pub returns-in-Err-clause-none : goal.returns-in-Err-clause-none
returns-in-Err-clause-none g c =
    no_text c.args.path.now c.bytes.result.now c.in-Err.fault c.fault_status.result _ _ _ _ c.bytes.ensures c.in-Err.ensures.diary c.fault_status.ensures (λ bad. c.in-Err.ensures.address (ap Err bad)) (failed_rose Text _ _ c.in-Err.fault c.in-Err.ensures.cause)
