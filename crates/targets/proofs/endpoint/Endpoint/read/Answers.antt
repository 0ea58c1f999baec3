use Rattle.targets.proofs.EndpointLemmas.{endpoint_answers}
use Rattle.targets.proofs.FrontLemmas.{endpoint_stands}
use Rattle.targets.proofs.endpoint.Endpoint.read.Goals as goal

pub returns-clause-grammar : goal.returns-clause-grammar
returns-clause-grammar c = endpoint_answers _ _ c.read_endpoint.ensures

pub returns-clause-place : goal.returns-clause-place
returns-clause-place c = endpoint_stands _ _ c.read_endpoint.ensures
