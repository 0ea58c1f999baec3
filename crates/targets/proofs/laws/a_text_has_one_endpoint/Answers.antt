use Rattle.targets.proofs.EndpointLemmas.{one_endpoint}
use Rattle.targets.proofs.laws.a_text_has_one_endpoint.Goals as goal

pub returns : goal.returns
returns c = one_endpoint
