use Rattle.cdni_base.proofs.ProviderFronts.{provider_stands}
use Rattle.cdni_base.proofs.ProviderLemmas.{provider_answers}
use Rattle.cdni_base.proofs.provider.ProviderId.read.Goals as goal

pub returns-clause-grammar : goal.returns-clause-grammar
returns-clause-grammar c = provider_answers _ _ c.read_provider.ensures

pub returns-clause-place : goal.returns-clause-place
returns-clause-place c = provider_stands _ _ c.read_provider.ensures
