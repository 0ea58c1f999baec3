use Rattle.cdni_base.proofs.ProviderLemmas.{one_provider_id}
use Rattle.cdni_base.proofs.laws.a_text_has_one_provider_id.Goals as goal

pub returns : goal.returns
returns c = one_provider_id
