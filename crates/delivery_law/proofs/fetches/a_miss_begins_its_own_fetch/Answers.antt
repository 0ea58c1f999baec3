use Rattle.delivery_law.proofs.FetchLaw.{miss_law}
use Rattle.delivery_law.proofs.fetches.a_miss_begins_its_own_fetch.Goals as goal

pub returns : goal.returns
returns c = miss_law
