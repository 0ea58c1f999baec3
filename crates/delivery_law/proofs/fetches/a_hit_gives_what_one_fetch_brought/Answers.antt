use Rattle.delivery_law.proofs.FetchLaw.{hit_law}
use Rattle.delivery_law.proofs.fetches.a_hit_gives_what_one_fetch_brought.Goals as goal

pub returns : goal.returns
returns c = hit_law
