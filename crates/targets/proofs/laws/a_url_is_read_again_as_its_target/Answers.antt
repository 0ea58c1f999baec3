use Rattle.targets.proofs.UrlLemmas.{written_is_read}
use Rattle.targets.proofs.laws.a_url_is_read_again_as_its_target.Goals as goal

pub returns : goal.returns
returns c = written_is_read
