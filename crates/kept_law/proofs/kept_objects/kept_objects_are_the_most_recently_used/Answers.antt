use Rattle.kept_law.proofs.KeptLaw.{kept_law}
use Rattle.kept_law.proofs.kept_objects.kept_objects_are_the_most_recently_used.Goals as goal

pub returns : goal.returns
returns c = kept_law
