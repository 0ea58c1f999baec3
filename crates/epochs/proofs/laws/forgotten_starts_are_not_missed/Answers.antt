use Rattle.epochs.proofs.EpochsLemmas.{none_missed}
use Rattle.epochs.proofs.laws.forgotten_starts_are_not_missed.Goals as goal

pub returns : goal.returns
returns c = none_missed
