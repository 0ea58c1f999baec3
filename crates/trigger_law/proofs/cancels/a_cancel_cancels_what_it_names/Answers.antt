use Rattle.trigger_law.proofs.CancelLaw.{named_cancelled, others_stay}
use Rattle.trigger_law.proofs.cancels.a_cancel_cancels_what_it_names.Goals as goal

pub returns-clause-named : goal.returns-clause-named
returns-clause-named c = λ made h pass moment place id ids list is there. named_cancelled made h pass moment ids place id list is there

pub returns-clause-others : goal.returns-clause-others
returns-clause-others c = λ made h pass moment id ids none. others_stay made h pass moment ids id none
