use Rattle.std.proofs.Common.{refl, None, Err}
use Rattle.std.proofs.lemmas.Bool.{both_ways}
use Rattle.session_base.proofs.GatheringLemmas.{gives_none}
use Rattle.session_base.proofs.gathering.gather.Goals as goal

pub returns-in-Err-2-clause-gathers : goal.returns-in-Err-2-clause-gathers
returns-in-Err-2-clause-gathers g c =
    let gathered = c.in-Err.ensures.gathers in
    (gathered.0, gathered.1, (Err c.in-Err.fault, gathered.2, gives_none c.in-Err.fault (λ same. both_ways _ refl (c.if-is_memory.ensures.1 same))))
