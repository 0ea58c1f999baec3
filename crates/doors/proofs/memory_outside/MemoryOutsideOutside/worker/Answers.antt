use Rattle.doors.proofs.MemoryDoorLemmas.{first_of, next_left, rest_all}
use Rattle.doors.proofs.MemoryOutsideLemmas.{calls_more}
use Rattle.doors.specs.MemoryOutside.{IsFresh}
use Rattle.doors.proofs.memory_outside.MemoryOutsideOutside.worker.Goals as goal

pub invariant_of-self : goal.invariant_of-self
invariant_of-self g c = rest_all IsFresh _ _ _ c.self.invariant (next_left _ _ _ c.in-Some.ensures.items)

pub returns-in-Some-clause-fresh : goal.returns-in-Some-clause-fresh
returns-in-Some-clause-fresh g c = first_of IsFresh _ _ _ c.self.invariant (next_left _ _ _ c.in-Some.ensures.items)

pub returns-in-Some-clause-diary : goal.returns-in-Some-clause-diary
returns-in-Some-clause-diary g c = rw (← c.self.view_is) (calls_more c.self.inside.telling c.note_hired-noted.result _ _ _ _ _ c.are_both-self-inside.ensures (c.note_hired-noted.ensures c.self.inside.places))

pub returns-in-None-clause-diary : goal.returns-in-None-clause-diary
returns-in-None-clause-diary g c = rw (← c.self.view_is) (calls_more c.self.inside.telling c.note_hired-noted-in-None.result _ _ _ _ _ c.are_both-self-inside-in-None.ensures (c.note_hired-noted-in-None.ensures c.self.inside.places))
