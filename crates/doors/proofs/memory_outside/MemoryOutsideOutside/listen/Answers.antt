use Rattle.doors.proofs.MemoryOutsideLemmas.{calls_more}
use Rattle.doors.proofs.memory_outside.MemoryOutsideOutside.listen.Goals as goal

pub returns-in-Some-clause-diary : goal.returns-in-Some-clause-diary
returns-in-Some-clause-diary g c = rw (← c.self.view_is) (calls_more c.self.inside.telling c.note_listened-noted.result _ _ _ _ _ c.are_both-self-inside.ensures (c.note_listened-noted.ensures c.self.inside.places))

pub returns-in-None-clause-diary : goal.returns-in-None-clause-diary
returns-in-None-clause-diary g c = rw (← c.self.view_is) (calls_more c.self.inside.telling c.note_listened-noted-in-None.result _ _ _ _ _ c.are_both-self-inside-in-None.ensures (c.note_listened-noted-in-None.ensures c.self.inside.places))
