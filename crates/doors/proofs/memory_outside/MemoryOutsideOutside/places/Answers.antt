use Rattle.std.proofs.Common.{ap, ◌∙◌}
use Rattle.std.specs.Prelude.{Ok}
use Rattle.doors.specs.Outside.{Placed}
use Rattle.doors.proofs.MemoryOutsideLemmas.{calls_more, calls_more_as}
use Rattle.doors.proofs.memory_outside.MemoryOutsideOutside.places.Goals as goal

pub returns-in-Ok-clause-diary : goal.returns-in-Ok-clause-diary
returns-in-Ok-clause-diary g c = rw (← c.self.view_is) (calls_more_as c.self.inside.telling c.note_placed-noted.result _ _ _ _ _ _ (ap (λ text. Placed c.args.path.now (Ok text)) (c.in-Ok.ensures ∙ c.bytes.ensures)) c.are_both-self-inside.ensures (c.note_placed-noted.ensures c.self.inside.places))

pub returns-in-Err-clause-diary : goal.returns-in-Err-clause-diary
returns-in-Err-clause-diary g c = rw (← c.self.view_is) (calls_more c.self.inside.telling c.note_placed-noted-in-Err.result _ _ _ _ _ c.are_both-self-inside-in-Err.ensures (c.note_placed-noted-in-Err.ensures c.self.inside.places))
