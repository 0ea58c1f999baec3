use Rattle.std.proofs.Common.{[], ◌∷◌}
use Rattle.std.specs.Result.{is_ok}
use Rattle.doors.proofs.MemoryOutsideLemmas.{back_more, kept_more}
use Rattle.doors.proofs.memory_outside.MemoryOutsideOutside.give_back.Goals as goal

pub returns-clause-diary : goal.returns-clause-diary
returns-clause-diary c =
    rw (← c.self.view_is) (back_more c.self.inside.telling c.is_ok-kept.result _ _ c.self.inside.back.items c.push.new.self.items c.args.worker c.are_both-self-inside.ensures
    (kept_more c.self.inside.back.items c.push.new.self.items (c.args.worker ∷ []) (is_ok c.push.result) c.is_ok-kept.result c.push.ensures.items c.is_ok-kept.ensures.value))
