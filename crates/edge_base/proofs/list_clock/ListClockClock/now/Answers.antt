use Rattle.edge_base.proofs.ListClockLemmas.{one_moment_more}
use Rattle.edge_base.proofs.list_clock.ListClockClock.now.Goals as goal

pub returns-clause-told : goal.returns-clause-told
returns-clause-told c =
    rw (← c.self.view_is, c.saturating_add-self-inside.ensures, c.moment_in.ensures, c.deref.ensures.value)
    (one_moment_more (record { moments = c.self.inside.moments.items; calls = c.self.inside.calls }))
