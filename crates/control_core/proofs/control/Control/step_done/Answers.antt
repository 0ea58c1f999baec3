use Rattle.control_core.proofs.control.Control.step_done.Goals as goal

pub returns-clause-ready : goal.returns-clause-ready
returns-clause-ready c = rw (← c.self.view_is) c.step_done.ensures.ready
