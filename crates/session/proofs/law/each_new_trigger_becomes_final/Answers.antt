use Rattle.session_base.specs.Doing.{nothing}
use Rattle.session.proofs.SettledLemmas.{all_but_last_settle, all_settle, new_rests, runs_rest, runs_rest_but_last}
use Rattle.session.proofs.StepLemmas.{no_step_open, runs_steps}
use Rattle.session.proofs.law.each_new_trigger_becomes_final.Goals as goal

pub returns-clause-steps : goal.returns-clause-steps
returns-clause-steps c = new_rests

pub returns-clause-rests : goal.returns-clause-rests
returns-clause-rests c = λ settings place d end session enough. runs_rest settings place 0 nothing session.0 end d tt session.1 enough

pub returns-clause-ended : goal.returns-clause-ended
returns-clause-ended c = λ who settings place d end h last session told.
    no_step_open c.a_step_that_was_ended_is_not_open.ensures c.a_new_trigger_has_a_new_number.ensures who h d.calls last told (runs_steps who.number settings place 0 nothing session.0 end d tt session.1)

pub returns-clause-settles : goal.returns-clause-settles
returns-clause-settles c = λ who settings place d end h last session told enough.
    all_settle c.a_final_trigger_stays_final.ensures who h d.calls last told
    (no_step_open c.a_step_that_was_ended_is_not_open.ensures c.a_new_trigger_has_a_new_number.ensures who h d.calls last told (runs_steps who.number settings place 0 nothing session.0 end d tt session.1))
    (runs_rest settings place 0 nothing session.0 end d tt session.1 enough)

pub returns-clause-rests_before : goal.returns-clause-rests_before
returns-clause-rests_before c = λ settings place d end session. runs_rest_but_last settings place 0 nothing session.0 end d tt session.1

pub returns-clause-settles_before : goal.returns-clause-settles_before
returns-clause-settles_before c = λ who settings place d end h last session told.
    all_but_last_settle c.a_final_trigger_stays_final.ensures who h d.calls last told
    (no_step_open c.a_step_that_was_ended_is_not_open.ensures c.a_new_trigger_has_a_new_number.ensures who h d.calls last told (runs_steps who.number settings place 0 nothing session.0 end d tt session.1))
    (runs_rest_but_last settings place 0 nothing session.0 end d tt session.1)
