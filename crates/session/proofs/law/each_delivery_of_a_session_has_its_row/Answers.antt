use Rattle.session_base.specs.Doing.{nothing}
use Rattle.session.proofs.RecordedLemmas.{all_recorded, runs_logs}
use Rattle.session.proofs.law.each_delivery_of_a_session_has_its_row.Goals as goal

pub returns : goal.returns
returns c = λ who settings place d end h last session told.
    all_recorded c.each_row_belongs_to_one_finish_and_one_admit.ensures.each who last d.calls
    (runs_logs c.what_is_open_has_begun_and_not_ended.ensures.deliveries who settings place 0 nothing session.0 end d (λ a b t. tt) session.1 h last told)
