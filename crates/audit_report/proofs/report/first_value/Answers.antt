use Rattle.cdni_log.proofs.FieldListLemmas.{name_cut_off, no_name_cut_off}
use Rattle.audit_report.proofs.report.first_value.Goals as goal

pub returns-in-Some-clause-values : goal.returns-in-Some-clause-values
returns-in-Some-clause-values c = (name_cut_off _ _ _ _ c.in-Some.ensures).0

pub returns-in-Some-clause-shorter : goal.returns-in-Some-clause-shorter
returns-in-Some-clause-shorter c = (name_cut_off _ _ _ _ c.in-Some.ensures).1

pub returns-in-None-clause-values : goal.returns-in-None-clause-values
returns-in-None-clause-values c = no_name_cut_off _ _ c.in-None.ensures
