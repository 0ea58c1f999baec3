use Rattle.cdni_log.proofs.FieldListLemmas.{name_cut_off, no_name_cut_off}
use Rattle.cdni_log.proofs.field_list.next_name.Goals as goal

pub returns-in-Some-clause-names : goal.returns-in-Some-clause-names
returns-in-Some-clause-names c = (name_cut_off _ _ _ _ c.in-Some.ensures).0

pub returns-in-Some-clause-shorter : goal.returns-in-Some-clause-shorter
returns-in-Some-clause-shorter c = (name_cut_off _ _ _ _ c.in-Some.ensures).1

pub returns-in-None-clause-names : goal.returns-in-None-clause-names
returns-in-None-clause-names c = no_name_cut_off _ _ c.in-None.ensures
