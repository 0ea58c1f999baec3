use Rattle.cdni_log.proofs.ExtraLemmas.{logged_of}
use Rattle.cdni_log.proofs.extra.logged_value.Goals as goal

pub returns-clause-logged : goal.returns-clause-logged
returns-clause-logged c = logged_of c.value_logged.result c.args.value.now c.value_logged.ensures c.a_logged_value_has_no_control.ensures
