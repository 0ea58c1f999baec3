use Rattle.log_audit.proofs.FrameLemmas.{before_within, line_cut_off, whole_cut_off}
use Rattle.log_audit.proofs.line.end_of_line.Goals as goal

pub returns-in-Some-clause-within : goal.returns-in-Some-clause-within
returns-in-Some-clause-within c = before_within _ _ _ c.in-Some.ensures

pub returns-in-Some-clause-cut : goal.returns-in-Some-clause-cut
returns-in-Some-clause-cut c = line_cut_off _ _ _ c.in-Some.ensures

pub returns-in-None-clause-cut : goal.returns-in-None-clause-cut
returns-in-None-clause-cut c = whole_cut_off _ c.requires c.in-None.ensures
