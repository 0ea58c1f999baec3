use Rattle.workers.proofs.finishing.end_job.Goals as goal

pub returns-clause-kept : goal.returns-clause-kept
returns-clause-kept g c = c.take_in.ensures c.args.job.home c.into_pass.ensures.cell c.into_pass.ensures.numbers c.into_pass.ensures.seen c.requires.cell.0 c.requires.cell.1
