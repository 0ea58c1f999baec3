use Rattle.std.proofs.Common.{◌∙◌}
use Rattle.turn_cell.specs.Cell.{passes_of}
use Rattle.workers.proofs.CrewLemmas.{count_new, no_cell}
use Rattle.workers.proofs.HiringLemmas.{new_from}
use Rattle.workers.proofs.crew.serve_as.Goals as goal

pub serve_over-requires-clause-passes : goal.serve_over-requires-clause-passes
serve_over-requires-clause-passes g c κs within = new_from c.in-Ok.cell.turns.table.shared.table_id (passes_of c.in-Ok.cell.turns) 0 _ c.in-Ok.passes c.in-Ok.ensures.numbered c.in-Ok.ensures.cell c.in-Ok.ensures.own c.in-Ok.ensures.unseen

pub serve_over-requires-clause-count : goal.serve_over-requires-clause-count
serve_over-requires-clause-count g c κs within = count_new c.in-Ok.passes _ c.in-Ok.ensures.numbered

pub returns-in-Err-clause-serves : goal.returns-in-Err-clause-serves
returns-in-Err-clause-serves g c = no_cell g.J.MadeWith.made c.args.crew.now _ _ _
