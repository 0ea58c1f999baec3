use Rattle.workers.proofs.crew.serve_workers.Given as goal

abbrev pub ghosts-serve_as : goal.ghosts-serve_as
ghosts-serve_as g a = record { made = a.node.made }
