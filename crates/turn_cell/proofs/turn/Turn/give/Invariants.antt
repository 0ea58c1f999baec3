use Rattle.turn_cell.proofs.turn.Turn.give.Given as goal

abbrev pub ghosts-pass_on : goal.ghosts-pass_on
ghosts-pass_on g a = record { history = g.history }
