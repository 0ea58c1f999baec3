use Rattle.turn_cell.proofs.turn.Turn.give_as.Given as goal

abbrev pub ghost-give : goal.ghost-give
ghost-give g a = g.history
