use Rattle.thread_tests.proofs.turns.limits_of_two_turns.Given as goal

abbrev pub ghosts-limits_as : goal.ghosts-limits_as
ghosts-limits_as g a = record { limit = a.limit }
