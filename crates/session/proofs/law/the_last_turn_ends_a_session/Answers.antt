use Rattle.std.proofs.Common.{arith}
use Rattle.session_base.specs.Doing.{nothing}
use Rattle.session.proofs.AnsweredLemmas.{answered_below, answered_in_turns, closed_below, only_turns, turns_all, turns_within}
use Rattle.session.proofs.law.the_last_turn_ends_a_session.Goals as goal

pub returns-clause-turns : goal.returns-clause-turns
returns-clause-turns c = λ settings place d end session. (
  λ ends. answered_in_turns session.0 end ends (omega (arith, turns_all settings place 0 nothing session.0 end d session.1 ends)),
  λ many. only_turns session.0 end (omega (arith, turns_within settings place 0 nothing session.0 end d session.1)) (λ ends. omega (arith, closed_below settings place 0 nothing session.0 end d session.1 ends)) many,
)

pub returns-clause-closed : goal.returns-clause-closed
returns-clause-closed c = λ settings place d end session ends. answered_below session.0 end ends (omega (arith, closed_below settings place 0 nothing session.0 end d session.1 ends))
