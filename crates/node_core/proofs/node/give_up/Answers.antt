use Rattle.std.proofs.Common.{arith, sym, ◌∙◌}
use Rattle.node_core.proofs.NeededLemmas.{popped, settled}
use Rattle.node_core.proofs.node.give_up.Goals as goal

pub front-preserved : goal.front-preserved
front-preserved c = record {
  holds = λ m made h held. popped m c.args.state.now made h c.front.journal c.retire.new.self (sym c.is_first_unneeded.ensures ∙ c.front-test.true) c.retire.ensures.stored c.retire.ensures.retired (c.front.invariant.holds m made h held);
  spare = (let before = c.front.invariant.spare in let more = c.retire.ensures.spare in omega (arith, before, more));
}

pub returns-clause-stands : goal.returns-clause-stands
returns-clause-stands c = λ m made h held. settled m c.args.state.now made h c.front.journal (sym c.is_first_unneeded.ensures ∙ c.front-test.false) (c.front.invariant.holds m made h held)
