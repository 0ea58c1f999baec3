use Rattle.std.proofs.Common.{sym, subst}
use Rattle.history.specs.Metadata.{forbidden}
use Rattle.delivery_core.proofs.Decisions.{decided_of}
use Rattle.delivery_core.proofs.edge.Edge.admit.Goals as goal
use Rattle.delivery_core.specs.Edge.{Holding, IsOfKept, index_of, invalid_of}
use Rattle.shelf.proofs.HeldLemmas.{part_same}
use Rattle.shelf.specs.KeptShelf.{IsPartOf}

pub enter-requires-clause-kept : goal.enter-requires-clause-kept
enter-requires-clause-kept c =
    let v = c.make_table.new.self.seen in
    subst (IsOfKept v.kept) (sym c.in_ok-decision.ensures)
    (decided_of (index_of v) v.kept c.args.asked.target (forbidden (index_of v) (invalid_of v) c.args.asked c.args.place c.args.moment))

pub returns-in-Some-clause-held : goal.returns-in-Some-clause-held
returns-in-Some-clause-held c = part_same _

pub returns-in_err-make_table-clause-held : goal.returns-in_err-make_table-clause-held
returns-in_err-make_table-clause-held c = rw c.make_table.ensures (part_same _)

pub returns-in_err-decision-clause-held : goal.returns-in_err-decision-clause-held
returns-in_err-decision-clause-held c = rw c.make_table.ensures (part_same _)

pub returns-in_err-what-clause-held : goal.returns-in_err-what-clause-held
returns-in_err-what-clause-held c = rw c.make_table.ensures (part_same _)

pub returns-clause-held : goal.returns-clause-held
returns-clause-held c = subst (λ (v : Holding). IsPartOf c.enter.new.self.held v.held) c.make_table.ensures c.enter.ensures.held
