use Rattle.std.proofs.Common.{rules}
use Rattle.std.proofs.lemmas.List.{nil_from_length}
use Rattle.client_desk.proofs.parked.Lot.next_ready.Goals as goal

pub returns-clause-none : goal.returns-clause-none
returns-clause-none c = search (rules, nil_from_length)
