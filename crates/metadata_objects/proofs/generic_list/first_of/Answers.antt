use Rattle.std.proofs.Common.{sym, ◌∙◌}
use Rattle.metadata_objects.proofs.FirstLemmas.{first_kept, first_new, first_none}
use Rattle.metadata_objects.proofs.generic_list.first_of.Goals as goal

pub returns-in-Some : goal.returns-in-Some
returns-in-Some c = λ items long before.
    let there = rw c.in-Some.is at before in
    first_kept c.args.kind.now items c.args.object.now c.in-Some.place there

pub returns-then-is : goal.returns-then-is
returns-then-is c = λ items long before.
    let none = rw c.in-None.is at before in
    first_new c.args.kind.now items c.args.object.now c.args.at long (sym c.is.ensures.value ∙ c.if-is.true) none

pub returns-else-is : goal.returns-else-is
returns-else-is c = λ items long before.
    let none = rw c.in-None.is at before in
    first_none c.args.kind.now items c.args.object.now (sym c.is.ensures.value ∙ c.if-is.false) none
