use Rattle.std.proofs.Common.{◌≡◌, [], subst, ◌∙◌, sym, ap, append-nil, length, arith}
use Rattle.metadata_links.specs.Answers.{HasLink}
use Rattle.metadata_links.proofs.Items.{empty}
use Rattle.metadata_links.proofs.States.{has_next, is_bad, is_left, all_left}
use Rattle.metadata_links.proofs.gathering.next_of.Goals as goal

pub returns-in-Ok-clause-leads : goal.returns-in-Ok-clause-leads
returns-in-Ok-clause-leads c =
    let found = subst (HasLink c.in-Some.document c.next.new.self) c.in-Some-2.is c.in_ok-link.ensures in
    has_next _ c.documents.opened.items c.pop.new.self.items c.in-Some.document c.next.new.self c.documents.invariant c.in-Some.ensures.items c.in-Some-2.link found c.push.new.self.items c.in-Ok.ensures.items

pub returns-in-Some-into_bad-clause-leads : goal.returns-in-Some-into_bad-clause-leads
returns-in-Some-into_bad-clause-leads c =
    let found = subst (HasLink c.in-Some.document c.next.new.self) c.in-None.is c.in_ok-link.ensures in
    is_bad _ c.documents.opened.items c.pop.new.self.items c.in-Some.document c.next.new.self c.documents.invariant c.in-Some.ensures.items c.in-Some-into_bad.path found.0 found.1 (sym c.in-Some-into_bad.is ∙ c.into_bad.ensures)

pub documents-preserved : goal.documents-preserved
documents-preserved c =
    let found = subst (HasLink c.in-Some.document c.next.new.self) c.in-None.is c.in_ok-link.ensures in
    is_left _ c.documents.opened.items c.pop.new.self.items c.in-Some.document c.next.new.self c.documents.invariant c.in-Some.ensures.items found.0 found.1 (sym c.in-None-into_bad.is ∙ c.into_bad.ensures)

pub returns-clause-leads : goal.returns-clause-leads
returns-clause-leads c =
    let left : c.pop.new.self.items ≡ [] = empty _ (sym c.pop.new.self.ok.0 ∙ c.in_default.ensures.cases.1) in
    (all_left _ c.documents.opened.items c.documents.invariant (empty _ (sym c.documents.opened.ok.0 ∙ c.in_default.ensures.cases.0)), left)
