use Rattle.std.proofs.Common.{◌≡◌, ℕ, false, [], ◌∷◌, ◌++◌, None, Some, length, get_or, sym, ap, subst, ◌∙◌, rules}
use Rattle.indexmap.proofs.CallerLemmas.{insert_entry-new}
use Rattle.rows.specs.Cells.{CellsSeen, AreTied, cells_of}
use Rattle.rows.proofs.CellLemmas.{pushed, absent}
use Rattle.rows.proofs.cells.Cells.push.Given.{Over}
use Rattle.rows.proofs.cells.Cells.push.Goals as goal

-- the map and the log after the call
both : (g : Over) → (c : goal.In-Ok g) → AreTied c.insert.new.self.entries c.push_reserved.new.self.items
    × (cells_of c.insert.new.self.entries c.push_reserved.new.self.items
    ≡ cells_of c.self.inside.objects.entries c.self.inside.log.items ++ Some c.args.item ∷ [])
both g c =
    let i = c.self.inside in
    let item = c.args.item in
    let apart = subst (λ (v : CellsSeen g.row.T.Denot). (p : ℕ) (o : g.row.T.Denot) → get_or v.cells p None ≡ Some o → g.T.PartialEq.eq item o ≡ false)
    (sym c.self.view_is) c.requires.absent in
    let none = absent i.objects.entries i.log.items c.self.invariant (g.T.PartialEq.eq item) apart in
    let place : c.len-place.result ≡ length i.log.items = search rules in
    pushed i.objects.entries i.log.items c.self.invariant item c.insert.new.self.entries c.push_reserved.new.self.items
    (c.in-Ok.ensures.entries ∙ insert_entry-new g.T.PartialEq.eq i.objects item c.len-place.result none
    ∙ ap (λ (n : ℕ). i.objects.entries ++ (item, n) ∷ []) place)
    (c.push_reserved.ensures.items ∙ ap (λ (n : ℕ). i.log.items ++ Some n ∷ []) c.len.ensures.len)

pub invariant_of-self : goal.invariant_of-self
invariant_of-self g c = (both g c).0

pub returns-clause-cells : goal.returns-clause-cells
returns-clause-cells g c = (both g c).1 ∙ ap (λ (v : CellsSeen g.row.T.Denot). v.cells ++ Some c.args.item ∷ []) c.self.view_is
