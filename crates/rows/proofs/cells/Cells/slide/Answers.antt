use Rattle.std.proofs.Common.{◌≡◌, ◌<◌, ◌⊎◌, inl, inr, None, length, get_or, arith, sym, ap, subst, ◌∙◌}
use Rattle.std.proofs.lemmas.List.{length-map}
use Rattle.rows.specs.Cells.{CellsSeen, cell_of, slid}
use Rattle.rows.proofs.CellLemmas.{read_at, named_within, gap_named, tied_slid, slid_at}
use Rattle.rows.proofs.cells.Cells.slide.Goals as goal

pub index_mut-requires-in-Some-2 : goal.index_mut-requires-in-Some-2
index_mut-requires-in-Some-2 g c =
    let i = c.self.inside in
    let l = subst (λ (v : CellsSeen g.row.T.Denot). c.args.p < length v.cells) (sym c.self.view_is) c.requires.within in
    named_within i.objects.entries i.log.items c.self.invariant c.args.p c.in-Some.index
    (read_at i.objects.entries i.log.items c.args.p c.index.result.now l c.index.ensures ∙ c.in-Some.is)

pub invariant_of-self : goal.invariant_of-self
invariant_of-self g c =
    let i = c.self.inside in
    let l = subst (λ (v : CellsSeen g.row.T.Denot). c.args.p < length v.cells) (sym c.self.view_is) c.requires.within in
    let to = subst (λ (v : CellsSeen g.row.T.Denot). c.args.to < length v.cells) (sym c.self.view_is) c.requires.to in
    let gap = subst (λ (v : CellsSeen g.row.T.Denot). (c.args.to ≡ c.args.p) ⊎ (get_or v.cells c.args.to None ≡ None)) (sym c.self.view_is) c.requires.gap in
    tied_slid i.objects.entries i.log.items c.self.invariant c.args.p c.in-Some.index
    (read_at i.objects.entries i.log.items c.args.p c.index.result.now l c.index.ensures ∙ c.in-Some.is) c.args.to
    (omega (arith, length-map i.log.items (cell_of i.objects.entries), to))
    (elim gap [ inl a ↦ inl a | inr b ↦ inr (gap_named i.objects.entries i.log.items c.self.invariant c.args.to b) ])

pub returns-in-Some-clause-cells : goal.returns-in-Some-clause-cells
returns-in-Some-clause-cells g c =
    let i = c.self.inside in
    let l = subst (λ (v : CellsSeen g.row.T.Denot). c.args.p < length v.cells) (sym c.self.view_is) c.requires.within in
    slid_at i.objects.entries i.log.items c.self.invariant c.args.p c.in-Some.index c.args.to
    (read_at i.objects.entries i.log.items c.args.p c.index.result.now l c.index.ensures ∙ c.in-Some.is)
    ∙ ap (λ (v : CellsSeen g.row.T.Denot). slid v.cells c.args.p c.args.to (get_or v.cells c.args.p None)) c.self.view_is
